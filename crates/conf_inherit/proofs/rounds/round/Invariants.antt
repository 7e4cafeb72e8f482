use Rattle.std.proofs.Common.{◌≡◌, true, false}
use Rattle.serde_json.specs.View.{members_view}
use Rattle.conf_inherit.specs.{AliasOutcomes.outcomes_of, Rounds.{round, all_settled}}
use Rattle.conf_inherit.proofs.rounds.round.Given as goal

-- what is left of the round leads to what the whole round does, and nothing changed until an alias was due
abbrev pub invariant-loop-name : goal.invariant-loop-name
invariant-loop-name l = record {
  turned : round (members_view l.aliases.entries) (members_view l.name-iterator) (outcomes_of l.outcomes) ≡ round (members_view l.aliases.entries) (members_view l.aliases.entries) (outcomes_of l.initial.outcomes);
  some_due : l.due ≡ true → all_settled (members_view l.aliases.entries) (members_view l.aliases.entries) (outcomes_of l.initial.outcomes) ≡ false;
  none_due : l.due ≡ false
      → (outcomes_of l.outcomes ≡ outcomes_of l.initial.outcomes)
      × (all_settled (members_view l.aliases.entries) (members_view l.name-iterator) (outcomes_of l.outcomes) ≡ all_settled (members_view l.aliases.entries) (members_view l.aliases.entries) (outcomes_of l.initial.outcomes));
}
