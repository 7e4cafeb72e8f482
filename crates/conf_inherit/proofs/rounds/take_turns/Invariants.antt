use Rattle.serde_json.specs.{Data.Members, View.members_view}
use Rattle.conf_inherit.specs.{AliasOutcomes.outcomes_of, Spent.TurnsLeave}
use Rattle.conf_inherit.proofs.rounds.take_turns.Given as goal

-- the turns so far lead on from where the first one began
abbrev pub invariant-loop-turn : goal.invariant-loop-turn
invariant-loop-turn l =
    (al : Members) → TurnsLeave al (outcomes_of l.initial.outcomes) (members_view l.initial.aliases.entries) → TurnsLeave al (outcomes_of l.outcomes) (members_view l.aliases.entries)
