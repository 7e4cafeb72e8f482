use Rattle.serde_json.specs.View.{members_view}
use Rattle.conf_inherit.specs.AliasOutcomes.{outcomes_of}
use Rattle.conf_inherit.proofs.SpentLemmas.{RoundsLeave}
use Rattle.conf_inherit.proofs.rounds.settle_aliases.Given as goal

-- turns led here, and each of the rounds gave an outcome
abbrev pub invariant-loop-turn : goal.invariant-loop-turn
invariant-loop-turn l = RoundsLeave (members_view l.fn.aliases.entries) (members_view l.aliases.entries) (outcomes_of l.outcomes) l._turn
