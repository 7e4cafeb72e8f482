-- The outcomes of the aliases so far, as the definitions see them.
use Rattle.serde_json.specs.View.{members_view}
use Rattle.conf_inherit.specs.{declared.outcomes.AliasOutcomes.AliasOutcomes, Rounds.Outcomes}

abbrev pub outcomes_of : AliasOutcomes → Outcomes
outcomes_of outcomes = record { done = members_view outcomes.resolved.entries; refused = members_view outcomes.refused.entries }
