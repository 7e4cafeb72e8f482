-- What is asked of the name of an alias.
use Rattle.std.specs.{Borrow.Bor, Prelude.{ℕ, List, Option, None, Some, Bool}}
use Rattle.serde_json.specs.{Data.Members, View.members_view}
use Rattle.conf_tree.specs.declared.fault_kind.FaultKind.{FaultKind}
use Rattle.conf_inherit.specs.{declared.named.Asked.Asked, declared.named.Asked.TheVariants.{IsResolved, IsOver}, declared.outcomes.{AliasOutcomes.AliasOutcomes, Known.Known}}
use Rattle.conf_inherit.specs.{AliasFlaws.open_in, AliasOutcomes.outcomes_of, Flaws.known_in, Named.has, Rounds.is_over}

abbrev pub passes : Asked → List ℕ → Bool
passes (IsResolved resolved) n = has (members_view resolved.now.entries) n
passes (IsOver aliases outcomes) n = is_over (members_view aliases.now.entries) (outcomes_of outcomes.now) n

-- what is wrong with the name of a type, where the outcomes of the aliases are told, and where they are not
abbrev pub asked_by : Members → Option (Bor AliasOutcomes) → List ℕ → Option FaultKind
asked_by al None = known_in al
asked_by al (Some outcomes) = open_in al (outcomes_of outcomes.now)

abbrev pub asked_of : Known → List ℕ → Option FaultKind
asked_of known = asked_by (members_view known.aliases.now.entries) known.outcomes
