-- How a resolved configuration is judged, and what configuration it is. First each object by itself, in one walk; then what
-- the objects have to be together, one rule after the other, each at its first place (barectf 3.1, "Configuration object").
use Rattle.std.specs.Prelude.{◌≡◌, ℕ, ◌-◌, ◌&&◌, List, [], Option, Some, is_some, is_none, length, Result, Ok, Err, codes, if◌then◌else◌, ⊤}
use Rattle.serde_json.specs.Data.{Data}
use Rattle.ctf_types.specs.declared.Config.{Config}
use Rattle.conf_tree.specs.declared.fault_kind.FaultKind.{FaultKind}
use Rattle.conf_tree.specs.declared.fault_kind.FaultKind.TheVariants.{FieldTooSmall, NoUuid, TwoOrders}
use Rattle.conf_tree.specs.Flaw.{Flaw, key, here, within}
use Rattle.conf_tree.specs.Reading.{◌>>=◌}
use Rattle.conf_tree.specs.Walk.{refusal}
use Rattle.conf_table.specs.declared.place.Place.TheVariants.{Root}
use Rattle.conf_table.specs.declared.row.Content.TheVariants.{At}
use Rattle.conf_judge.specs.Flaws.{configuration_flaws}
use Rattle.conf_judge.specs.Limits.{configuration_limits}
use Rattle.conf_draft.specs.declared.draft.Draft.{Draft}
use Rattle.conf_draft.specs.Traces.{draft_of}
use Rattle.conf_laws.specs.TableFlaws.{IsFlawOf}
use Rattle.conf_check.specs.declared.stream_rule.StreamRule.TheVariants.{NumbersFit, RecordsHaveBits, ClocksAreThere, TimestampsAreSized}
use Rattle.conf_check.specs.StreamRules.{holds, streams_judged, unless}

-- a flaw of the trace type, seen from the configuration
abbrev pub in_type : Flaw → Flaw
in_type flaw = within (key (codes "trace")) (within (key (codes "type")) flaw)

-- a flaw of a feature of the packet header
unfoldable pub header_flaw : List ℕ → FaultKind → Flaw
header_flaw name kind = in_type (within (key (codes "$features")) (within (key name) (here kind)))

-- the field of a data stream type's number holds the largest of them
unfoldable pub stream_number_fits : Config → Result ⊤ Flaw
stream_number_fits c = unless (holds (length c.streams - 1) c.header.stream_id) (header_flaw (codes "data-stream-type-id-field-type") FieldTooSmall)

-- the identifier is there where it is asked for
unfoldable pub number_given : Draft → Result ⊤ Flaw
number_given draft = if draft.lacks_number then Err (in_type (within (key (codes "uuid")) (here NoUuid))) else Ok tt

unfoldable pub identifier_given : Config → Result ⊤ Flaw
identifier_given c = if is_some c.header.uuid && is_none c.uuid then Err (header_flaw (codes "uuid-field-type") NoUuid) else Ok tt

unfoldable pub one_order : Draft → Result ⊤ Flaw
one_order draft = if draft.two_orders then Err (in_type (here TwoOrders)) else Ok tt

-- one rule after the other
unfoldable pub whole : Data → Draft → Result ⊤ Flaw
whole d draft = do
  _ ← stream_number_fits draft.config
  _ ← streams_judged NumbersFit draft.config
  _ ← streams_judged RecordsHaveBits draft.config
  _ ← streams_judged ClocksAreThere draft.config
  _ ← number_given draft
  _ ← identifier_given draft.config
  _ ← refusal (configuration_limits d)
  _ ← one_order draft
  streams_judged TimestampsAreSized draft.config

-- c is what the tree says, where `number` is the identifier that is handed in: no walk over its objects tells of a flaw, and none
-- of the rules is broken
pub record IsJudgedTo (d : Data) (number : Option (List ℕ)) (c : Config) : Type 0 where
  pub draft : Draft
  pub no_flaw : configuration_flaws d ≡ []
  pub says : draft_of number d ≡ Some draft
  pub passes : whole d draft ≡ Ok tt
  pub config_is : draft.config ≡ c

-- every row of the objects' tables holds
abbrev pub KeepsAllRows : Data → Type 0
KeepsAllRows d = (flaw : Flaw) → ¬ IsFlawOf [] (At Root) d flaw
