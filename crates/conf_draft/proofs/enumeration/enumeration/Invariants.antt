use Rattle.std.proofs.Common.{◌≡◌, ◌++◌}
use Rattle.std.specs.Prelude.{codes}
use Rattle.serde_json.specs.View.{members_view}
use Rattle.conf_draft.specs.Enumerations.{labels_in}
use Rattle.conf_draft.specs.Lookups.{properties}
use Rattle.conf_draft.proofs.enumeration.enumeration.Given as goal

-- the mappings so far, and those of the labels that are left
abbrev pub invariant-loop-label : goal.invariant-loop-label
invariant-loop-label l = l.mappings ++ labels_in (members_view l.label-iterator) ≡ labels_in (properties (codes "mappings") (members_view l.members.entries))
