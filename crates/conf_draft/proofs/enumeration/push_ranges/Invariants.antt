use Rattle.std.proofs.Common.{◌≡◌, ◌++◌, drop}
use Rattle.serde_json.specs.View.{view, items_view}
use Rattle.conf_draft.specs.Enumerations.{ranges_in, ranges_of}
use Rattle.conf_draft.proofs.enumeration.push_ranges.Given as goal

-- the mappings so far, and those of the ranges that are left
abbrev pub invariant-loop-range : goal.invariant-loop-range
invariant-loop-range l = l.mappings ++ ranges_in l.label (items_view (drop l.range-index l.range-items)) ≡ l.initial.mappings ++ ranges_of l.label (view l.ranges)
