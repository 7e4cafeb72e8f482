use Rattle.std.proofs.Common.{◌≡◌, ◌+◌, ◌≤◌}
use Rattle.serde_json.specs.View.{view, members_view}
use Rattle.ctf_types.specs.declared.limits.TheConstants.{MAX_CONFIG_RANGES}
use Rattle.conf_judge.specs.Limits.{ranges_in, ranges_of}
use Rattle.conf_judge.proofs.limits.few_ranges.Given as goal

-- what is left of the most, and the ranges that are to come
abbrev pub invariant-loop-label : goal.invariant-loop-label
invariant-loop-label l = (l.left ≤ MAX_CONFIG_RANGES) × (ranges_of (view l.value) + l.left ≡ ranges_in (members_view l._label-iterator) + MAX_CONFIG_RANGES)
