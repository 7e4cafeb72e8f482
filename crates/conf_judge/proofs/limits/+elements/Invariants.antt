use Rattle.std.proofs.Common.{◌≡◌, Some}
use Rattle.serde_json.specs.View.{view, members_view}
use Rattle.conf_judge.specs.Limits.{elements, elements_in_array}
use Rattle.conf_judge.proofs.limits.+elements.Given as goal

-- the members that are left have the answer of the type
abbrev pub invariant-loop-name : goal.invariant-loop-name
invariant-loop-name l = elements l.fn.levels (view l.value) ≡ elements_in_array l.inner (Some l.count) (members_view l.name-iterator)
