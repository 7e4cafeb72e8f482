use Rattle.std.proofs.Common.{◌≡◌}
use Rattle.serde_json.specs.View.{members_view}
use Rattle.conf_judge.specs.Shapes.{element_has_bits}
use Rattle.conf_judge.proofs.shape.+bits.Given as goal

abbrev pub invariant-have_bits-loop-name : goal.invariant-have_bits-loop-name
invariant-have_bits-loop-name l = element_has_bits (members_view l.members.entries) ≡ element_has_bits (members_view l.name-iterator)
