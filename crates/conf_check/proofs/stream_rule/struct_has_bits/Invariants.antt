use Rattle.std.proofs.Common.{◌≡◌, drop}
use Rattle.std.specs.List.{list_any}
use Rattle.conf_check.specs.StreamRules.{member_has_bits}
use Rattle.conf_check.proofs.stream_rule.struct_has_bits.Given as goal

-- the members that are left have bits where all of them do
abbrev pub invariant-loop-index : goal.invariant-loop-index
invariant-loop-index l =
    list_any (λ m. member_has_bits m.1) l.structure.members ≡ list_any (λ m. member_has_bits m.1) (drop l.index l.structure.members)
