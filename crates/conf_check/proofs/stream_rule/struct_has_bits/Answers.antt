use Rattle.std.proofs.Common.{◌≡◌, ℕ, zero, suc, Bool, ◌||◌, List, [], ◌∷◌, drop, slice_get, option_map, Some, add-one, ap, sym, ◌∙◌}
use Rattle.std.specs.List.{list_any}
use Rattle.ctf_types.specs.declared.MemberType.{MemberType}
use Rattle.conf_check.specs.StreamRules.{member_has_bits, struct_has_bits}
use Rattle.conf_check.proofs.stream_rule.struct_has_bits.Goals as goal

-- the front member has bits, or one behind it
turn : (ms : List (List ℕ × MemberType)) (i : ℕ) (m : MemberType) (x : Bool) → option_map (λ m. m.1) (slice_get ms i) ≡ Some m → member_has_bits m ≡ x
    → list_any (λ m. member_has_bits m.1) (drop i ms) ≡ (x || list_any (λ m. member_has_bits m.1) (drop (suc i) ms))
turn [] i m x there is = cc
turn (m ∷ ms) zero _ x there is = ap (λ b. b || list_any (λ m. member_has_bits m.1) ms) (cc (there, is))
turn (m ∷ ms) (suc i) n x there is = turn ms i n x there is

pub returns-then-member_has_bits : goal.returns-then-member_has_bits
unfolding struct_has_bits
returns-then-member_has_bits c = sym (c.loop-index.invariant ∙ turn c.args.structure.now.members c.loop-index.index _ _ c.member_at.ensures (sym c.member_has_bits.ensures ∙ c.if-member_has_bits.true))

pub loop-index-preserved : goal.loop-index-preserved
loop-index-preserved c = rw add-one (c.loop-index.invariant ∙ turn c.args.structure.now.members c.loop-index.index _ _ c.member_at.ensures (sym c.member_has_bits.ensures ∙ c.if-member_has_bits.false))
