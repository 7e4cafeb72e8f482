use Rattle.std.proofs.Common.{ℕ, ◌<◌, subst, arith}
use Rattle.std.specs.Char.{digit_value}
use Rattle.tsdl_grammar.specs.Literals.{digits_from}
use Rattle.tsdl_grammar.proofs.Literals.{at_least}
use Rattle.tsdl_grammar.proofs.literal.digits_value.Goals as goal

pub returns-in_err-checked_mul : goal.returns-in_err-checked_mul
returns-in_err-checked_mul c =
    let lt = subst (λ (x : ℕ). digit_value x < c.args.radix) c.from.ensures c.in-Some.ensures.value.0 in
    let b = at_least c.args.radix c.loop-b.value (digits_from c.args.radix 0 c.args.bytes.now) c.args.bytes.now c.loop-b.b-index (omega arith) c.loop-b-test.true lt c.loop-b.invariant.0 in
    rw c.from_residual.ensures (λ h. c.in_err-checked_mul.ensures (rw c.from-in-loop-b.ensures (omega (arith, b, h))))

pub returns-in_err-value : goal.returns-in_err-value
returns-in_err-value c =
    let lt = subst (λ (x : ℕ). digit_value x < c.args.radix) c.from.ensures c.in-Some.ensures.value.0 in
    let b = at_least c.args.radix c.loop-b.value (digits_from c.args.radix 0 c.args.bytes.now) c.args.bytes.now c.loop-b.b-index (omega arith) c.loop-b-test.true lt c.loop-b.invariant.0 in
    let m = rw c.from-in-loop-b.ensures at c.in_ok-checked_mul.ensures.1 in
    let d = rw c.from.ensures at c.in-Some.ensures.value.1 in
    rw c.from_residual-in_err-value.ensures (λ h. c.in_err-value.ensures (rw c.from-in-loop-b-2.ensures (omega (arith, b, m, d, h))))
