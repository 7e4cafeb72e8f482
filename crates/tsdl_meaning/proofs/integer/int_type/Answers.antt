use Rattle.std.proofs.Common.{sym, ◌∙◌, arith}
use Rattle.std.proofs.lemmas.Bool.{false≢true}
use Rattle.tsdl_grammar.proofs.TypeParts.{int_type-gives, int_type-refuses}
use Rattle.tsdl_meaning.proofs.MemberNames.{divisor_at_most}
use Rattle.tsdl_meaning.proofs.integer.int_type.Goals as goal

pub returns-then-size-gt64 : goal.returns-then-size-gt64
returns-then-size-gt64 c =
    let a = c.args in
    sym (int_type-refuses a.size a.align a.signed a.base a.clock (λ h. let most = divisor_at_most a.align h.2.1 in absurd (omega (arith, h.1, most))))

pub returns-in_err-plain : goal.returns-in_err-plain
returns-in_err-plain c =
    let a = c.args in c.from_residual.ensures ∙ sym (int_type-refuses a.size a.align a.signed a.base a.clock (λ h. absurd (false≢true (c.in_err-plain.ensures.accepted.1 h))))

pub returns-in-None : goal.returns-in-None
returns-in-None c =
    let a = c.args in let p = c.in_ok-plain.ensures in
    sym (int_type-gives c.in_ok-plain.plain a.size a.align a.signed a.base a.clock p.size p.align p.signed p.base (p.no_clock ∙ sym c.in-None.is))

pub returns-in-Some : goal.returns-in-Some
returns-in-Some c =
    let a = c.args in let p = c.in_ok-plain.ensures in let w = c.with_clock.ensures in
    sym (int_type-gives c.with_clock.result a.size a.align a.signed a.base a.clock (w.same.0 ∙ p.size) (w.same.1 ∙ p.align) (w.same.2 ∙ p.signed)
    (w.same.3 ∙ p.base) (w.mapped ∙ sym c.in-Some.is))
