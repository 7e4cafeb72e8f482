use Rattle.std.proofs.Common.{sym, ap, ◌∙◌, arith}
use Rattle.tsdl_meaning.proofs.TextWords.{AsksAlignment, StopsWhere, is_some, number_toks}
use Rattle.tsdl_meaning.proofs.JudgedParts.{handed}
use Rattle.tsdl_meaning.proofs.MemberNames.{large_align, aligned_is, unaligned_is, not_aligned}
use Rattle.tsdl_meaning.proofs.judge.value.judge_align.Goals as goal

pub returns-then-is_some-clause-aligned : goal.returns-then-is_some-clause-aligned
returns-then-is_some-clause-aligned c = aligned_is c.args.number.now c.in_ok-align.align c.in_ok-align.ensures.value (sym (ap is_some c.alignment.ensures) ∙ sym c.is_some.ensures ∙ c.if-is_some.true)

pub returns-then-is_power_of_two-clause-fault : goal.returns-then-is_power_of_two-clause-fault
returns-then-is_power_of_two-clause-fault c = λ front behind asks.
    c.at.ensures front behind (large_align front c.args.number.now c.in_ok-align.align asks.0 c.in_ok-align.ensures.value (omega arith))

pub returns-in_err-align-clause-fault : goal.returns-in_err-align-clause-fault
returns-in_err-align-clause-fault c =
    let n = c.args.number.now in
    let stop = c.in_err-align.field-0.0 in
    handed c.from_residual.result stop (StopsWhere (AsksAlignment n) c.args.at (number_toks n)) c.from_residual.ensures.1
    (λ front behind asks. c.in_err-align.ensures.fault.stops front behind (λ e. asks.1 (not_aligned n e)))

pub returns-clause-fault : goal.returns-clause-fault
returns-clause-fault c = λ front behind asks.
    c.misfit_number.ensures.stops front behind
    (λ _. asks.1 (unaligned_is c.args.number.now c.in_ok-align.align c.in_ok-align.ensures.value (sym (ap is_some c.alignment.ensures) ∙ sym c.is_some.ensures ∙ c.if-is_some.false)))
