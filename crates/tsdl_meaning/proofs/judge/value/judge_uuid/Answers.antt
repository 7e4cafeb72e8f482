use Rattle.std.proofs.Common.{sym, ap, ◌∙◌}
use Rattle.tsdl_meaning.proofs.TextWords.{StopsUnless, is_identity, is_some, is_text, value_toks}
use Rattle.tsdl_meaning.proofs.JudgedParts.{handed}
use Rattle.tsdl_meaning.proofs.Misfits.{misfits}
use Rattle.tsdl_meaning.proofs.judge.value.judge_uuid.Goals as goal

pub returns-in_err-judge_text-clause-fault : goal.returns-in_err-judge_text-clause-fault
returns-in_err-judge_text-clause-fault c =
    let v = c.args.value.now in
    let stop = c.in_err-judge_text.field-0.0 in
    handed c.from_residual.result stop (StopsUnless (is_identity v) c.args.at (value_toks v)) c.from_residual.ensures.1
    (misfits (is_identity v) (is_text v) c.args.at (value_toks v) stop (sym (ap is_some c.uuid_value.ensures) ∙ sym c.is_some.ensures ∙ c.if-is_some.false) c.in_err-judge_text.ensures.fault)
