use Rattle.tsdl_meaning.proofs.BlockAttributes.{version_wrong}
use Rattle.std.proofs.Common.{◌∙◌, codes}
use Rattle.tsdl_meaning.proofs.TextWords.{IsAttribute, StopsWhere, value_toks}
use Rattle.tsdl_meaning.proofs.JudgedParts.{handed}
use Rattle.tsdl_meaning.proofs.Misfits.{attribute_unfit, part_asks}
use Rattle.tsdl_meaning.proofs.judge.attribute.judge_version.Goals as goal

pub returns-in_err-judge_natural-clause-fault : goal.returns-in_err-judge_natural-clause-fault
returns-in_err-judge_natural-clause-fault c =
    let v = c.args.value.now in
    let part = c.args.part.now in
    let stop = c.in_err-judge_natural.field-0.0 in
    handed c.from_residual.result stop (StopsWhere (IsAttribute (codes "trace") part) c.args.at (value_toks v)) c.from_residual.ensures.1
    (λ front behind p. c.in_err-judge_natural.ensures.fault.stops front behind (λ e. attribute_unfit (codes "trace") part v front p (part_asks part v c.requires ∙ e)))

pub returns-clause-fault : goal.returns-clause-fault
returns-clause-fault c = λ front behind p.
    c.at.ensures front behind (version_wrong c.args.value.now c.in_ok-judge_natural.field-0 front c.args.part.now _ c.in_ok-judge_natural.ensures.value c.requires p c.in_ok-part.ensures.ok)
