use Rattle.std.proofs.Common.{sym, ◌∙◌}
use Rattle.tsdl_meaning.specs.Judging.{is_name}
use Rattle.tsdl_meaning.proofs.TextWords.{is_encoding, value_toks}
use Rattle.tsdl_meaning.proofs.Misfits.{misfits}
use Rattle.tsdl_meaning.proofs.judge.kind.judge_encoding.Goals as goal

pub returns-clause-fault : goal.returns-clause-fault
returns-clause-fault c =
    let v = c.args.value.now in
    misfits (is_encoding v) (is_name v) c.args.at (value_toks v) c.unread.result (sym c.is_encoding.ensures ∙ c.if-is_encoding.false) c.unread.ensures
