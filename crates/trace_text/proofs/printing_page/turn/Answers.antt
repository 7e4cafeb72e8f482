use Rattle.std.proofs.Common.{[], sym, ◌∙◌, append-nil}
use Rattle.trace_text.proofs.Saying.{written_all}
use Rattle.trace_text.proofs.printing_page.turn.Goals as goal

pub returns-clause-says : goal.returns-clause-says
returns-clause-says g c =
    let past = c.write_past.ensures in
    written_all _ _ _ _ [] _ (c.as_slice.ensures ∙ sym (append-nil c.args.page.now.bytes)) past.written past.front past.less past.stays c.clear.ensures
