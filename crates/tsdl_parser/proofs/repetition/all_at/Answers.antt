use Rattle.tsdl_parser.proofs.Steps.{err_from_is_err_and, many, shown, starts, sym, ◌∙◌}
use Rattle.tsdl_parser.proofs.Repeated.{goes_on, gives_up, is_done}
use Rattle.tsdl_parser.proofs.repetition.all_at.Goals as goal

pub returns-in_err-item : goal.returns-in_err-item
returns-in_err-item g c =
    let p = err_from_is_err_and c.from_residual-in_err-item.result c.from_residual-in_err-item.ensures.1 in
    rw (p.1, p.2) (gives_up (starts c.args.start) g.T.Repeated.item (many (starts c.args.start) g.T.Repeated.item (shown c.args.atoms)) c.loop-items.items.items (shown c.loop-items.rest) c.in_err-item.field-0.0 c.loop-items.invariant (sym c.in_ok-starts.ensures ∙ c.if-branch.true) c.in_err-item.ensures)

pub loop-items-smaller : goal.loop-items-smaller
loop-items-smaller g c = c.requires (shown c.loop-items.rest) (c.in_ok-item.item, (shown c.in_ok-item.behind)) c.in_ok-item.ensures

pub loop-items-preserved : goal.loop-items-preserved
loop-items-preserved g c =
    rw c.in-Ok.ensures.items (goes_on (starts c.args.start) g.T.Repeated.item c.requires (many (starts c.args.start) g.T.Repeated.item (shown c.args.atoms)) c.loop-items.items.items (shown c.loop-items.rest) c.in_ok-item.item (shown c.in_ok-item.behind) c.loop-items.invariant (sym c.in_ok-starts.ensures ∙ c.if-branch.true) c.in_ok-item.ensures)

pub returns : goal.returns
returns g c = rw c.from_vec.ensures (is_done (starts c.args.start) g.T.Repeated.item (many (starts c.args.start) g.T.Repeated.item (shown c.args.atoms)) c.loop-items.items.items (shown c.loop-items.rest) c.loop-items.invariant (sym c.in_ok-starts.ensures ∙ c.if-branch.false))
