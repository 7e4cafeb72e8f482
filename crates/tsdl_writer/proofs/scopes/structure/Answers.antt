use Rattle.tsdl_writer.proofs.Printing.{flat_map, token_toks, false≢true, last, scoped, sym, ◌∙◌}
use Rattle.tsdl_writer.proofs.scopes.structure.Goals as goal

pub returns : goal.returns
returns c = last c.close.result c.close.ensures (λ one name same rest text e.
    let s = c.args.structure.now in
    scoped name (flat_map token_toks c.args.name.now) s.members s.min_align rest same (λ h. absurd (false≢true (sym c.if-is_empty.false ∙ c.is_empty.ensures.1 h)))
    (search (c.in_ok-print.ensures, c.in_ok-print-2.ensures, c.in_ok-members.ensures, one, e) depth 20))
