use Rattle.tsdl_parser.proofs.Steps.{atoms_in, meant, rules, sym, ◌∙◌}
use Rattle.tsdl_parser.proofs.Keywords.{reads_on, room, unread_here}
use Rattle.tsdl_parser.proofs.keyword.first_unread.Goals as goal

pub returns-then-not-is_read-clause-unread : goal.returns-then-not-is_read-clause-unread
returns-then-not-is_read-clause-unread c =
    unread_here (atoms_in c.args.text.now) (meant c.in-Some.front) (atoms_in c.in-Some.behind.now) c.loop-front.index (rw c.in-Some.ensures at c.loop-front.invariant) (sym c.is_read.ensures ∙ c.if-not-is_read.true)

pub overflow_add-index : goal.overflow_add-index
overflow_add-index c =
    let r = room c.args.text.now (meant c.in-Some.front) (atoms_in c.in-Some.behind.now) c.loop-front.index (rw c.in-Some.ensures at c.loop-front.invariant) in
    search (rules, r)

pub loop-front-preserved : goal.loop-front-preserved
loop-front-preserved c =
    reads_on (atoms_in c.args.text.now) (meant c.in-Some.front) (atoms_in c.in-Some.behind.now) c.loop-front.index (rw c.in-Some.ensures at c.loop-front.invariant) (sym c.is_read.ensures ∙ c.if-not-is_read.false)
