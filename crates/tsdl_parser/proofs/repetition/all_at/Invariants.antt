use Rattle.tsdl_parser.proofs.Steps.{length, many, shown, starts, ◌≡◌}
use Rattle.tsdl_parser.proofs.Repeated.{with_front}
use Rattle.tsdl_parser.proofs.repetition.all_at.Given as goal

-- what was read, and then what is read, is what all the atoms give
abbrev pub invariant-loop-items : goal.invariant-loop-items
invariant-loop-items g l = with_front l.items.items (many (starts l.start) g.T.Repeated.item (shown l.rest)) ≡ many (starts l.start) g.T.Repeated.item (shown l.atoms)

abbrev pub decreases-loop-items : goal.decreases-loop-items
decreases-loop-items g l = length (shown l.rest)
