use Rattle.std.proofs.Common.{◌≡◌, ◌+◌, length, option_map}
use Rattle.tsdl_grammar.specs.Pieces.{close_len}
use Rattle.tsdl_grammar.proofs.piece.close_len.Given as goal

abbrev pub invariant-loop-rest : goal.invariant-loop-rest
invariant-loop-rest l = (option_map (λ n. l.passed + n) (close_len l.rest) ≡ close_len l.bytes) × (l.passed + length l.rest ≡ length l.bytes)

abbrev pub decreases-loop-rest : goal.decreases-loop-rest
decreases-loop-rest l = length l.rest
