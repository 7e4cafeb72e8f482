use Rattle.std.proofs.Common.{◌≡◌, ◌+◌, false, drop, option_map}
use Rattle.tsdl_grammar.specs.Pieces.{content_len}
use Rattle.tsdl_grammar.proofs.piece.content_len.Given as goal

abbrev pub invariant-loop-b : goal.invariant-loop-b
invariant-loop-b l = (option_map (λ n. l.len + n) (content_len l.after_backslash (drop l.b-index l.bytes)) ≡ content_len false l.bytes) × (l.len ≡ l.b-index)
