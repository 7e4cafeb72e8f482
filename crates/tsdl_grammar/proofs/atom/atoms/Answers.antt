use Rattle.std.proofs.Common.{ℕ, zero, suc, ◌≤◌, ◌<◌, List, [], ◌∷◌, length, get_or, arith}
use Rattle.tsdl_grammar.specs.declared.token.Token.{Token}
use Rattle.tsdl_grammar.specs.Tokens.{Rises}
use Rattle.tsdl_grammar.proofs.atom.atoms.Goals as goal

Rises-end : (from end : ℕ) (ts : List Token) → Rises from ts end → from ≤ end
Rises-end from end [] r = omega arith
Rises-end from end (t ∷ ts) r = let le = Rises-end t.span.end end ts r.2 in omega (arith, le)

-- the span of each token lies in the text
Rises-at : (from end : ℕ) (ts : List Token) (i : ℕ) (d : Token) → Rises from ts end → i < length ts → ((get_or ts i d).span.start ≤ (get_or ts i d).span.end) × ((get_or ts i d).span.end ≤ end)
Rises-at from end [] i d r lt = absurd (omega arith)
Rises-at from end (t ∷ ts) zero d r lt = (omega (arith, r.1), Rises-end t.span.end end ts r.2)
Rises-at from end (t ∷ ts) (suc i) d r lt = Rises-at t.span.end end ts i d r.2 (omega arith)

pub atom_at-requires-clause-ordered : goal.atom_at-requires-clause-ordered
atom_at-requires-clause-ordered c = (Rises-at 0 (length c.args.text.now) c.args.tokens.now c.loop-token.token-index _ c.requires c.loop-token-test.true).0

pub atom_at-requires-clause-within : goal.atom_at-requires-clause-within
atom_at-requires-clause-within c = (Rises-at 0 (length c.args.text.now) c.args.tokens.now c.loop-token.token-index _ c.requires c.loop-token-test.true).1
