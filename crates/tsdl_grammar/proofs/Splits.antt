-- Cutting a text into pieces, one after the other: what a loop over it keeps, and that there is one way only.
use Rattle.std.proofs.Common.{◌≡◌, ℕ, ◌+◌, ◌<◌, ◌≤◌, List, [], ◌∷◌, ◌++◌, length, drop, Some, None, arith, refl, sym, ap, subst, ◌∙◌, append_assoc, append-nil, length-drop, drop-drop}
use Rattle.tsdl_grammar.specs.{declared.token.Token.Token, declared.token.Span.Span, declared.piece.Piece.Piece, declared.piece.Cut.Cut}
use Rattle.tsdl_grammar.specs.declared.piece.Piece.TheVariants as pieces
use Rattle.tsdl_grammar.specs.Pieces.{piece_at}
use Rattle.tsdl_grammar.specs.Tokens.{Splits, token_of, tokens_from, Rises, Stuck, Tokenizes, HasTokens}

-- the bytes of some pieces
abbrev pub lens : List Cut → ℕ
lens [] = 0
lens (c ∷ cuts) = c.len + lens cuts

abbrev span : ℕ → ℕ → Span
span start end = record { start = start; end = end }

-- the text is cut up to a place
pub record Progress (text : List ℕ) (at : ℕ) (found : List Token) : Type 0 where
  pub cuts : List Cut
  pub splits : Splits text cuts (drop at text)
  pub tokens : found ≡ tokens_from 0 cuts
  pub place : at ≡ lens cuts
  pub within : at ≤ length text
  pub rises : Rises 0 found at

Splits-push : (text : List ℕ) (cuts : List Cut) (c : Cut) (rest : List ℕ) → Splits text cuts rest → piece_at rest ≡ Some c → Splits text (cuts ++ c ∷ []) (drop c.len rest)
Splits-push text [] c rest s e = (ap piece_at s ∙ e, ap (drop c.len) s)
Splits-push text (d ∷ cuts) c rest s e = (s.0, Splits-push (drop d.len text) cuts c rest s.1 e)

lens-push : (cuts : List Cut) (c : Cut) → lens (cuts ++ c ∷ []) ≡ lens cuts + c.len
lens-push [] c = omega arith
lens-push (d ∷ cuts) c = omega (arith, lens-push cuts c)

tokens_from-append : (at : ℕ) (cuts more : List Cut) → tokens_from at (cuts ++ more) ≡ tokens_from at cuts ++ tokens_from (at + lens cuts) more
tokens_from-append at [] more = let e : at + 0 ≡ at = omega arith in rw e refl
tokens_from-append at (c ∷ cuts) more =
    let e : at + c.len + lens cuts ≡ at + (c.len + lens cuts) = omega arith in
    let t = token_of c.piece (span at (at + c.len)) in
    ap (λ (ts : List Token). t ++ ts) (tokens_from-append (at + c.len) cuts more ∙ rw e refl) ∙ sym (append_assoc t (tokens_from (at + c.len) cuts) (tokens_from (at + (c.len + lens cuts)) more))

Rises-widen : (from : ℕ) (ts : List Token) (at end : ℕ) → Rises from ts at → at ≤ end → Rises from ts end
Rises-widen from [] at end r le = omega arith
Rises-widen from (t ∷ ts) at end r le = (r.0, r.1, Rises-widen t.span.end ts at end r.2 le)

Rises-push : (from : ℕ) (ts : List Token) (piece : Piece) (at end : ℕ) → Rises from ts at → at < end → Rises from (ts ++ token_of piece (span at end)) end
Rises-push from [] pieces.Blank at end r lt = omega arith
Rises-push from [] pieces.Comment at end r lt = omega arith
Rises-push from [] (pieces.Token kind) at end r lt = (r, lt, omega arith)
Rises-push from (t ∷ ts) piece at end r lt = (r.0, r.1, Rises-push t.span.end ts piece at end r.2 lt)

pub goes_on : (text : List ℕ) (at : ℕ) (found : List Token) (c : Cut) → Progress text at found → piece_at (drop at text) ≡ Some c → 0 < c.len → c.len ≤ length (drop at text)
    → Progress text (at + c.len) (found ++ token_of c.piece (span at (at + c.len)))
goes_on text at found c p e some within = record {
  cuts = p.cuts ++ c ∷ [];
  splits = subst (λ (rest : List ℕ). Splits text (p.cuts ++ c ∷ []) rest) (drop-drop c.len at text) (Splits-push text p.cuts c (drop at text) p.splits e);
  tokens = let z : 0 + lens p.cuts ≡ lens p.cuts = omega arith in rw (p.tokens, p.place) (sym (tokens_from-append 0 p.cuts (c ∷ []) ∙ rw (z, append-nil) refl));
  place = omega (arith, p.place, lens-push p.cuts c);
  within = omega (arith, p.within, length-drop at text);
  rises = Rises-push 0 found c.piece at (at + c.len) p.rises (omega arith);
}

pub nothing_at_the_end : piece_at [] ≡ None
unfolding piece_at
nothing_at_the_end = refl

pub is_done : (text : List ℕ) (at : ℕ) (found : List Token) → Progress text at found → drop at text ≡ [] → Tokenizes text found × Rises 0 found (length text)
is_done text at found p e = ((p.cuts, subst (Splits text p.cuts) e p.splits, p.tokens), Rises-widen 0 found at (length text) p.rises p.within)

-- the pieces of a whole text go on from where it is cut
goes_through : (text rest : List ℕ) (xs ys : List Cut) → Splits text xs [] → Splits text ys rest → (zs : List Cut) × Splits rest zs [] × (xs ≡ ys ++ zs)
goes_through text rest xs [] s t = (xs, subst (λ (l : List ℕ). Splits l xs []) t s, refl)
goes_through text rest [] (d ∷ ys) s t = absurd (let e : piece_at text ≡ None = ap piece_at s ∙ nothing_at_the_end in let f = t.0 in cc)
goes_through text rest (c ∷ xs) (d ∷ ys) s t =
    let same : c ≡ d = (let f = s.0 in let g = t.0 in cc) in
    let more = goes_through (drop c.len text) rest xs ys s.1 (subst (λ (x : Cut). Splits (drop x.len text) ys rest) (sym same) t.1) in
    (more.0, more.1, ap (λ (zs : List Cut). c ∷ zs) more.2 ∙ ap (λ (x : Cut). x ∷ (ys ++ more.0)) same)

-- where no piece begins, a text that is cut to its end has ended
no_more : (rest : List ℕ) (zs : List Cut) → Splits rest zs [] → piece_at rest ≡ None → (rest ≡ []) × (zs ≡ [])
no_more rest [] s none = (s, refl)
no_more rest (c ∷ zs) s none = absurd (let f = s.0 in cc)

-- a text that has tokens stops nowhere
pub no_stop : (text rest : List ℕ) (xs ys : List Cut) → Splits text xs [] → Splits text ys rest → Stuck rest → ⊥
no_stop text rest xs ys s t k = let more = goes_through text rest xs ys s t in k.0 (no_more rest more.0 more.1 k.1).0

-- a text has one list of tokens
pub same_tokens : (text : List ℕ) (ts us : List Token) → Tokenizes text ts → Tokenizes text us → ts ≡ us
same_tokens text ts us p q =
    let more = goes_through text [] p.0 q.0 p.1 q.1 in
    let one_way : p.0 ≡ q.0 = more.2 ∙ ap (λ (zs : List Cut). q.0 ++ zs) (no_more [] more.0 more.1 nothing_at_the_end).1 ∙ append-nil q.0 in
    p.2 ∙ ap (tokens_from 0) one_way ∙ sym q.2

-- a text that has tokens is cut up to its end where no more piece begins
pub has_ended : (text : List ℕ) (at : ℕ) (found : List Token) → Progress text at found → HasTokens text → piece_at (drop at text) ≡ None → Tokenizes text found × Rises 0 found (length text)
has_ended text at found p has none =
    let more = goes_through text (drop at text) has.1.0 p.cuts has.1.1 p.splits in is_done text at found p (no_more (drop at text) more.0 more.1 none).0

-- the tokens of a text that is cut up to a place are those that were found, and then those behind it
pub found_first : (text : List ℕ) (at : ℕ) (found ts : List Token) → Progress text at found → Tokenizes text ts → (zs : List Cut) × Splits (drop at text) zs [] × (ts ≡ found ++ tokens_from at zs)
found_first text at found ts p t =
    let more = goes_through text (drop at text) t.0 p.cuts t.1 p.splits in
    (more.0, more.1, t.2 ∙ ap (tokens_from 0) more.2 ∙ tokens_from-append 0 p.cuts more.0 ∙ ap (λ (us : List Token). us ++ tokens_from (0 + lens p.cuts) more.0) (sym p.tokens) ∙ ap (λ (n : ℕ). found ++ tokens_from n more.0) (let e = p.place in omega arith))
