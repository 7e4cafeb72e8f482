-- Where the token of an index begins.
use Rattle.std.proofs.Common.{◌≡◌, ℕ, ◌+◌, ◌<◌, ◌≤◌, List, [], ◌∷◌, ◌++◌, length, drop, slice_get, Option, Some, None, refl, sym, ap, ◌∙◌, arith, length-append}
use Rattle.std.proofs.Math.Seq.{get_or-append_seam}
use Rattle.std.proofs.lemmas.Option.{slice_get_past, slice_get_read}
use Rattle.tsdl_grammar.specs.{declared.token.Token.Token, declared.token.TokenKind.TokenKind, declared.piece.Cut.Cut}
use Rattle.tsdl_grammar.specs.declared.piece.Piece.TheVariants as pieces
use Rattle.tsdl_grammar.specs.Pieces.{piece_at}
use Rattle.tsdl_grammar.specs.Tokens.{Splits, token_of, tokens_from, start_of, Tokenizes}
use Rattle.tsdl_grammar.proofs.Splits.{Progress, goes_on, has_ended, found_first, same_tokens, nothing_at_the_end}

-- so many tokens are passed over, and so many are left before the one that is looked for
pub record Passed (text : List ℕ) (at before index : ℕ) : Type 0 where
  pub found : List Token
  pub progress : Progress text at found
  pub left : before + length found ≡ index

-- the token at the front of the rest begins at the place
rest_starts : (rest : List ℕ) (at : ℕ) (c : Cut) (kind : TokenKind) (zs : List Cut) → piece_at rest ≡ Some c → c.piece ≡ pieces.Token kind → Splits rest zs []
    → (token : Token) × (more : List Token) × (tokens_from at zs ≡ token ∷ more) × (token.span.start ≡ at)
rest_starts rest at c kind [] e is s = absurd (let f : piece_at rest ≡ None = ap piece_at s ∙ nothing_at_the_end in cc)
rest_starts rest at c kind (d ∷ zs) e is s =
    let same : c ≡ d = let f = s.0 in cc in
    let token : d.piece ≡ pieces.Token kind = ap (λ (x : Cut). x.piece) (sym same) ∙ is in
    (record { kind = kind; span = record { start = at; end = at + d.len } }, tokens_from (at + d.len) zs, rw token refl, refl)

at_the_seam : (front : List Token) (t : Token) (more : List Token) (index : ℕ) → length front ≡ index → slice_get (front ++ t ∷ more) index ≡ Some t
at_the_seam front t more index e =
    ap (slice_get (front ++ t ∷ more)) (sym e) ∙ slice_get_read (front ++ t ∷ more) (length (front ++ t ∷ more)) (length front) t refl (omega (arith, length-append front (t ∷ more))) (sym (get_or-append_seam front t more t))

-- the token that is looked for begins where no more are left before it
pub starts_here : (text : List ℕ) (at before index : ℕ) (c : Cut) (kind : TokenKind) → Passed text at before index → before ≡ 0 → piece_at (drop at text) ≡ Some c → c.piece ≡ pieces.Token kind
    → (ts : List Token) → Tokenizes text ts → at ≡ start_of (slice_get ts index) (length text)
starts_here text at before index c kind p none e is ts t =
    let cut = found_first text at p.found ts p.progress t in
    let one = rest_starts (drop at text) at c kind cut.0 e is cut.1 in
    let whole : ts ≡ p.found ++ one.0 ∷ one.1 = cut.2 ∙ ap (λ (us : List Token). p.found ++ us) one.2 in
    let here : slice_get ts index ≡ Some one.0 = ap (λ (us : List Token). slice_get us index) whole ∙ at_the_seam p.found one.0 one.1 index (omega (arith, p.left, none)) in
    sym (ap (λ (o : Option Token). start_of o (length text)) here ∙ one.3)

-- where the text ends there is none
pub starts_nowhere : (text : List ℕ) (at before index : ℕ) → Passed text at before index → piece_at (drop at text) ≡ None → (ts : List Token) → Tokenizes text ts → length text ≡ start_of (slice_get ts index) (length text)
starts_nowhere text at before index p none ts t =
    let ended = has_ended text at p.found p.progress (ts, t) none in
    let same = same_tokens text ts p.found t ended.0 in
    sym (ap (λ (o : Option Token). start_of o (length text)) (slice_get_past ts index (omega (arith, ap length same, p.left))))

-- a piece is passed over: as a token where it is one
pub passes : (text : List ℕ) (at before left index : ℕ) (c : Cut) → Passed text at before index → piece_at (drop at text) ≡ Some c → left + length (token_of c.piece (record { start = at; end = at + c.len })) ≡ before
    → 0 < c.len → c.len ≤ length (drop at text) → Passed text (at + c.len) left index
passes text at before left index c p e counted len within = record {
  found = p.found ++ token_of c.piece (record { start = at; end = at + c.len });
  progress = goes_on text at p.found c p.progress e len within;
  left = omega (arith, length-append p.found (token_of c.piece (record { start = at; end = at + c.len })), counted, p.left);
}
