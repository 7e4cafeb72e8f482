-- Escapes: what is written between quotes ends at the closing quote, stands for the text again, and is UTF-8 where the text is.
use Rattle.std.proofs.Common.{◌≡◌, ℕ, ◌+◌, ◌<◌, false, eqb, List, [], ◌∷◌, ◌++◌, length, Some, arith, refl, sym, ap, ◌∙◌, append_assoc, length-append}
use Rattle.std.proofs.{lemmas.Bool.{cond_both, eqb-true}, lemmas.List.Concat.flat_map-cons}
use Rattle.tsdl_grammar.specs.Escapes.{escaped_byte, unescaped_from, unescaped, escape_of, escaped}
use Rattle.tsdl_grammar.specs.Pieces.{content_len}

-- a byte is written by a letter that stands for it, or as it is
pub escape_cases : (b : ℕ) (P : List ℕ → Type 0) → ((c : ℕ) → c < 128 → escaped_byte c ≡ Some b → P (92 ∷ c ∷ [])) → (eqb b 92 ≡ false → eqb b 34 ≡ false → eqb b 10 ≡ false → P (b ∷ [])) → P (escape_of b)
escape_cases b P p q =
    cond_both (eqb b 92) _ _ P (λ e. p 92 (omega arith) (ap Some (sym (eqb-true b 92 e)))) (λ e. cond_both (eqb b 34) _ _ P (λ f. p 34 (omega arith) (ap Some (sym (eqb-true b 34 f))))
    (λ f. cond_both (eqb b 10) _ _ P (λ g. p 110 (omega arith) (ap Some (sym (eqb-true b 10 g)))) (λ g. cond_both (eqb b 9) _ _ P (λ h. p 116 (omega arith) (ap Some (sym (eqb-true b 9 h)))) (λ h. q e f g))))

escape_len : (b : ℕ) (tail : List ℕ) (k : ℕ) → content_len false tail ≡ Some k → content_len false (escape_of b ++ tail) ≡ Some (length (escape_of b) + k)
escape_len b tail k h =
    escape_cases b (λ (w : List ℕ). content_len false (w ++ tail) ≡ Some (length w + k)) (λ c low e. rw (e, h) (ap Some (omega arith))) (λ e f g. rw (e, f, g, h) refl)

-- the closing quote of a written text is the first one
pub content_len-escaped : (text rest : List ℕ) → content_len false (escaped text ++ 34 ∷ rest) ≡ Some (length (escaped text))
content_len-escaped [] rest = refl
content_len-escaped (b ∷ text) rest =
    let e : escaped (b ∷ text) ≡ escape_of b ++ escaped text = flat_map-cons escape_of b text in
    ap (λ (w : List ℕ). content_len false (w ++ 34 ∷ rest)) e ∙ ap (content_len false) (append_assoc (escape_of b) (escaped text) (34 ∷ rest))
    ∙ escape_len b (escaped text ++ 34 ∷ rest) (length (escaped text)) (content_len-escaped text rest)
    ∙ ap Some (sym (length-append (escape_of b) (escaped text))) ∙ ap (λ (w : List ℕ). Some (length w)) (sym e)

unescape_one : (b : ℕ) (tail : List ℕ) → unescaped_from false (escape_of b ++ tail) ≡ b ∷ unescaped_from false tail
unescape_one b tail =
    escape_cases b (λ (w : List ℕ). unescaped_from false (w ++ tail) ≡ b ∷ unescaped_from false tail) (λ c low e. rw e refl) (λ e f g. rw e refl)

-- what is written stands for the text
pub stands_again : (text : List ℕ) → unescaped (escaped text) ≡ text
stands_again [] = refl
stands_again (b ∷ text) = ap unescaped (flat_map-cons escape_of b text) ∙ unescape_one b (escaped text) ∙ ap (λ (w : List ℕ). b ∷ w) (stands_again text)
