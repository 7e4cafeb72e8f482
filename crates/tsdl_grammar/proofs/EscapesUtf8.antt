-- Escapes keep UTF-8, both ways: they touch bytes below 128 alone.
use Rattle.std.proofs.Common.{◌≡◌, ℕ, zero, suc, ◌<◌, ◌≤◌, Bool, true, false, eqb, List, [], ◌∷◌, ◌++◌, length, get_or, None, arith, refl, sym, ap, subst, ◌∙◌, inl, inr, unwrap_or, IsUtf8, append-nil}
use Rattle.std.proofs.{lemmas.Bool.{cases_Bool, cases_lt}, lemmas.Bool.Decides.nat_tests, lemmas.List.Concat.{flat_map-cons, flat_map-append}}
use Rattle.std.proofs.lemmas.Str.{IsUtf8-append, IsUtf8-from_ascii, IsUtf8-nil, encode_ascii, inside_one, length-encode, len_utf8_bounds}
use Rattle.tsdl_grammar.specs.Escapes.{escaped_byte, unescaped_from, unescaped, escape_of, escaped}
use Rattle.tsdl_grammar.proofs.{Runs.and_true, Escaping.escape_cases}
use lib.Utf8.{scalar, scalars, encodes, encode}

-- bytes that no escape touches
abbrev AreHigh : List ℕ → Type 0
AreHigh bytes = (k : ℕ) → k < length bytes → 128 ≤ get_or bytes k 0

high_encode : (c : ℕ) → 128 ≤ c → AreHigh (encode c)
high_encode c h k lt =
    elim (cases_lt (get_or (encode c) k 0) 128) [
      | inl low ↦ (let e = inside_one c [] (encode c) k (sym (append-nil (encode c))) lt low in omega (arith, e))
      | inr le ↦ le
    ]

one_char : (c : ℕ) → scalar c ≡ true → IsUtf8 (encode c)
one_char c h = (c ∷ [], (rw h refl, append-nil (encode c)))

one_byte : (b : ℕ) → b < 128 → IsUtf8 (b ∷ [])
one_byte b h = IsUtf8-from_ascii (b ∷ []) (elim [ zero ↦ h | suc i ↦ omega arith ])

high_escape : (b : ℕ) → 128 ≤ b → escape_of b ≡ b ∷ []
high_escape b h = grind (arith, nat_tests)

high_escaped : (bytes : List ℕ) → AreHigh bytes → escaped bytes ≡ bytes
high_escaped [] h = refl
high_escaped (b ∷ bytes) h =
    flat_map-cons escape_of b bytes ∙ ap (λ (w : List ℕ). w ++ escaped bytes) (high_escape b (h 0 (omega arith)))
    ∙ ap (λ (w : List ℕ). b ∷ w) (high_escaped bytes (λ k lt. h (suc k) (omega arith)))

low_escaped : (b : ℕ) → b < 128 → IsUtf8 (escape_of b)
low_escaped b h =
    escape_cases b IsUtf8 (λ c low e. IsUtf8-append (92 ∷ []) (c ∷ []) (one_byte 92 (omega arith)) (one_byte c low)) (λ e f g. one_byte b h)

char_escaped : (c : ℕ) → scalar c ≡ true → IsUtf8 (escaped (encode c))
char_escaped c h =
    elim (cases_lt c 128) [
      | inl lt ↦ rw (encode_ascii c lt) (rw flat_map-cons (IsUtf8-append (escape_of c) [] (low_escaped c lt) IsUtf8-nil))
      | inr le ↦ rw (high_escaped (encode c) (high_encode c le)) (one_char c h)
    ]

chars_escaped : (cs : List ℕ) → scalars cs ≡ true → IsUtf8 (escaped (encodes cs))
chars_escaped [] h = IsUtf8-nil
chars_escaped (c ∷ cs) h =
    let both = and_true (scalar c) (scalars cs) h in
    rw (flat_map-append escape_of (encode c) (encodes cs)) (IsUtf8-append (escaped (encode c)) (escaped (encodes cs)) (char_escaped c both.0) (chars_escaped cs both.1))

-- a text in UTF-8 is written in UTF-8
pub IsUtf8-escaped : (text : List ℕ) → IsUtf8 text → IsUtf8 (escaped text)
IsUtf8-escaped text u = subst (λ (w : List ℕ). IsUtf8 (escaped w)) u.1.1 (chars_escaped u.0 u.1.0)

high_letter : (b : ℕ) → 128 ≤ b → escaped_byte b ≡ None
high_letter b h = grind (arith, nat_tests)

high_plain : (bytes tail : List ℕ) → AreHigh bytes → unescaped_from false (bytes ++ tail) ≡ bytes ++ unescaped_from false tail
high_plain [] tail h = refl
high_plain (b ∷ bytes) tail h =
    let e : eqb b 92 ≡ false = (let low = h 0 (omega arith) in grind (arith, nat_tests)) in
    rw e (ap (λ (w : List ℕ). b ∷ w) (high_plain bytes tail (λ k lt. h (suc k) (omega arith))))

high_after : (bytes tail : List ℕ) → 0 < length bytes → AreHigh bytes → unescaped_from true (bytes ++ tail) ≡ bytes ++ unescaped_from false tail
high_after [] tail l h = absurd (omega arith)
high_after (b ∷ bytes) tail l h =
    rw (high_letter b (h 0 (omega arith))) (ap (λ (w : List ℕ). b ∷ w) (high_plain bytes tail (λ k lt. h (suc k) (omega arith))))

low_letter : (b : ℕ) → b < 128 → unwrap_or (escaped_byte b) b < 128
low_letter b h = grind (arith, nat_tests)

chars_unescaped : (after_backslash : Bool) (cs : List ℕ) → scalars cs ≡ true → IsUtf8 (unescaped_from after_backslash (encodes cs))
chars_unescaped true [] h = IsUtf8-nil
chars_unescaped false [] h = IsUtf8-nil
chars_unescaped true (c ∷ cs) h =
    let both = and_true (scalar c) (scalars cs) h in
    elim (cases_lt c 128) [
      | inl lt ↦ rw (encode_ascii c lt) (IsUtf8-append (unwrap_or (escaped_byte c) c ∷ []) (unescaped_from false (encodes cs)) (one_byte (unwrap_or (escaped_byte c) c) (low_letter c lt)) (chars_unescaped false cs both.1))
      | inr le ↦ rw (high_after (encode c) (encodes cs) (omega (arith, length-encode c, (len_utf8_bounds c).0)) (high_encode c le)) (IsUtf8-append (encode c) (unescaped_from false (encodes cs)) (one_char c both.0) (chars_unescaped false cs both.1))
    ]
chars_unescaped false (c ∷ cs) h =
    let both = and_true (scalar c) (scalars cs) h in
    elim (cases_lt c 128) [
      | inl lt ↦ rw (encode_ascii c lt) (elim (cases_Bool (eqb c 92)) [
        | inl e ↦ rw e (chars_unescaped true cs both.1)
        | inr e ↦ rw e (IsUtf8-append (c ∷ []) (unescaped_from false (encodes cs)) (one_byte c lt) (chars_unescaped false cs both.1))
      ])
      | inr le ↦ rw (high_plain (encode c) (encodes cs) (high_encode c le)) (IsUtf8-append (encode c) (unescaped_from false (encodes cs)) (one_char c both.0) (chars_unescaped false cs both.1))
    ]

-- what is written in UTF-8 stands for a text in UTF-8
pub IsUtf8-unescaped : (bytes : List ℕ) → IsUtf8 bytes → IsUtf8 (unescaped bytes)
IsUtf8-unescaped bytes u = subst (λ (w : List ℕ). IsUtf8 (unescaped w)) u.1.1 (chars_unescaped false u.0 u.1.0)

pub ruleset both_ways = (IsUtf8-escaped, IsUtf8-unescaped)
