-- The character with which some bytes begin.
use Rattle.std.proofs.Common.{◌≡◌, ◌<◌, ◌+◌, ◌≤◌, ℕ, min, false, true, List, ◌++◌, Option, Some, None, ◌∙◌, ap, append_assoc, arith, drop, inl, inr, length, refl, subst, sym, take}
use Rattle.std.specs.Prelude.{MatchOption, encode_utf8, nat_eq}
use Rattle.std.specs.Char.{IsScalar}
use Rattle.std.specs.Str.{StartsWithNoChar, all_scalars, is_utf8}
use Rattle.std.proofs.lemmas.Bool.{and_parts, cases_Bool}
use Rattle.std.proofs.lemmas.Bool.Decides.{nat_tests}
use Rattle.std.proofs.lemmas.List.{length-append, length-take-le, take-append-drop, take_at}
use Rattle.std.proofs.lemmas.Str.{IsUtf8-encode, IsUtf8-from_is_utf8, is_utf8-from_IsUtf8, chars_past_char, len_utf8_bounds, length-encode, scalars-chars}
use Rattle.std.proofs.Math.Nat.{le-min, min-le_left}
use Rattle.tsdl_grammar.specs.WrongCharacters.{BeginsWith}

-- the first character of a text, where the text is so long a front of the bytes
pub first_of : (X : Type 0) (r : Option ℕ) (rest after text bytes : List ℕ) (len : ℕ) → rest ≡ text → text ≡ take len bytes → is_utf8 (take len bytes) ≡ true → 0 < len → len ≤ length bytes
    → MatchOption r ((length rest ≡ 0) × X) (λ c. rest ≡ encode_utf8 c ++ after) → MatchOption r (StartsWithNoChar bytes) (λ c. BeginsWith c bytes)
first_of X None rest after text bytes len e f u some within steps =
    absurd (let none = ap length (sym (e ∙ f)) in let long = length-take-le len bytes within in omega (arith, some, none, long, steps.0))
first_of X (Some c) rest after text bytes len e f u some within steps =
    let front = take len bytes in
    let begins : front ≡ encode_utf8 c ++ after = sym (e ∙ f) ∙ steps in
    let utf8 = IsUtf8-from_is_utf8 front u in
    let scalar : IsScalar c = (and_parts _ _ (ap all_scalars (sym (chars_past_char front after c utf8 begins)) ∙ scalars-chars front utf8)).0 in
    (scalar, (after ++ drop len bytes, sym (take-append-drop len bytes) ∙ ap (λ z. z ++ drop len bytes) begins ∙ append_assoc (encode_utf8 c) after (drop len bytes)))

-- no front that is shorter is a text, nor is one of this length
pub none_more : (bytes : List ℕ) (len : ℕ) → ((k : ℕ) → 0 < k → k < len → is_utf8 (take k bytes) ≡ false) → is_utf8 (take len bytes) ≡ false → (k : ℕ) → 0 < k → k < len + 1 → is_utf8 (take k bytes) ≡ false
none_more bytes len h e k p q = elim (cases_Bool (nat_eq k len)) [
  | inl t ↦ (let same : k ≡ len = grind (arith, nat_tests) in subst (λ n. is_utf8 (take n bytes) ≡ false) (sym same) e)
  | inr f ↦ (let below : k < len = grind (arith, nat_tests) in h k p below)
]

-- bytes of which no front of at most four bytes is a text begin with no character
pub none_begins : (bytes : List ℕ) (len most : ℕ) → most ≡ min (length bytes) 4 → most < len → ((k : ℕ) → 0 < k → k < len → is_utf8 (take k bytes) ≡ false) → StartsWithNoChar bytes
none_begins bytes len most m past h c rest s e =
    let n = length (encode_utf8 c) in
    let width = length-encode c in
    let bounds = len_utf8_bounds c in
    let long = ap length e ∙ length-append (encode_utf8 c) rest in
    let fits : n ≤ min (length bytes) 4 = le-min (omega (arith, long)) (omega (arith, width, bounds.1)) in
    let front : take n bytes ≡ encode_utf8 c = ap (take n) e ∙ take_at (encode_utf8 c) rest n refl in
    let is = ap is_utf8 front ∙ is_utf8-from_IsUtf8 (encode_utf8 c) (IsUtf8-encode c s) in
    let no = h n (omega (arith, width, bounds.0)) (omega (arith, fits, m, past)) in
    cc

-- a front of at most the most bytes lies within them
pub lies_within : (bytes : List ℕ) (len most : ℕ) → most ≡ min (length bytes) 4 → len < most + 1 → len ≤ length bytes
lies_within bytes len most m below = let left = min-le_left (length bytes) 4 in omega (arith, m, below, left)
