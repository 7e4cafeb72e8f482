-- Texts with escapes: what stands before the first escape is said as it is.
use Rattle.std.proofs.Common.{◌≡◌, Bool, true, false, ℕ, suc, ◌+◌, ◌≤◌, List, [], ◌∷◌, ◌++◌, length, take, drop, arith, refl, sym, ap, ◌∙◌, append_assoc}
use Rattle.std.specs.Prelude.{not, nat_lt, if◌then◌else◌, None, Some, unwrap_or}
use Rattle.std.specs.List.{flat_map, position, position_or_len}
use Rattle.std.proofs.lemmas.Bool.Decides.{nat_tests}
use Rattle.std.proofs.lemmas.List.{take-append-drop}
use Rattle.std.proofs.lemmas.List.Concat.{flat_map-append}
use Rattle.std.proofs.lemmas.List.Sums.{prefix_len-le-length}
use Rattle.trace_text.specs.declared.printing_texts.TextForm.{TextForm}
use Rattle.trace_text.specs.declared.printing_texts.TextForm.TheVariants.{Quoted, Bare}
use Rattle.trace_text.specs.PrintedTexts.{string_byte, name_byte, text_byte, is_escaped}

-- ---- how many bytes stand before an escape

place_or_end : (n m : ℕ) → n ≤ m → unwrap_or (if nat_lt n m then Some n else None) m ≡ n
place_or_end n m h = grind (arith, nat_tests)

-- the place of the first escape, or the length
pub escape_or_end : (form : TextForm) (bytes : List ℕ) → unwrap_or (position (is_escaped form) bytes) (length bytes) ≡ position_or_len (is_escaped form) bytes
escape_or_end form bytes = place_or_end (position_or_len (is_escaped form) bytes) (length bytes) (prefix_len-le-length (λ b. not (is_escaped form b)) bytes)

-- ---- what is said of them

-- a byte without an escape is said as it is
plain_byte : (form : TextForm) (b : ℕ) → is_escaped form b ≡ false → text_byte form b ≡ b ∷ []
unfolding string_byte name_byte
plain_byte Quoted b e = grind (arith, nat_tests)
plain_byte Bare b e = grind (arith, nat_tests)

-- one more byte in front
plain_more : (form : TextForm) (b : ℕ) (bytes : List ℕ) (n : ℕ) → flat_map (text_byte form) (take n bytes) ≡ take n bytes → (c : Bool) → is_escaped form b ≡ c
    → flat_map (text_byte form) (take (if not c then 1 + n else 0) (b ∷ bytes)) ≡ take (if not c then 1 + n else 0) (b ∷ bytes)
plain_more form b bytes n h true e = refl
plain_more form b bytes n h false e =
    let next : 1 + n ≡ suc n = omega arith in
    rw next (ap (λ (w : List ℕ). w ++ flat_map (text_byte form) (take n bytes)) (plain_byte form b e) ∙ ap (λ (w : List ℕ). b ∷ w) h)

plain_bytes : (form : TextForm) (bytes : List ℕ) → flat_map (text_byte form) (take (position_or_len (is_escaped form) bytes) bytes) ≡ take (position_or_len (is_escaped form) bytes) bytes
plain_bytes form [] = refl
plain_bytes form (b ∷ bytes) = plain_more form b bytes (position_or_len (is_escaped form) bytes) (plain_bytes form bytes) (is_escaped form b) refl

-- the bytes before an escape, and the first of the others
pub run_said : (form : TextForm) (front rest plain others : List ℕ) (n : ℕ) → n ≡ position_or_len (is_escaped form) rest → plain ≡ take n rest
    → (flat_map (text_byte form) front ++ plain) ++ flat_map (text_byte form) (take 1 others) ≡ flat_map (text_byte form) ((front ++ plain) ++ take 1 others)
run_said form front rest plain others n e p =
    let f : ℕ → List ℕ = text_byte form in
    let same : flat_map f plain ≡ plain = rw (p, e) (plain_bytes form rest) in
    sym (flat_map-append f (front ++ plain) (take 1 others)
    ∙ ap (λ (w : List ℕ). w ++ flat_map f (take 1 others)) (flat_map-append f front plain ∙ ap (λ (w : List ℕ). flat_map f front ++ w) same))

-- and what is left behind it
pub run_whole : (front rest plain others left : List ℕ) (n : ℕ) → plain ≡ take n rest → others ≡ drop n rest → left ≡ drop 1 others
    → ((front ++ plain) ++ take 1 others) ++ left ≡ front ++ rest
run_whole front rest plain others left n p o l =
    let both : plain ++ others ≡ rest = rw (p, o) (take-append-drop n rest) in
    ap (λ (w : List ℕ). ((front ++ plain) ++ take 1 others) ++ w) l
    ∙ append_assoc (front ++ plain) (take 1 others) (drop 1 others) ∙ ap (λ (w : List ℕ). (front ++ plain) ++ w) (take-append-drop 1 others)
    ∙ append_assoc front plain others ∙ ap (λ (w : List ℕ). front ++ w) both
