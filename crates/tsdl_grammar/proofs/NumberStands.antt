-- A decimal number at the front of bytes, and what may follow it: no byte that a name has.
use Rattle.std.proofs.Common.{◌≡◌, ℕ, ◌+◌, ◌*◌, ◌/◌, ◌%◌, ◌^◌, ◌<◌, ◌≤◌, true, false, eqb, List, [], ◌∷◌, ◌++◌, length, get_or, drop, Some, arith, refl, sym, ap, subst, ◌∙◌, inl, inr, decimal, drop_at}
use Rattle.std.specs.{List.{prefix_len, list_all}, Char.{is_ascii_digit, digit_value}}
use Rattle.std.proofs.{lemmas.Bool.{lt-ltb, cases_lt}, lemmas.Bool.Decides.nat_tests, lemmas.List.Folds.list_all-append, lemmas.Str.digit_value_digit}
use Rattle.std.proofs.lemmas.Fmt.{decimal_by_steps, decimal_digit, first_decimal}
use Rattle.tsdl_grammar.specs.declared.token.TokenKind.TheVariants as kinds
use Rattle.tsdl_grammar.specs.declared.piece.Piece.TheVariants as pieces
use Rattle.tsdl_grammar.specs.declared.atom.Atom.{Atom}
use Rattle.tsdl_grammar.specs.declared.atom.Atom.TheVariants as atoms
use Rattle.tsdl_grammar.specs.{Literals.{literal_of, digits_from}, Atoms.{number_atom, Spells}}
use Rattle.tsdl_grammar.specs.Bytes.{is_blank, is_name_start, is_name_byte, is_suffix, is_octal_digit}
use Rattle.tsdl_grammar.specs.Pieces.{piece_at, cut, number_len, digits_len, zero_len}
use Rattle.tsdl_grammar.proofs.{Literals.digits_step, Continuation.piece}
use Rattle.tsdl_grammar.proofs.Runs.{and_true, prefix_len-whole, head_fails, none_passes, digit_is_name_byte, suffix_is_name_byte, octal_is_name_byte}

-- these digits are the number, read from the front
record IsDecimal (n : ℕ) (ds : List ℕ) : Type 0 where
  digits : list_all is_ascii_digit ds ≡ true
  value : digits_from 10 0 ds ≡ n

digit_is_below : (c : ℕ) → is_ascii_digit c ≡ true → digit_value c < 10
digit_is_below c h = let low : 48 ≤ c = grind (arith, nat_tests) in let high : c ≤ 57 = grind (arith, nat_tests) in omega (arith, digit_value_digit c (low, high))

digit_byte : (d : ℕ) → d < 10 → (is_ascii_digit (48 + d) ≡ true) × (digit_value (48 + d) ≡ d)
digit_byte d h = (grind (arith, nat_tests), omega (arith, digit_value_digit (48 + d) (omega arith, omega arith)))

digits_from-push : (k : ℕ) (ds : List ℕ) (c : ℕ) → list_all is_ascii_digit ds ≡ true → digit_value c < 10 → digits_from 10 k (ds ++ c ∷ []) ≡ digits_from 10 k ds * 10 + digit_value c
digits_from-push k [] c h e = digits_step 10 k c [] e
digits_from-push k (d ∷ ds) c h e =
    let both = and_true (is_ascii_digit d) (list_all is_ascii_digit ds) h in
    let lt = digit_is_below d both.0 in
    digits_step 10 k d (ds ++ c ∷ []) lt ∙ digits_from-push (k * 10 + digit_value d) ds c both.1 e ∙ ap (λ (m : ℕ). m * 10 + digit_value c) (sym (digits_step 10 k d ds lt))

one_digit : (n : ℕ) → n < 10 → IsDecimal n ((48 + n) ∷ [])
one_digit n h = let d = digit_byte n h in record {
  digits = rw d.0 refl;
  value = digits_step 10 0 (48 + n) [] (omega (arith, d.1)) ∙ omega (arith, d.1);
}

more_digits : (n : ℕ) (ds : List ℕ) → 10 ≤ n → IsDecimal (n / 10) ds → IsDecimal n (ds ++ ((48 + n % 10) ∷ []))
more_digits n ds h p = let d = digit_byte (n % 10) (omega arith) in record {
  digits = rw (list_all-append is_ascii_digit ds ((48 + n % 10) ∷ []), p.digits, d.0) refl;
  value = digits_from-push 0 ds (48 + n % 10) p.digits (omega (arith, d.1)) ∙ omega (arith, p.value, d.1);
}

decimal_is : (n : ℕ) → n < 2 ^ 64 → IsDecimal n (decimal n)
decimal_is n h = decimal_by_steps IsDecimal one_digit more_digits n h

number_len-is : (bytes rest : List ℕ) (n : ℕ) → digits_len bytes ≡ n → drop n bytes ≡ rest → prefix_len is_suffix rest ≡ 0 → number_len bytes ≡ n
unfolding number_len
number_len-is bytes rest n e d s = rw (e, d, s) (omega arith)

no_hexadecimal : (x : ℕ) → is_name_byte x ≡ false → eqb x 120 ≡ false
no_hexadecimal x h = grind (arith, nat_tests)

-- a 0 alone
zero_len-is : (rest : List ℕ) → prefix_len is_name_byte rest ≡ 0 → zero_len rest ≡ 1
zero_len-is [] e = refl
zero_len-is (x ∷ []) e = let o = none_passes is_name_byte is_octal_digit octal_is_name_byte (x ∷ []) e in rw o refl
zero_len-is (x ∷ h ∷ rest) e =
    let o = none_passes is_name_byte is_octal_digit octal_is_name_byte (x ∷ h ∷ rest) e in
    rw (no_hexadecimal x (head_fails is_name_byte x (h ∷ rest) e), o) refl

number_at : (b : ℕ) (bytes : List ℕ) (n : ℕ) → is_ascii_digit b ≡ true → number_len (b ∷ bytes) ≡ n → piece_at (b ∷ bytes) ≡ Some (cut (pieces.Token kinds.Number) n)
unfolding piece_at
number_at b bytes n h e =
    let blank : is_blank b ≡ false = grind (arith, nat_tests) in let start : is_name_start b ≡ false = grind (arith, nat_tests) in rw (blank, start, h, e) refl

-- the literal's piece and its value, by its first digit
record IsLiteral (n : ℕ) (ds rest : List ℕ) : Type 0 where
  stands : piece_at (ds ++ rest) ≡ Some (cut (pieces.Token kinds.Number) (length ds))
  value : literal_of ds ≡ n

nonzero_stands : (n : ℕ) (ds rest : List ℕ) → IsDecimal n ds → 48 < get_or ds 0 0 → prefix_len is_name_byte rest ≡ 0 → IsLiteral n ds rest
unfolding literal_of
nonzero_stands n [] rest p h e = absurd (omega arith)
nonzero_stands n (b ∷ ds) rest p h e =
    let both = and_true (is_ascii_digit b) (list_all is_ascii_digit ds) p.digits in
    let nonzero : eqb b 48 ≡ false = grind (arith, nat_tests) in
    let len : digits_len (b ∷ (ds ++ rest)) ≡ 1 + length ds = rw (nonzero, prefix_len-whole is_ascii_digit ds rest both.1 (none_passes is_name_byte is_ascii_digit digit_is_name_byte rest e)) refl in
    let tail = drop_at (b ∷ ds) rest (1 + length ds) (omega arith) in
    let all = number_len-is (b ∷ (ds ++ rest)) rest (1 + length ds) len tail (none_passes is_name_byte is_suffix suffix_is_name_byte rest e) in
    let k : 1 + length ds ≡ length (b ∷ ds) = omega arith in
    record { stands = number_at b (ds ++ rest) (length (b ∷ ds)) both.0 (all ∙ k); value = rw nonzero p.value }

zero_stands : (rest : List ℕ) → prefix_len is_name_byte rest ≡ 0 → IsLiteral 0 (48 ∷ []) rest
unfolding literal_of
zero_stands rest e =
    let all = number_len-is (48 ∷ rest) rest 1 (zero_len-is rest e) refl (none_passes is_name_byte is_suffix suffix_is_name_byte rest e) in
    record { stands = number_at 48 rest 1 refl all; value = refl }

decimal_stands : (n : ℕ) (rest : List ℕ) → n < 2 ^ 64 → prefix_len is_name_byte rest ≡ 0 → IsLiteral n (decimal n) rest
decimal_stands n rest h e =
    elim (cases_lt 0 n) [
      | inl lt ↦ nonzero_stands n (decimal n) rest (decimal_is n h) (first_decimal n lt h) e
      | inr le ↦ (let z : n ≡ 0 = omega arith in subst (λ (m : ℕ). IsLiteral m (decimal m) rest) (sym z) (rw (decimal_digit 0 (omega arith)) (zero_stands rest e)))
    ]

-- a decimal number in front, where no byte of a name follows it
pub number : (n : ℕ) (rest : List ℕ) (meant : List Atom) → n < 2 ^ 64 → prefix_len is_name_byte rest ≡ 0 → Spells rest meant → Spells (decimal n ++ rest) (atoms.Number n ∷ meant)
number n rest meant h e s =
    let p = decimal_stands n rest h e in
    let is : number_atom n ≡ atoms.Number n = rw (lt-ltb n (2 ^ 64) h) refl in
    subst (λ (a : Atom). Spells (decimal n ++ rest) (a ∷ meant)) (ap number_atom p.value ∙ is) (piece (pieces.Token kinds.Number) (decimal n) rest meant p.stands s)

-- a number's decimal digits are a literal of that value
pub reads_back : (n : ℕ) → n < 2 ^ 64 → literal_of (decimal n) ≡ n
reads_back n h = (decimal_stands n [] h refl).value
