-- Runs of bytes that pass a test, and what one class of bytes says of another.
use Rattle.std.proofs.Common.{◌≡◌, ℕ, Bool, true, false, List, [], ◌∷◌, ◌++◌, length, arith, refl}
use Rattle.std.specs.{List.{prefix_len, list_all}, Char.is_ascii_digit}
pub use Rattle.std.proofs.lemmas.Bool.{and_parts as and_true}
use Rattle.std.proofs.{lemmas.Bool.false_from_ne_true, lemmas.Bool.Decides.nat_tests, lemmas.List.Sums.prefix_len-le-length}
use Rattle.tsdl_grammar.specs.Bytes.{is_name_byte, is_suffix, is_octal_digit}

-- bytes that all pass, and then none
pub prefix_len-whole : (p : ℕ → Bool) (xs ys : List ℕ) → list_all p xs ≡ true → prefix_len p ys ≡ 0 → prefix_len p (xs ++ ys) ≡ length xs
prefix_len-whole p [] ys h e = e
prefix_len-whole p (x ∷ xs) ys h e = let both = and_true (p x) (list_all p xs) h in rw (both.0, prefix_len-whole p xs ys both.1 e) (omega arith)

-- the first byte of a run of none fails
pub head_fails : (p : ℕ → Bool) (x : ℕ) (xs : List ℕ) → prefix_len p (x ∷ xs) ≡ 0 → p x ≡ false
head_fails p x xs e = false_from_ne_true (p x) (λ passes. let some = rw passes at e in absurd (omega arith))

-- where no byte of a class stands, none of a narrower class does
pub none_passes : (p q : ℕ → Bool) → ((x : ℕ) → q x ≡ true → p x ≡ true) → (bytes : List ℕ) → prefix_len p bytes ≡ 0 → prefix_len q bytes ≡ 0
none_passes p q h [] e = refl
none_passes p q h (x ∷ xs) e = rw (false_from_ne_true (q x) (λ passes. absurd (let wider = h x passes in let fails = head_fails p x xs e in cc))) refl

pub digit_is_name_byte : (b : ℕ) → is_ascii_digit b ≡ true → is_name_byte b ≡ true
digit_is_name_byte b h = grind (arith, nat_tests)

pub suffix_is_name_byte : (b : ℕ) → is_suffix b ≡ true → is_name_byte b ≡ true
suffix_is_name_byte b h = grind (arith, nat_tests)

pub octal_is_name_byte : (b : ℕ) → is_octal_digit b ≡ true → is_name_byte b ≡ true
octal_is_name_byte b h = grind (arith, nat_tests)

pub ruleset runs_within = (prefix_len-le-length)
