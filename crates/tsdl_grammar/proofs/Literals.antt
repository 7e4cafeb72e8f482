-- The digits of a literal, one by one, and that its value only grows with them.
use Rattle.std.proofs.Common.{◌≡◌, ℕ, ◌+◌, ◌*◌, ◌<◌, ◌≤◌, List, [], ◌∷◌, length, get_or, drop, arith, refl, sym, subst, ◌∙◌, inl, inr}
use Rattle.std.proofs.{lemmas.Bool.{cases_lt, le-ltb, lt-ltb}, lemmas.List.at_drop_more}
use Rattle.std.proofs.Math.Nat.{mul-le-mul_left}
use Rattle.std.specs.Char.{digit_value}
use Rattle.tsdl_grammar.specs.Literals.{digits_from}

pub digits_step : (base n b : ℕ) (bytes : List ℕ) → digit_value b < base → digits_from base n (b ∷ bytes) ≡ digits_from base (n * base + digit_value b) bytes
digits_step base n b bytes h = rw (lt-ltb (digit_value b) base h) refl

le-digits_from : (base n : ℕ) (bytes : List ℕ) → 0 < base → n ≤ digits_from base n bytes
le-digits_from base n [] h = omega arith
le-digits_from base n (b ∷ bytes) h =
    elim (cases_lt (digit_value b) base) [
      | inl lt ↦ rw (digits_step base n b bytes lt) (let rest = le-digits_from base (n * base + digit_value b) bytes h in omega (arith, rest, mul-le-mul_left n h))
      | inr le ↦ rw (le-ltb (digit_value b) base le) (omega arith)
    ]

-- the least that the total is behind one more digit
pub at_least : (base n total : ℕ) (bytes : List ℕ) (i : ℕ) → 0 < base → i < length bytes → digit_value (get_or bytes i 0) < base → digits_from base n (drop i bytes) ≡ total → n * base + digit_value (get_or bytes i 0) ≤ total
at_least base n total bytes i z l h e =
    let b = get_or bytes i 0 in let behind = drop (i + 1) bytes in
    subst (λ (m : ℕ). n * base + digit_value b ≤ m) (sym (at_drop_more (digits_from base n) bytes i 0 l ∙ digits_step base n b behind h) ∙ e) (le-digits_from base (n * base + digit_value b) behind z)
