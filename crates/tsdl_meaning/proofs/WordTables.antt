-- A word that is none of a table's stands for nothing, and an identifier that a text parses from is an option.
use Rattle.std.proofs.Common.{◌≡◌, ℕ, false, List, ◌∷◌, None, refl, sym, bytes_eq, ◌↔◌, Option, Some, Result, IsOk, IfOk, [], arith}
use Rattle.tsdl_meaning.proofs.TextWords.{bytes_eq-Decides, meant_by, result_ok, false_from_ne_true}
use Rattle.uuid.specs.declared.error.Error.{Error}

pub other_word : (a b : List ℕ) → (b ≡ a → ⊥) → bytes_eq a b ≡ false
other_word a b h = false_from_ne_true (bytes_eq a b) (λ e. h (sym ((bytes_eq-Decides a b).0 e)))

-- the word is none of the rows'
abbrev pub IsAbsent : {A : Type 0} → List (List ℕ × A) → List ℕ → Type 0
IsAbsent [] w = Unit {0}
IsAbsent (row ∷ rows) w = (w ≡ row.0 → ⊥) × IsAbsent rows w

pub absent : {A : Type 0} (rows : List (List ℕ × A)) (w : List ℕ) → IsAbsent rows w → meant_by rows w ≡ None
absent [] w h = refl
absent (row ∷ rows) w h = grind (arith, other_word row.0 w, absent rows w, h)

pub parses_to : (r : Result (List ℕ) Error) (o : Option (List ℕ)) → (IsOk r ↔ ((u : List ℕ) × (o ≡ Some u))) → IfOk r (λ u. Some u ≡ o) → result_ok r ≡ o
parses_to r o iff is = grind (arith, iff, is)
