-- Readings that never fall, one after the other.
use Rattle.std.proofs.Common.{◌≡◌, ℕ, ◌+◌, ◌<◌, ◌≤◌, List, ◌∷◌, length, get_or, drop, ◌↔◌, sym, subst, add-one, drop-cons}
use Rattle.std.proofs.lemmas.List.{drop_all}
use Rattle.ctf_types.specs.Packets.{NeverFall}

next_one : (xs : List ℕ) (i : ℕ) → i < length xs → drop i xs ≡ get_or xs i 0 ∷ drop (i + 1) xs
next_one xs i h = rw add-one (drop-cons xs i 0 h)

-- the first one is not below the number before it, and the later ones never fall after it
pub NeverFall-first : (last : ℕ) (xs : List ℕ) (i : ℕ) → i < length xs
    → NeverFall last (drop i xs) ↔ (last ≤ get_or xs i 0) × NeverFall (get_or xs i 0) (drop (i + 1) xs)
unfolding NeverFall
NeverFall-first last xs i h = rw (next_one xs i h) (λ p. p, λ p. p)

-- nothing is left
pub NeverFall-end : (last : ℕ) (xs : List ℕ) (i : ℕ) → length xs ≤ i → NeverFall last (drop i xs)
unfolding NeverFall
NeverFall-end last xs i h = rw (drop_all i xs h) tt

-- one reading
pub reading_next : (last : ℕ) (xs : List ℕ) (i n : ℕ) → i < length xs → n ≡ get_or xs i 0 → NeverFall last (drop i xs)
    → (last ≤ n) × (drop i xs ≡ n ∷ drop (i + 1) xs) × NeverFall n (drop (i + 1) xs)
reading_next last xs i n h e p =
    let f : (last ≤ get_or xs i 0) × NeverFall (get_or xs i 0) (drop (i + 1) xs) = (NeverFall-first last xs i h).0 p in
    subst (λ (k : ℕ). (last ≤ k) × (drop i xs ≡ k ∷ drop (i + 1) xs) × NeverFall k (drop (i + 1) xs)) (sym e) (f.0, next_one xs i h, f.1)
