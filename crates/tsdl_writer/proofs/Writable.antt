-- Tokens that can be written as they are: words are identifiers that are read, and numbers are below 2^64.
use Rattle.tsdl_writer.proofs.TreeWords.{AllByRecursion, Atom, IsMetadataName, List, [], arith, flat_map, flat_map-append, ints, negsuc, number_toks, pos, subst, sym, whole_number, ℤ, ◌++◌, ◌-◌, ◌<◌, ◌^◌, ◌∷◌, ◌≤ℤ◌}
use Rattle.tsdl_grammar.specs.declared.atom.Atom.TheVariants as atoms

abbrev pub IsWritable : Atom → Type 0
IsWritable (atoms.Word w) = IsMetadataName w
IsWritable (atoms.Number n) = n < 2 ^ 64
IsWritable (atoms.Text s) = Unit {0}
IsWritable (atoms.Mark m) = Unit {0}
IsWritable atoms.TooLarge = ⊥

abbrev pub Can : List Atom → Type 0
Can meant = AllByRecursion IsWritable meant

pub both : (m n : List Atom) → Can m → Can n → Can (m ++ n)
both [] n a b = b
both (x ∷ m) n a b = (a.0, both m n a.1 b)

-- trees of two lists
pub joined : {A : Type 0} (toks : A → List Atom) (xs ys : List A) → Can (flat_map toks xs) → Can (flat_map toks ys) → Can (flat_map toks (xs ++ ys))
joined toks xs ys a b = subst Can (sym (flat_map-append toks xs ys)) (both (flat_map toks xs) (flat_map toks ys) a b)

pub whole : (z : ℤ) → negsuc (2 ^ 64 - 2) ≤ℤ z → z ≤ℤ pos (2 ^ 64 - 1) → Can (number_toks (whole_number z))
whole (pos n) low high = (omega (arith, ints), tt)
whole (negsuc n) low high = (tt, (omega (arith, ints), tt))
