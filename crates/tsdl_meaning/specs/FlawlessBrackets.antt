-- What the brackets of a member are in which no flaw is found: each has a number, but that the first may name a member before, and their lengths keep the limits.
use Rattle.std.specs.Prelude.{◌≡◌, ℕ, ◌<◌, ◌≤◌, ◌⊎◌, true, false, List, ◌∷◌, length, Some, IsSome, nat_lt}
use Rattle.std.specs.List.{list_all}
use Rattle.ctf_types.specs.Allowed.{elements_of}
use Rattle.ctf_types.specs.declared.MemberType.{MemberType}
use Rattle.ctf_types.specs.declared.limits.TheConstants.{MAX_ARRAYS, MAX_ELEMENTS}
use Rattle.tsdl_grammar.specs.declared.tree.Bracket.{Bracket}
use Rattle.tsdl_grammar.specs.declared.tree.Bracket.TheVariants as brackets
use Rattle.tsdl_grammar.specs.Steps.{each}
use Rattle.tsdl_grammar.specs.MemberMeaning.{count_of, length_place}
use Rattle.tsdl_meaning.specs.declared.judge.brackets.Lengths.{Lengths}

-- one more length keeps the limits behind these, and leaves a sequence's elements bits
pub record KeepsLimits (old : Lengths) (n : ℕ) (new : Lengths) : Type 0 where
  pub few : old.count < MAX_ARRAYS
  pub small : new.elements ≤ MAX_ELEMENTS
  pub bits : old.is_sequence ≡ true → 0 < n

-- brackets with these numbers alone
abbrev pub HaveNumbers : List Bracket → List ℕ → Type 0
HaveNumbers done numbers = each count_of done ≡ Some numbers

-- brackets of which the first names an unsigned integer before, and the others have these numbers, none of them 0
pub record NameLength (before : List (List ℕ × MemberType)) (done : List Bracket) (numbers : List ℕ) : Type 0 where
  pub name : List ℕ
  pub rest : List Bracket
  pub begins : done ≡ brackets.Member name ∷ rest
  pub numbered : HaveNumbers rest numbers
  pub place : IsSome (length_place before name)
  pub bits : list_all (nat_lt 0) numbers ≡ true

pub record AreBrackets (before : List (List ℕ × MemberType)) (done : List Bracket) (l : Lengths) : Type 0 where
  pub numbers : List ℕ
  pub counted : l.count ≡ length numbers
  pub made : l.elements ≡ elements_of numbers
  pub few : length numbers ≤ MAX_ARRAYS
  pub small : elements_of numbers ≤ MAX_ELEMENTS
  pub shape : ((l.is_sequence ≡ false) × HaveNumbers done numbers) ⊎ ((l.is_sequence ≡ true) × NameLength before done numbers)
