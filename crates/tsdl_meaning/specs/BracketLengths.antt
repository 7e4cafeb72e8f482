-- What the brackets of a member say so far.
use Rattle.std.specs.Prelude.{◌≡◌, ℕ, ◌+◌, ◌*◌, ◌<◌, ◌≤◌, ◌⊎◌, max, true, List, [], ◌∷◌, ◌++◌}
use Rattle.std.specs.List.{flat_map}
use Rattle.ctf_types.specs.declared.limits.TheConstants.{MAX_ARRAYS, MAX_ELEMENTS}
use Rattle.tsdl_grammar.specs.declared.token.Mark.TheVariants as marks
use Rattle.tsdl_grammar.specs.declared.atom.Atom.{Atom}
use Rattle.tsdl_grammar.specs.declared.tree.Bracket.{Bracket}
use Rattle.tsdl_grammar.specs.Spelling.{mark, bracket_toks}
use Rattle.tsdl_flaw.specs.Fronts.{Ends}
use Rattle.tsdl_meaning.specs.declared.judge.brackets.Lengths.{Lengths}

-- one more length
pub record Adds (old : Lengths) (n : ℕ) (new : Lengths) : Type 0 where
  pub counted : new.count ≡ old.count + 1
  pub made : new.elements ≡ old.elements * max n 1
  pub sequence : new.is_sequence ≡ old.is_sequence

-- a length that passes a limit behind these
abbrev pub PassesLimit : Lengths → ℕ → Type 0
PassesLimit l n = (MAX_ARRAYS ≤ l.count) ⊎ (MAX_ELEMENTS < l.elements * max n 1) ⊎ ((n ≡ 0) × (l.is_sequence ≡ true))

-- these brackets stand right before the place
abbrev pub IsBehindBrackets : List Bracket → List Atom → Type 0
IsBehindBrackets done front = Ends front (flat_map bracket_toks done)

-- and so do these and `[`
abbrev pub IsInBrackets : List Bracket → List Atom → Type 0
IsInBrackets done front = Ends front (flat_map bracket_toks done ++ mark marks.OpenBracket ∷ [])

-- `[` stands right before the place
abbrev pub IsInBracket : List Atom → Type 0
IsInBracket front = Ends front (mark marks.OpenBracket ∷ [])
