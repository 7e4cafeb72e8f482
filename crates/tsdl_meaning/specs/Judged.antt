-- Where judging a tree stops, and what stands before it.
use Rattle.std.specs.Prelude.{◌≡◌, ℕ, Bool, false, List, [], ◌∷◌, ◌++◌, codes}
use Rattle.std.specs.List.{flat_map}
use Rattle.tsdl_grammar.specs.declared.atom.Atom.{Atom}
use Rattle.tsdl_grammar.specs.declared.token.Mark.TheVariants as marks
use Rattle.tsdl_grammar.specs.declared.tree.Item.{Item}
use Rattle.tsdl_grammar.specs.declared.tree.NamedFact.{NamedFact}
use Rattle.tsdl_grammar.specs.Spelling.{mark, word, named_fact_toks}
use Rattle.tsdl_flaw.specs.declared.flaw.Stop.{Stop}
use Rattle.tsdl_flaw.specs.Fronts.{Ends}
use Rattle.tsdl_flaw.specs.Misfits.{IsMisfit}
use Rattle.tsdl_flaw.specs.Stopping.{StopsIn}
use Rattle.tsdl_flaw.specs.Twice.{begun}

-- a stop among these atoms, whatever stands around them
abbrev pub StopsAmong : ℕ → List Atom → Stop → Type 0
StopsAmong at toks stop = (front behind : List Atom) → StopsIn front at (toks ++ behind) stop

-- the same, where this holds of what stands before them
abbrev pub StopsWhere : (List Atom → Type 0) → ℕ → List Atom → Stop → Type 0
StopsWhere P at toks stop = (front behind : List Atom) → P front → StopsIn front at (toks ++ behind) stop

-- the same, where these atoms are a misfit unless they fit
pub record StopsUnless (fits : Bool) (at : ℕ) (toks : List Atom) (stop : Stop) : Type 0 where
  pub stops : StopsWhere (λ front. fits ≡ false → IsMisfit front toks) at toks stop

-- an environment is begun with these entries
abbrev pub EndsFacts : List NamedFact → List Atom → Type 0
EndsFacts facts front = Ends front (word (codes "env") ∷ mark marks.OpenBrace ∷ flat_map named_fact_toks facts)

-- a block or a type of this word is begun, and the value of its attribute of this name stands next
abbrev pub IsAttribute : List ℕ → List ℕ → List Atom → Type 0
IsAttribute block name front = (items : List Item) × Ends front (begun block items ++ (word name ∷ mark marks.Equals ∷ []))
