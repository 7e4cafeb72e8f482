-- What stands where something else is needed, in a text whose blocks are spelled: a value or a number that is not what its place asks for, the name of a
-- clock that is not there, and a brace that closes what still needs an attribute. The front is what stands before the place, and the piece what stands there.
use Rattle.std.specs.Prelude.{◌≡◌, ℕ, ◌⊎◌, false, List, [], ◌∷◌, ◌++◌, None, int_le, codes}
use Rattle.std.specs.List.{Contains, flat_map}
use Rattle.std.specs.Option.{is_some, unwrap_or}
use Rattle.tsdl_grammar.specs.declared.token.Mark.TheVariants as marks
use Rattle.tsdl_grammar.specs.declared.atom.Atom.{Atom}
use Rattle.tsdl_grammar.specs.declared.tree.Number.{Number}
use Rattle.tsdl_grammar.specs.declared.tree.Value.{Value}
use Rattle.tsdl_grammar.specs.declared.tree.Value.TheVariants as values
use Rattle.tsdl_grammar.specs.declared.tree.Attribute.{Attribute}
use Rattle.tsdl_grammar.specs.declared.tree.Item.{Item}
use Rattle.tsdl_grammar.specs.declared.tree.Label.{Label}
use Rattle.tsdl_grammar.specs.declared.tree.Fact.{Fact}
use Rattle.tsdl_grammar.specs.declared.tree.NamedFact.{NamedFact}
use Rattle.tsdl_grammar.specs.Spelling.{mark, word, number_toks, value_toks, attr_toks, label_toks, fact_toks, named_fact_toks}
use Rattle.tsdl_grammar.specs.Lookups.{attr, attrs_in}
use Rattle.tsdl_grammar.specs.AttributeValues.{signed_of, meant_by}
use Rattle.tsdl_grammar.specs.BlockMeaning.{fact_meaning}
use Rattle.tsdl_flaw.specs.Fronts.{Ends}
use Rattle.tsdl_flaw.specs.Twice.{begun}
use Rattle.tsdl_flaw.specs.Asked.{asked_in, fits, is_alignment, is_natural}

-- a value that is not what its attribute is asked for, in a block or a type of this word
pub record IsUnfit (front piece : List Atom) : Type 0 where
  pub block : List ℕ
  pub items : List Item
  pub name : List ℕ
  pub value : Value
  pub ends : Ends front (begun block items ++ word name ∷ mark marks.Equals ∷ [])
  pub unfit : fits (asked_in block) name value ≡ false
  pub here : piece ≡ value_toks value

-- a number of an environment that is none from -2^63 to 2^63 - 1
pub record IsUnfitFact (front piece : List Atom) : Type 0 where
  pub facts : List NamedFact
  pub name : List ℕ
  pub fact : Fact
  pub ends : Ends front (word (codes "env") ∷ mark marks.OpenBrace ∷ flat_map named_fact_toks facts ++ word name ∷ mark marks.Equals ∷ [])
  pub unfit : is_some (fact_meaning fact) ≡ false
  pub here : piece ≡ fact_toks fact

-- a number behind `align (` that is no alignment
pub record IsUnfitAlignment (front piece : List Atom) : Type 0 where
  pub number : Number
  pub ends : Ends front (word (codes "align") ∷ mark marks.OpenParenthesis ∷ [])
  pub unfit : is_alignment (values.Number number) ≡ false
  pub here : piece ≡ number_toks number

-- a length below 0
pub record IsUnfitLength (front piece : List Atom) : Type 0 where
  pub number : Number
  pub ends : Ends front (mark marks.OpenBracket ∷ [])
  pub unfit : is_natural (values.Number number) ≡ false
  pub here : piece ≡ number_toks number

-- the last number of a range that falls
pub record IsUnfitRange (front piece : List Atom) : Type 0 where
  pub label : Label
  pub low : Number
  pub high : Number
  pub ends : Ends front (label_toks label ++ mark marks.Equals ∷ number_toks low ++ mark marks.Ellipsis ∷ [])
  pub unfit : int_le (signed_of low) (signed_of high) ≡ false
  pub here : piece ≡ number_toks high

-- the name in `clock.NAME.value`
pub record IsUnknownClock (front piece : List Atom) : Type 0 where
  pub name : List ℕ
  pub ends : Ends front (word (codes "clock") ∷ mark marks.Dot ∷ [])
  pub here : piece ≡ word name ∷ []

-- the attributes that blocks need, by the block's word
abbrev pub needs : List (List ℕ × List (List ℕ))
needs = (codes "trace", codes "major" ∷ codes "minor" ∷ codes "byte_order" ∷ []) ∷ (codes "event", codes "name" ∷ []) ∷ (codes "clock", codes "name" ∷ []) ∷ []

-- those that a block of this word needs
abbrev pub needed_by : List ℕ → List (List ℕ)
needed_by block = unwrap_or (meant_by needs block) []

-- the closing brace of a block that needs an attribute, and has none of this name
pub record IsBlockWithout (front piece : List Atom) : Type 0 where
  pub block : List ℕ
  pub items : List Item
  pub name : List ℕ
  pub needed : Contains (needed_by block) name
  pub ends : Ends front (begun block items)
  pub missing : attr name (attrs_in items) ≡ None
  pub here : piece ≡ mark marks.CloseBrace ∷ []

-- the closing brace of an integer without a size
pub record IsSizeless (front piece : List Atom) : Type 0 where
  pub attributes : List Attribute
  pub ends : Ends front (word (codes "integer") ∷ mark marks.OpenBrace ∷ flat_map attr_toks attributes)
  pub missing : attr (codes "size") attributes ≡ None
  pub here : piece ≡ mark marks.CloseBrace ∷ []

abbrev pub IsMisfit : List Atom → List Atom → Type 0
IsMisfit front piece =
    IsUnfit front piece ⊎ IsUnfitFact front piece ⊎ IsUnfitAlignment front piece ⊎ IsUnfitLength front piece ⊎ IsUnfitRange front piece ⊎ IsUnknownClock front piece ⊎ IsBlockWithout front piece ⊎ IsSizeless front piece
