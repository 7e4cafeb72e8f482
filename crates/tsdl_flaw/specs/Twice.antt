-- What stands twice: a name, the number of a stream or an event, or a block that may stand once only. The front is what stands before the place, and
-- the piece what stands there.
use Rattle.std.specs.Prelude.{◌≡◌, ℕ, ◌⊎◌, List, [], ◌∷◌, ◌++◌, map, Option, Some, None, codes}
use Rattle.std.specs.List.{Contains, flat_map}
use Rattle.tsdl_grammar.specs.declared.token.Mark.{Mark}
use Rattle.tsdl_grammar.specs.declared.token.Mark.TheVariants as marks
use Rattle.tsdl_grammar.specs.declared.atom.Atom.{Atom}
use Rattle.tsdl_grammar.specs.declared.tree.Name.{Name}
use Rattle.tsdl_grammar.specs.declared.tree.Number.{Number}
use Rattle.tsdl_grammar.specs.declared.tree.Value.{Value}
use Rattle.tsdl_grammar.specs.declared.tree.Kind.{Kind}
use Rattle.tsdl_grammar.specs.declared.tree.Item.{Item}
use Rattle.tsdl_grammar.specs.declared.tree.Item.TheVariants.{Attribute, Scope}
use Rattle.tsdl_grammar.specs.declared.tree.MemberTree.{MemberTree}
use Rattle.tsdl_grammar.specs.declared.tree.NamedFact.{NamedFact}
use Rattle.tsdl_grammar.specs.declared.tree.Block.TheVariants as blocks
use Rattle.tsdl_grammar.specs.Spelling.{mark, word, name_toks, number_toks, value_toks, kind_toks, member_toks, item_toks, block_toks}
use Rattle.tsdl_grammar.specs.Steps.{◌>>=◌}
use Rattle.tsdl_grammar.specs.Lookups.{attr, attrs_in}
use Rattle.tsdl_grammar.specs.AttributeValues.{natural, name_value}
use Rattle.tsdl_grammar.specs.BlockMeaning.{number_or_zero}
use Rattle.tsdl_flaw.specs.Written.{written}
use Rattle.tsdl_flaw.specs.Fronts.{Ends, Holds}

-- the name of an item and the mark behind it
abbrev pub heading : Item → Name × Mark
heading (Attribute a) = (a.name, marks.Equals)
heading (Scope s) = (s.name, marks.Assign)

-- a name with its mark: of an attribute, of a scope, or of an entry of an environment, which is spelled as an attribute is. Between the opening brace and the
-- name stand these items, and one of them has the same name and mark.
pub record IsNameTwice (front piece : List Atom) : Type 0 where
  pub name : Name
  pub other : Name
  pub behind : Mark
  pub items : List Item
  pub ends : Ends front (mark marks.OpenBrace ∷ flat_map item_toks items)
  pub before : Contains (map heading items) (other, behind)
  pub same : written other ≡ written name
  pub here : piece ≡ name_toks name ++ mark behind ∷ []

-- the name of a member. Between the opening brace and the member's kind stand these members, and one of them has the name.
pub record IsMemberTwice (front piece : List Atom) : Type 0 where
  pub name : List ℕ
  pub kind : Kind
  pub members : List MemberTree
  pub ends : Ends front (mark marks.OpenBrace ∷ flat_map member_toks members ++ kind_toks kind)
  pub before : Contains (map (λ m. m.name) members) name
  pub here : piece ≡ word name ∷ []

-- a block of this word, behind its opening brace and these items
abbrev pub begun : List ℕ → List Item → List Atom
begun w is = word w ∷ mark marks.OpenBrace ∷ flat_map item_toks is

-- the name that a clock block has
abbrev pub clock_name : List Item → Option (List ℕ)
clock_name is = attr (codes "name") (attrs_in is) >>= name_value

-- the name of a clock
pub record IsClockTwice (front piece : List Atom) : Type 0 where
  pub name : List ℕ
  pub other : List Item
  pub items : List Item
  pub value : Value
  pub before : Holds front (block_toks (blocks.Clock other))
  pub named : clock_name other ≡ Some name
  pub ends : Ends front (begun (codes "clock") items ++ word (codes "name") ∷ mark marks.Equals ∷ [])
  pub here : piece ≡ value_toks value
  pub same : name_value value ≡ Some name

-- the number of a stream where it is given, and where a stream without one ends, which has the number 0
abbrev pub IsNumbered : List Atom → List Atom → List Item → ℕ → Type 0
IsNumbered front piece items id =
    (Ends front (begun (codes "stream") items ++ word (codes "id") ∷ mark marks.Equals ∷ []) × ((n : Number) × (piece ≡ number_toks n) × (natural n ≡ Some id)))
    ⊎ (Ends front (begun (codes "stream") items) × (piece ≡ mark marks.CloseBrace ∷ []) × (attr (codes "id") (attrs_in items) ≡ None) × (id ≡ 0))

-- the number of a stream
pub record IsStreamTwice (front piece : List Atom) : Type 0 where
  pub id : ℕ
  pub other : List Item
  pub items : List Item
  pub before : Holds front (block_toks (blocks.Stream other))
  pub numbered : number_or_zero (codes "id") (attrs_in other) ≡ Some id
  pub here : IsNumbered front piece items id

-- these items give an event these numbers, of its stream and its own; one that is left out is 0
abbrev pub HasNumbers : List Item → ℕ → ℕ → Type 0
HasNumbers items stream id = (number_or_zero (codes "stream_id") (attrs_in items) ≡ Some stream) × (number_or_zero (codes "id") (attrs_in items) ≡ Some id)

-- the numbers of an event, where it ends
pub record IsEventTwice (front piece : List Atom) : Type 0 where
  pub stream : ℕ
  pub id : ℕ
  pub other : List Item
  pub items : List Item
  pub before : Holds front (block_toks (blocks.Event other))
  pub numbered : HasNumbers other stream id
  pub ends : Ends front (begun (codes "event") items)
  pub same : HasNumbers items stream id
  pub here : piece ≡ mark marks.CloseBrace ∷ []

-- the word of a block that may stand once only
abbrev pub IsBlockTwice : List Atom → List Atom → Type 0
IsBlockTwice front piece =
    (((other : List Item) × Holds front (block_toks (blocks.Trace other))) × (piece ≡ word (codes "trace") ∷ []))
    ⊎ (((facts : List NamedFact) × Holds front (block_toks (blocks.Environment facts))) × (piece ≡ word (codes "env") ∷ []))

abbrev pub IsTwice : List Atom → List Atom → Type 0
IsTwice front piece =
    IsNameTwice front piece ⊎ IsMemberTwice front piece ⊎ IsClockTwice front piece ⊎ IsStreamTwice front piece ⊎ IsEventTwice front piece ⊎ IsBlockTwice front piece
