-- Blocks in whose structures the integers and the strings have their attributes in another order. All else stands as it does.
use Rattle.std.specs.Prelude.{◌≡◌, List, Some, None}
use Rattle.tsdl_grammar.specs.{declared.tree.Attribute.Attribute, declared.tree.Entries.Entries, declared.tree.Kind.Kind, declared.tree.MemberTree.MemberTree}
use Rattle.tsdl_grammar.specs.{declared.tree.Structure.Structure, declared.tree.Scope.Scope, declared.tree.Item.Item, declared.tree.NamedFact.NamedFact}
use Rattle.tsdl_grammar.specs.declared.tree.Block.{Block}
use Rattle.tsdl_grammar.specs.declared.tree.Kind.TheVariants as kinds
use Rattle.tsdl_grammar.specs.declared.tree.Item.TheVariants as items
use Rattle.tsdl_grammar.specs.declared.tree.Block.TheVariants as blocks
use Rattle.tsdl_grammar.specs.Orders.{Reordered, Paired}

-- the same type before a member's brackets, with the attributes of its integer or its string in another order
pub data SameKind : Kind → Kind → Type 0 where
  integer : (attrs others : List Attribute) → Reordered attrs others → SameKind (kinds.Integer attrs) (kinds.Integer others)
  enumeration : (attrs others : List Attribute) (es : Entries) → Reordered attrs others → SameKind (kinds.Enumeration attrs es) (kinds.Enumeration others es)
  string_with : (attrs others : List Attribute) → Reordered attrs others → SameKind (kinds.Text (Some attrs)) (kinds.Text (Some others))
  string_alone : SameKind (kinds.Text None) (kinds.Text None)

-- the same member
pub record SameMember (m n : MemberTree) : Type 0 where
  pub kind : SameKind m.kind n.kind
  pub name : m.name ≡ n.name
  pub brackets : m.brackets ≡ n.brackets

-- the same members in their order, and the same alignment
pub record SameStructure (s t : Structure) : Type 0 where
  pub members : Paired SameMember s.members t.members
  pub align : s.align ≡ t.align

-- the same structure under the same name
pub record SameScope (s t : Scope) : Type 0 where
  pub name : s.name ≡ t.name
  pub structure : SameStructure s.structure t.structure

-- the same attribute, or the same scope
pub data SameItem : Item → Item → Type 0 where
  attribute : (a : Attribute) → SameItem (items.Attribute a) (items.Attribute a)
  scope : (s t : Scope) → SameScope s t → SameItem (items.Scope s) (items.Scope t)

-- the same block
pub data SameFields : Block → Block → Type 0 where
  trace : (is js : List Item) → Paired SameItem is js → SameFields (blocks.Trace is) (blocks.Trace js)
  stream : (is js : List Item) → Paired SameItem is js → SameFields (blocks.Stream is) (blocks.Stream js)
  event : (is js : List Item) → Paired SameItem is js → SameFields (blocks.Event is) (blocks.Event js)
  clock : (is js : List Item) → Paired SameItem is js → SameFields (blocks.Clock is) (blocks.Clock js)
  environment : (fs : List NamedFact) → SameFields (blocks.Environment fs) (blocks.Environment fs)
