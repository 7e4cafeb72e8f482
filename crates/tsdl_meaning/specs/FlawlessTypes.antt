-- What the attributes of an integer and of a string are in which no flaw is found: each is one that the type may have and has what its name asks for, and no
-- name stands twice.
use Rattle.std.specs.Prelude.{◌≡◌, ℕ, ◌≤◌, List, [], ◌∷◌, length, Some, codes}
use Rattle.std.specs.Option.{is_some}
use Rattle.ctf_types.specs.declared.Mapping.{Mapping}
use Rattle.ctf_types.specs.declared.limits.TheConstants.{MAX_RANGES}
use Rattle.tsdl_grammar.specs.declared.tree.Entry.{Entry}
use Rattle.tsdl_grammar.specs.declared.tree.Kind.{Kind}
use Rattle.tsdl_grammar.specs.declared.tree.Kind.TheVariants as kinds
use Rattle.tsdl_grammar.specs.declared.tree.Attribute.{Attribute}
use Rattle.tsdl_grammar.specs.IntegerMeaning.{Known, int_attrs, order_value, clock_value}
use Rattle.tsdl_grammar.specs.MemberMeaning.{entry_meaning}
use Rattle.tsdl_grammar.specs.Steps.{each}
use Rattle.tsdl_meaning.specs.declared.judge.kind.TypeKind.{TypeKind}
use Rattle.tsdl_meaning.specs.declared.judge.kind.TypeKind.TheVariants as types
use Rattle.tsdl_flaw.specs.Asked.{Asked, of_integer, of_string}

-- what the attributes of an integer are asked for where this is known; of two rows of a name the first one counts
abbrev pub integer_asks : Known → Asked
integer_asks known = (codes "byte_order", λ v. is_some (order_value known.order v)) ∷ (codes "map", λ v. is_some (clock_value known.clocks v)) ∷ of_integer

abbrev pub string_attrs : List (List (List ℕ))
string_attrs = (codes "encoding" ∷ []) ∷ []

-- an integer or a string of these attributes
abbrev pub tree_of : TypeKind → List Attribute → Kind
tree_of types.Integer attrs = kinds.Integer attrs
tree_of types.Text attrs = kinds.Text (Some attrs)

-- its word, the attributes that it may have, and what they are asked for
abbrev pub type_word : TypeKind → List ℕ
type_word types.Integer = codes "integer"
type_word types.Text = codes "string"

abbrev pub own_attrs : TypeKind → List (List (List ℕ))
own_attrs types.Integer = int_attrs
own_attrs types.Text = string_attrs

abbrev pub own_asked : Known → TypeKind → Asked
own_asked known types.Integer = integer_asks known
own_asked known types.Text = of_string

-- no more ranges than the limit, each of which means something
pub record AreRanges (es : List Entry) : Type 0 where
  pub few : length es ≤ MAX_RANGES
  pub mappings : List Mapping
  pub mean : each entry_meaning es ≡ Some mappings
