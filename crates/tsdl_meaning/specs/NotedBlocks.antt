-- What is noted of the blocks of a text for its integers: the first byte order that a trace block gives, and the names of the clocks.
use Rattle.std.specs.Prelude.{ℕ, if◌then◌else◌, List, [], ◌∷◌, Option, Some, None, codes}
use Rattle.std.specs.Option.{option_or}
use Rattle.std.specs.List.{flat_map}
use Rattle.ctf_types.specs.declared.ByteOrder.{ByteOrder}
use Rattle.tsdl_grammar.specs.declared.tree.Attribute.{Attribute}
use Rattle.tsdl_grammar.specs.declared.tree.Item.{Item}
use Rattle.tsdl_grammar.specs.Steps.{◌>>=◌}
use Rattle.tsdl_grammar.specs.Lookups.{is_word, attrs_in}
use Rattle.tsdl_grammar.specs.AttributeValues.{word_value, name_value, meant_by}
use Rattle.tsdl_grammar.specs.BlockMeaning.{order_table}

-- the first case of a list
abbrev pub first_of : {A B : Type 0} → (A → Option B) → List A → Option B
first_of f [] = None
first_of f (x ∷ xs) = option_or (f x) (first_of f xs)

abbrev pub listed : {A : Type 0} → Option A → List A
listed None = []
listed (Some x) = x ∷ []

-- the byte order that an attribute gives
abbrev pub order_of : Attribute → Option ByteOrder
order_of a = if is_word (codes "byte_order") a.name then (word_value a.value >>= meant_by order_table) else None

-- the first one that the attributes of a block give
abbrev pub orders_in : List Item → Option ByteOrder
orders_in is = first_of order_of (attrs_in is)

-- the name that an attribute gives
abbrev pub name_of : Attribute → List (List ℕ)
name_of a = if is_word (codes "name") a.name then listed (name_value a.value) else []

-- those that the attributes of a block give
abbrev pub names_in : List Item → List (List ℕ)
names_in is = flat_map name_of (attrs_in is)
