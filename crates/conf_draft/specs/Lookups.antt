-- The values of an object's properties, by name. A property that is left out, or null, or of another kind, has none.
use Rattle.std.specs.Prelude.{ℕ, ℤ, Bool, List, [], ◌∷◌, ◌++◌, Option, Some, option_and_then, unwrap_or}
use Rattle.serde_json.specs.Data.{object as of_object, Items, Members, no_members, member}
use Rattle.serde_json.specs.Find.{as_object, as_array, as_str, as_bool, as_number, as_i64}
use Rattle.conf_tree.specs.Reading.{optional}
use Rattle.conf_values.specs.Scalar.{as_natural, uuid_in}

-- a whole number from 0 to 2^64 - 1
unfoldable pub natural : List ℕ → Members → Option ℕ
natural name ms = option_and_then as_natural (optional name ms)

-- a whole number from -2^63 to 2^63 - 1
unfoldable pub signed : List ℕ → Members → Option ℤ
signed name ms = option_and_then as_i64 (option_and_then as_number (optional name ms))

unfoldable pub flag : List ℕ → Members → Option Bool
flag name ms = option_and_then as_bool (optional name ms)

unfoldable pub word : List ℕ → Members → Option (List ℕ)
word name ms = option_and_then as_str (optional name ms)

unfoldable pub object : List ℕ → Members → Option Members
object name ms = option_and_then as_object (optional name ms)

-- the properties of that object; what is left out has none
unfoldable pub properties : List ℕ → Members → Members
properties name ms = unwrap_or (object name ms) no_members

unfoldable pub list : List ℕ → Members → Option Items
list name ms = option_and_then as_array (optional name ms)

-- an identifier of 16 bytes
unfoldable pub identifier : List ℕ → Members → Option (List ℕ)
identifier name ms = option_and_then uuid_in (word name ms)

-- what each object of these says by its name, behind what is said before; None where one says nothing
abbrev pub said_behind : {A : Type 0} → (List ℕ → Members → Option A) → List A → Members → Option (List A)
said_behind of done no_members = Some done
said_behind of done (member name (of_object ms) rest) = option_and_then (λ x. said_behind of (done ++ x ∷ []) rest) (of name ms)
said_behind of done (member name _ rest) = said_behind of done rest
