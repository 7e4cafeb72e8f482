-- How a value of a configuration reads as what a place asks for: the value read, or the first flaw.
-- A reader is a function from a value to `Result A Flaw`; `◌>>=◌` lets one follow the other, and `at` says where the
-- value stands that a reader reads. `Gives` ties what a function answers to what its reader says.
use Rattle.std.specs.Prelude.{◌≡◌, ◌⊎◌, ℕ, ℤ, int_le, ◌&&◌, Bool, List, Option, Some, None, Result, Ok, Err, if◌then◌else◌}
use Rattle.serde_json.specs.Data.{Data, null, Items, Members}
use Rattle.serde_json.specs.Find.{get_member, as_object, as_array, as_str, as_bool, as_number, as_integer}
use Rattle.conf_tree.specs.declared.at.At.{At}
use Rattle.conf_tree.specs.declared.at.At.TheVariants.{Here, Property, Item}
use Rattle.conf_tree.specs.declared.fault.ConfFault.{ConfFault}
use Rattle.conf_tree.specs.declared.fault_kind.FaultKind.TheVariants.{WrongKind, NotWhole, Missing, OutOfRange}
use Rattle.conf_tree.specs.Flaw.{Flaw, Place, key, index, flaw_of, here, within, IsMemory}

-- a function answers what its reader says, or memory ran out
abbrev pub Gives : {A B : Type 0} → (A → B) → Result A ConfFault → Result B Flaw → Type 0
Gives view (Ok x) read = read ≡ Ok (view x)
Gives view (Err fault) read = IsMemory fault ⊎ (read ≡ Err (flaw_of fault))

infixl 10 ◌>>=◌
abbrev pub ◌>>=◌ : {A B : Type 0} → Result A Flaw → (A → Result B Flaw) → Result B Flaw
Ok x >>= next = next x
Err flaw >>= next = Err flaw

-- what was read of the value at a place, seen from the value around it
abbrev pub at : {A : Type 0} → Place → Result A Flaw → Result A Flaw
at place (Ok x) = Ok x
at place (Err flaw) = Err (within place flaw)

-- the same for the place that a look-up is told of
abbrev pub flaw_at : At → Flaw → Flaw
flaw_at Here flaw = flaw
flaw_at (Property name) flaw = within (key name.now) flaw
flaw_at (Item i) flaw = within (index i) flaw

abbrev pub reading_at : {A : Type 0} → At → Result A Flaw → Result A Flaw
reading_at place (Ok x) = Ok x
reading_at place (Err flaw) = Err (flaw_at place flaw)

-- ---- one value

-- what a value of another kind does not have
abbrev pub wanted : {A : Type 0} → Option A → Result A Flaw
wanted None = Err (here WrongKind)
wanted (Some x) = Ok x

abbrev pub object_of : Data → Result Members Flaw
object_of d = wanted (as_object d)

abbrev pub list_of : Data → Result Items Flaw
list_of d = wanted (as_array d)

abbrev pub text_of : Data → Result (List ℕ) Flaw
text_of d = wanted (as_str d)

abbrev pub flag_of : Data → Result Bool Flaw
flag_of d = wanted (as_bool d)

-- both ends are in the range
abbrev pub in_range : ℤ → ℤ → ℤ → Result ℤ Flaw
in_range low high z = if int_le low z && int_le z high then Ok z else Err (here OutOfRange)

-- a float is a number, but no whole one
abbrev pub whole_or_not : ℤ → ℤ → Option ℤ → Result ℤ Flaw
whole_or_not low high None = Err (here NotWhole)
whole_or_not low high (Some z) = in_range low high z

unfoldable pub whole_of : ℤ → ℤ → Data → Result ℤ Flaw
whole_of low high d = wanted (as_number d) >>= (λ n. whole_or_not low high (as_integer n))

-- ---- the properties of an object

abbrev found_or_missing : List ℕ → Option Data → Result Data Flaw
found_or_missing name None = Err (within (key name) (here Missing))
found_or_missing name (Some d) = Ok d

-- the value of a property that has to be there
abbrev pub needed : List ℕ → Members → Result Data Flaw
needed name ms = found_or_missing name (get_member name ms)

-- a null counts as no value
abbrev pub given : Option Data → Option Data
given (Some null) = None
given found = found

-- the value of a property that may be absent
abbrev pub optional : List ℕ → Members → Option Data
optional name ms = given (get_member name ms)
