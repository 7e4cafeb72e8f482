-- Numbers of a printed trace: signed ones are decimal, unsigned ones stand in the display base of their type, with its prefix
-- (CTF 1.8.3, section 4.1.5, the attribute `base`). Behind a number of an enumeration stands the label of the first range that holds it.
use Rattle.std.specs.Prelude.{ℕ, ℤ, false, ◌&&◌, int_le, if◌then◌else◌, List, [], ◌∷◌, ◌++◌, Option, None, Some, codes}
use Rattle.std.specs.Fmt.{decimal, digits}
use Rattle.ctf_types.specs.declared.Base.{Base}
use Rattle.ctf_types.specs.declared.Base.TheVariants.{Bin, Oct, Dec, Hex}
use Rattle.ctf_types.specs.declared.Mapping.{Mapping}
use Rattle.ctf_types.specs.Chain.{Leaf, Number, Labelled, ByteString}
use Rattle.trace_text.specs.PrintedTexts.{name_text}

abbrev pub in_base : Base → ℕ → List ℕ
in_base Bin n = codes "0b" ++ digits 2 false n
in_base Oct n = codes "0o" ++ digits 8 false n
in_base Dec n = decimal n
in_base Hex n = codes "0x" ++ digits 16 false n

-- the base of a type's numbers; where the type has none, they are decimal
abbrev pub base_of : Leaf → Base
base_of (Number t) = t.base
base_of (Labelled t) = t.int.base
base_of ByteString = Dec

-- the ranges of a type's numbers
abbrev pub ranges_of : Leaf → List Mapping
ranges_of (Number t) = []
ranges_of (Labelled t) = t.mappings
ranges_of ByteString = []

-- the label of the first range that holds a number
unfoldable pub label_in : List Mapping → ℤ → Option (List ℕ)
label_in [] z = None
label_in (m ∷ ms) z = if int_le m.low z && int_le z m.high then Some m.label else label_in ms z

-- `(LABEL)`, where there is one
abbrev pub in_parentheses : Option (List ℕ) → List ℕ
in_parentheses None = []
in_parentheses (Some label) = codes "(" ++ name_text label ++ codes ")"

abbrev pub label_text : Leaf → ℤ → List ℕ
label_text t z = in_parentheses (label_in (ranges_of t) z)

-- a count that there may be none of
abbrev pub count_text : Option ℕ → List ℕ
count_text None = codes "-"
count_text (Some n) = decimal n
