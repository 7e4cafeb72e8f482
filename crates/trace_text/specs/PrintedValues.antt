-- Values of a printed trace. A value says itself whether it is a number, a string or a list; its type says the base and the labels of numbers,
-- also of those in a list. The members of a structure stand between braces, each with its name.
use Rattle.std.specs.Prelude.{ℕ, pos, List, [], ◌∷◌, ◌++◌, codes}
use Rattle.std.specs.Fmt.{signed_decimal}
use Rattle.ctf_types.specs.declared.MemberType.{MemberType}
use Rattle.ctf_types.specs.declared.MemberType.TheVariants.{Plain, Dyn}
use Rattle.ctf_types.specs.Chain.{Leaf}
use Rattle.ctf_types.specs.Datum.{Datum, Items, Unsigned, Signed, Text, Many, none, item}
use Rattle.ctf_types.specs.FieldTypes.{chain_of}
use Rattle.trace_text.specs.PrintedNumbers.{in_base, base_of, label_text}
use Rattle.trace_text.specs.PrintedTexts.{string_text, listed}

unfoldable mutual
  pub value_text : Leaf → Datum → List ℕ
  value_text t (Unsigned n) = in_base (base_of t) n ++ label_text t (pos n)
  value_text t (Signed z) = signed_decimal z ++ label_text t z
  value_text t (Text s) = string_text s
  value_text t (Many ds) = codes "[" ++ listed (texts_of t ds) ++ codes "]"

  -- the texts of a list's elements
  pub texts_of : Leaf → Items → List (List ℕ)
  texts_of t none = []
  texts_of t (item d ds) = value_text t d ∷ texts_of t ds

-- of an array the type of what is in it, however deep
abbrev pub leaf_of : MemberType → Leaf
leaf_of (Plain t) = (chain_of t).leaf
leaf_of (Dyn t length) = (chain_of t).leaf

-- `name=value`
abbrev pub member_text : List ℕ × MemberType → Datum → List ℕ
member_text m v = m.0 ++ codes "=" ++ value_text (leaf_of m.1) v

unfoldable pub member_texts : List (List ℕ × MemberType) → List Datum → List (List ℕ)
member_texts [] vs = []
member_texts (m ∷ ms) [] = []
member_texts (m ∷ ms) (v ∷ vs) = member_text m v ∷ member_texts ms vs

-- ` name{..}`; a structure without members is not there
abbrev pub structure_text : List ℕ → List (List ℕ × MemberType) → List Datum → List ℕ
structure_text name [] vs = []
structure_text name (m ∷ ms) vs = codes " " ++ name ++ codes "{" ++ listed (member_texts (m ∷ ms) vs) ++ codes "}"
