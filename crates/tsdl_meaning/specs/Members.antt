-- What a string's attributes come to, and the members that may hold a length.
use Rattle.std.specs.Prelude.{◌≡◌, ℕ, Bool, true, false, ◌&&◌, List, Option, Some, None, slice_index_or}
use Rattle.std.specs.Str.{bytes_eq}
use Rattle.ctf_types.specs.declared.MemberType.{MemberType}
use Rattle.ctf_types.specs.Chain.{Leaf, ByteString}
use Rattle.tsdl_grammar.specs.MemberMeaning.{is_unsigned}

-- a byte string, or nothing
abbrev pub text_leaf : Bool → Option Leaf
text_leaf true = Some ByteString
text_leaf false = None

-- an unsigned integer of this name
abbrev pub is_length : List ℕ → List ℕ × MemberType → Bool
is_length name m = bytes_eq name m.0 && is_unsigned m.1

-- the answer is whether the member at the index may hold the length of this name
abbrev pub IsLengthAt : List (List ℕ × MemberType) → List ℕ → ℕ → Bool → Type 0
IsLengthAt before name index answer = (d : List ℕ × MemberType) → is_length name (slice_index_or before index d) ≡ answer
