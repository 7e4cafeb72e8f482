-- Members of the program as the definitions see them: names as their bytes, each with its type.
use Rattle.std.specs.Prelude.{ℕ, List, map}
use Rattle.std.specs.String.{string_bytes}
use Rattle.std.specs.declared.string.String.{String}
use Rattle.std.specs.declared.alloc.Global.{Global}
use Rattle.data_types.specs.declared.member_type.MemberType.{MemberType}

abbrev pub named_members : List (String Global × MemberType) → List (List ℕ × MemberType)
named_members es = map (λ e. (string_bytes e.0, e.1)) es

-- the names of the members, in their order
abbrev pub names_in : {A : Type 0} → List (List ℕ × A) → List (List ℕ)
names_in ms = map (λ m. m.0) ms
