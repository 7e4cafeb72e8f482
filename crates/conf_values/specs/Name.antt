-- The names of a configuration (barectf 3.1, "Configuration object"; CTF 1.8.3, appendix C.1.2, "Keywords", and C.1.3, "Identifiers").
use Rattle.std.specs.Prelude.{ℕ, ◌&&◌, ◌||◌, List, Bool, Result, Ok, Err, length, nat_le, if◌then◌else◌, ⊤}
use Rattle.std.specs.List.{list_any}
use Rattle.std.specs.Str.{bytes_eq}
use Rattle.conf_tree.specs.declared.fault_kind.FaultKind.TheVariants.{BadName, ReservedName}
use Rattle.conf_tree.specs.Flaw.{Flaw, here}
use Rattle.conf_tree.specs.Reading.{◌>>=◌}
use Rattle.ctf_types.specs.Names.{is_identifier, unused_keywords, used_keywords}
use Rattle.ctf_types.specs.declared.limits.TheConstants.{MAX_NAME_BYTES}

-- a name: an identifier of 255 bytes at most
unfoldable pub name_of : List ℕ → Result ⊤ Flaw
name_of s = if is_identifier s && nat_le (length s) MAX_NAME_BYTES then Ok tt else Err (here BadName)

unfoldable pub is_reserved : List ℕ → Bool
is_reserved s = list_any (bytes_eq s) unused_keywords || list_any (bytes_eq s) used_keywords

-- a name that is no reserved word
unfoldable pub plain_name_of : List ℕ → Result ⊤ Flaw
plain_name_of s = name_of s >>= (λ ok. if is_reserved s then Err (here ReservedName) else Ok tt)
