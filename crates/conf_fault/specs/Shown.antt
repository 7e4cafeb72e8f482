-- How an explanation shows what others wrote: on one line, and a name or a value by its first characters.
use Rattle.std.specs.Prelude.{List, ◌++◌, ℕ, nat_le, if◌then◌else◌, codes, length, take, encode_utf8_all}
use Rattle.std.specs.Str.{chars}
use Rattle.conf_fault.specs.declared.shown.TheConstants.{MOST_CHARACTERS}
pub use Rattle.conf_tree.specs.OneLine.{IsOneLine, shown}

-- a text that has no more characters than are shown, or the first of a longer one and three dots
unfoldable pub cut : List ℕ → List ℕ
cut text = if nat_le (length (chars text)) MOST_CHARACTERS then text else encode_utf8_all (take MOST_CHARACTERS (chars text)) ++ codes "..."
