-- Where a byte stands in a text: its line, and its place in that line, both from 1. A newline is the last byte of its line.
use Rattle.std.specs.Prelude.{◌≡◌, ◌≤◌, ◌+◌, ℕ, List, Bool, not, length, take, nat_eq}
use Rattle.std.specs.List.{count_by, suffix_len}
use Rattle.conf_fault.specs.declared.line_column.LineColumn.{LineColumn}

abbrev pub is_newline : ℕ → Bool
is_newline b = nat_eq b 10

-- the line of the byte that stands behind these: the newlines among them, and one more
unfoldable pub line_behind : List ℕ → ℕ
line_behind before = 1 + count_by is_newline before

-- its place in the line: the bytes behind the last newline, and one more
unfoldable pub column_behind : List ℕ → ℕ
column_behind before = 1 + suffix_len (λ b. not (is_newline b)) before

-- the place of the byte of this index in the text, or of its end
abbrev pub IsPlaceAt : List ℕ → ℕ → LineColumn → Type 0
IsPlaceAt text at place = (at ≤ length text) × (place.line ≡ line_behind (take at text)) × (place.column ≡ column_behind (take at text))

-- the place of a byte of the text, or of its end
abbrev pub IsPlaceIn : List ℕ → LineColumn → Type 0
IsPlaceIn text place = (at : ℕ) × IsPlaceAt text at place
