-- Lines and columns of a text, both from 1: a newline begins a line, and each other byte moves one column on.
use Rattle.std.specs.Prelude.{ℕ, ◌+◌, ◌==◌, if◌then◌else◌, List, count_by, fold}

-- the line behind some bytes
abbrev pub line_after : List ℕ → ℕ
line_after bytes = 1 + count_by (λ b. b == 10) bytes

abbrev pub next_column : ℕ → ℕ → ℕ
next_column column b = if b == 10 then 1 else column + 1

-- the column behind some bytes
abbrev pub column_after : List ℕ → ℕ
column_after bytes = fold next_column 1 bytes
