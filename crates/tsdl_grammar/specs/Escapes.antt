-- Strings between their quotes: a backslash and a letter stand for one byte, each other byte for itself
-- (CTF 1.8.3, appendix C.1, after C's string literals, without numeric escapes).
use Rattle.std.specs.Prelude.{ℕ, Bool, true, false, ◌==◌, if◌then◌else◌, List, [], ◌∷◌, Option, Some, None, unwrap_or, flat_map}

-- the byte that a letter after a backslash stands for
abbrev pub escaped_byte : ℕ → Option ℕ
escaped_byte b =
    if b == 92 then Some 92 else (if b == 34 then Some 34 else (if b == 39 then Some 39 else (if b == 63 then Some 63
    else (if b == 97 then Some 7 else (if b == 98 then Some 8 else (if b == 102 then Some 12 else (if b == 110 then Some 10
    else (if b == 114 then Some 13 else (if b == 116 then Some 9 else (if b == 118 then Some 11 else None))))))))))

-- b in front of the rest, unless b is the backslash of an escape
abbrev pub unless_backslash : ℕ → List ℕ → List ℕ
unless_backslash b rest = if b == 92 then rest else (b ∷ rest)

-- what a string's bytes stand for; the flag says that a backslash stands in front of them
abbrev pub unescaped_from : Bool → List ℕ → List ℕ
unescaped_from after_backslash [] = []
unescaped_from true (b ∷ bytes) = unwrap_or (escaped_byte b) b ∷ unescaped_from false bytes
unescaped_from false (b ∷ bytes) = unless_backslash b (unescaped_from (b == 92) bytes)

abbrev pub unescaped : List ℕ → List ℕ
unescaped bytes = unescaped_from false bytes

-- one byte as it is written: a backslash, a quote, a newline and a tab by their escapes
abbrev pub escape_of : ℕ → List ℕ
escape_of b =
    if b == 92 then 92 ∷ 92 ∷ [] else (if b == 34 then 92 ∷ 34 ∷ [] else (if b == 10 then 92 ∷ 110 ∷ [] else (if b == 9 then 92 ∷ 116 ∷ [] else b ∷ [])))

-- a text as it is written between quotes
abbrev pub escaped : List ℕ → List ℕ
escaped text = flat_map escape_of text
