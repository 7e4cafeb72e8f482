-- Texts of a printed trace, in ASCII but for the names and labels that have other characters: strings stand in quotes, and a byte that could end
-- one, or that a terminal would not show, stands as an escape. Names and labels stand without quotes.
use Rattle.std.specs.Prelude.{ℕ, Bool, ◌/◌, ◌%◌, false, ◌||◌, ◌==◌, nat_lt, if◌then◌else◌, List, [], ◌∷◌, ◌++◌, codes}
use Rattle.std.specs.List.{flat_map}
use Rattle.std.specs.Fmt.{digit_glyph}
use Rattle.trace_text.specs.declared.printing_texts.TextForm.{TextForm}
use Rattle.trace_text.specs.declared.printing_texts.TextForm.TheVariants.{Quoted, Bare}

-- `\x` and the two hexadecimal digits of a byte
abbrev pub hexadecimal_escape : ℕ → List ℕ
hexadecimal_escape b = codes "\\x" ++ (digit_glyph false (b / 16) ∷ digit_glyph false (b % 16) ∷ [])

-- a byte of a string
unfoldable pub string_byte : ℕ → List ℕ
string_byte b =
    if b == 92 then codes "\\\\" else (if b == 34 then codes "\\\"" else (if b == 10 then codes "\\n" else (if b == 9 then codes "\\t"
    else (if nat_lt b 0x20 || nat_lt 0x7e b then hexadecimal_escape b else b ∷ []))))

-- a byte of a name or of a label: what a terminal would take for a control stands as in a string
unfoldable pub name_byte : ℕ → List ℕ
name_byte b = if nat_lt b 0x20 || b == 0x7f then string_byte b else b ∷ []

-- a byte of a text in quotes, or of one without
abbrev pub text_byte : TextForm → ℕ → List ℕ
text_byte Quoted = string_byte
text_byte Bare = name_byte

-- whether a byte stands as an escape
abbrev pub is_escaped : TextForm → ℕ → Bool
is_escaped Quoted b = nat_lt b 0x20 || nat_lt 0x7e b || b == 92 || b == 34
is_escaped Bare b = nat_lt b 0x20 || b == 0x7f

abbrev pub string_text : List ℕ → List ℕ
string_text bytes = codes "\"" ++ flat_map string_byte bytes ++ codes "\""

abbrev pub name_text : List ℕ → List ℕ
name_text name = flat_map name_byte name

-- texts one after the other, `, ` between them
abbrev pub behind_comma : List ℕ → List ℕ
behind_comma text = codes ", " ++ text

abbrev pub listed : List (List ℕ) → List ℕ
listed [] = []
listed (text ∷ texts) = text ++ flat_map behind_comma texts

-- what stands in front of the text at an index of such a list
abbrev pub comma_before : ℕ → List ℕ
comma_before n = if n == 0 then [] else codes ", "
