-- What is printed, written out: the words that name a limit, and names on one line.
use Rattle.std.proofs.Common.{◌≡◌, ◌<◌, [], ◌∷◌, List, ℕ, true, ap, arith, refl}
use Rattle.std.specs.Prelude.{codes, nat_lt}
use Rattle.std.specs.Fmt.{digits}
use Rattle.std.specs.List.{flat_map, list_all}
use Rattle.std.specs.Str.{IsAscii}
use Rattle.std.proofs.Math.Utf8.{encode}
use Rattle.std.proofs.lemmas.Bool.{and_parts}
use Rattle.std.proofs.lemmas.Bool.Decides.{nat_tests}
use Rattle.std.proofs.lemmas.Str.{chars-IsAscii}
use Rattle.std.proofs.lemmas.Str.Ascii.{IsAscii-cons, IsAscii-nil}
use Rattle.conf_tree.specs.declared.fault_kind.FaultKind.TheVariants.{BadName, TooDeep}
use Rattle.conf_tree.specs.FaultWords.{kind_words}
use Rattle.conf_tree.specs.Flaw.{key, text_of_place}
use Rattle.conf_tree.specs.OneLine.{shown_character}

words_of_bad_name : kind_words BadName ≡ codes "bad name: expected a letter or `_`, then letters, digits or `_`, 255 bytes at most"
unfolding digits
words_of_bad_name = refl

words_of_too_deep : kind_words TooDeep ≡ codes "nested too deep: expected at most 32 levels of objects and lists"
unfolding digits
words_of_too_deep = refl

below : (b : ℕ) → nat_lt b 128 ≡ true → b < 128
below b e = grind (arith, nat_tests)

all_below : (bytes : List ℕ) → list_all (λ b. nat_lt b 128) bytes ≡ true → IsAscii bytes
all_below [] e = IsAscii-nil
all_below (b ∷ bytes) e =
    let both = and_parts (nat_lt b 128) (list_all (λ b. nat_lt b 128) bytes) e in IsAscii-cons b bytes (below b both.0) (all_below bytes both.1)

-- of ASCII each byte is a character
by_bytes : (name : List ℕ) → list_all (λ b. nat_lt b 128) name ≡ true → text_of_place (key name) ≡ flat_map shown_character name
by_bytes name ascii = ap (flat_map shown_character) (chars-IsAscii name (all_below name ascii))

plain_name : text_of_place (key (codes "$field-type")) ≡ codes "$field-type"
unfolding shown_character encode
plain_name = by_bytes (codes "$field-type") refl

name_of_two_lines : text_of_place (key (codes "a\nb")) ≡ codes "a\\nb"
unfolding shown_character encode
name_of_two_lines = by_bytes (codes "a\nb") refl

-- a byte that begins a sequence which steers a terminal
name_with_escape : text_of_place (key (27 ∷ codes "[31m")) ≡ codes "\\x1b[31m"
unfolding shown_character encode
name_with_escape = by_bytes (27 ∷ codes "[31m") refl
