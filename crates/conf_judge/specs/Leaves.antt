-- Values that hold no others, and the flaw of one that is not what it is to be: it is of another kind, no whole number, or
-- outside of what is allowed (barectf 3.1, "Configuration object" and the pages below it).
use Rattle.std.specs.Prelude.{◌&&◌, ◌||◌, ◌==◌, ◌%◌, ℕ, ℤ, pos, negsuc, List, Bool, false, not, is_some, nat_lt, Result, Ok, Err, codes, ⊤, if◌then◌else◌}
use Rattle.std.specs.List.{list_any}
use Rattle.std.specs.Option.{option_map_or}
use Rattle.std.specs.Str.{bytes_eq}
use Rattle.serde_json.specs.Data.{Data, string, Members}
use Rattle.serde_json.specs.Find.{get_member}
use Rattle.conf_tree.specs.declared.fault_kind.FaultKind.TheVariants.{NoSuchAlias, OutOfRange}
use Rattle.conf_tree.specs.Flaw.{Flaw, here}
use Rattle.conf_tree.specs.Reading.{◌>>=◌, text_of, flag_of, whole_of}
use Rattle.conf_table.specs.declared.row.Content.{Content}
use Rattle.conf_table.specs.declared.row.Content.TheVariants.{Whole, PowerOfTwo, Flag, OneFlag, Text, ClockName, Identifier, IdentifierOrAuto, Word, Class, WholeOrText, Level, At, Anything}
use Rattle.conf_table.specs.Classes.{class_words, class_in}
use Rattle.conf_table.specs.Words.{words_of}
use Rattle.conf_values.specs.Scalar.{is_printable, uuid_in}
use Rattle.conf_judge.specs.Known.{Known}

-- the value is out of range where this does not hold
abbrev pub only_if : Bool → Result ⊤ Flaw
only_if holds = if holds then Ok tt else Err (here OutOfRange)

unfoldable pub whole_from : ℤ → ℤ → Data → Result ⊤ Flaw
whole_from low high d = whole_of low high d >>= (λ z. Ok tt)

-- the powers of two that a number of 64 bits can be are the divisors of the largest of them
abbrev pub is_power_of_two : ℤ → Bool
is_power_of_two (pos n) = nat_lt 0 n && (9223372036854775808 % n == 0)
is_power_of_two (negsuc n) = false

unfoldable pub power_of : Data → Result ⊤ Flaw
power_of d = whole_of (pos 1) (pos 18446744073709551615) d >>= (λ z. only_if (is_power_of_two z))

unfoldable pub whole_or_text : ℤ → ℤ → Data → Result ⊤ Flaw
whole_or_text low high (string s) = only_if (is_printable s)
whole_or_text low high d = whole_from low high d

-- a number, or the name of an alias of one
unfoldable pub level : Members → ℤ → Data → Result ⊤ Flaw
level levels high (string s) = option_map_or (whole_from (pos 0) high) (get_member s levels) (Err (here NoSuchAlias))
level levels high d = whole_from (pos 0) high d

-- a flag of its kind is true once at most
abbrev pub one_flag : Bool → Data → Result ⊤ Flaw
one_flag has_default d = flag_of d >>= (λ b. only_if (not (b && has_default)))

-- a text that does not fit is out of range
abbrev pub text_that : (List ℕ → Bool) → Data → Result ⊤ Flaw
text_that fits d = text_of d >>= (λ s. only_if (fits s))

abbrev pub is_uuid_or_auto : List ℕ → Bool
is_uuid_or_auto s = bytes_eq s (codes "auto") || is_some (uuid_in s)

-- a text is one that people read; what stands at a place is no leaf
unfoldable pub leaf_of : Known → Content → Data → Result ⊤ Flaw
leaf_of k (Whole low high) d = whole_from low high d
leaf_of k (PowerOfTwo high) d = power_of d
leaf_of k Flag d = flag_of d >>= (λ b. Ok tt)
leaf_of k OneFlag d = one_flag k.has_default d
leaf_of k (Text most) d = text_that is_printable d
leaf_of k ClockName d = text_of d >>= (λ s. Ok tt)
leaf_of k Identifier d = text_that (λ s. is_some (uuid_in s)) d
leaf_of k IdentifierOrAuto d = text_that is_uuid_or_auto d
leaf_of k (Word words) d = text_that (λ s. list_any (bytes_eq s) (words_of words)) d
leaf_of k Class d = text_that (λ s. is_some (class_in s class_words)) d
leaf_of k (WholeOrText low high most) d = whole_or_text low high d
leaf_of k (Level high) d = level k.levels high d
leaf_of k (At place) d = Ok tt
leaf_of k Anything d = Ok tt
