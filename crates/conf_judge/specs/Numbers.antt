-- The ranges of an enumeration, each a number or a pair of numbers with both in the range, and the numbers that its integer can
-- hold (barectf 3.1, "Enumeration field type objects").
use Rattle.std.specs.Prelude.{ℕ, ℤ, pos, negsuc, int_le, nat_eq, nat_lt, ◌&&◌, ◌||◌, Bool, if◌then◌else◌, List, Option, option_and_then, Result, Ok, Err, codes, ⊤}
use Rattle.serde_json.specs.Data.{Data, array, Items, no_items, item, Members}
use Rattle.std.specs.Option.{option_map_or}
use Rattle.serde_json.specs.Find.{get_member}
use Rattle.ctf_types.specs.AllowedConfig.{lowest, highest}
use Rattle.conf_tree.specs.declared.fault_kind.FaultKind.TheVariants.{WrongKind, OutOfRange}
use Rattle.conf_tree.specs.Flaw.{Flaw, index, here}
use Rattle.conf_tree.specs.Reading.{◌>>=◌, at, whole_of}
use Rattle.conf_values.specs.Scalar.{as_natural}
use Rattle.conf_judge.specs.declared.numbers.Span.{Span}

-- every whole number that a configuration can hold
abbrev pub all_numbers : Span
all_numbers = record { low = negsuc 9223372036854775807; high = pos 18446744073709551615 }

-- a property that is a whole number from 0 to 2^64 - 1
unfoldable pub natural_in : List ℕ → Members → Option ℕ
natural_in name ms = option_and_then as_natural (get_member name ms)

-- the numbers of an integer of this size in bits; where it is none, no number is outside
unfoldable pub numbers_of : Bool → ℕ → Span
numbers_of signed size = if nat_eq size 0 || nat_lt 64 size then all_numbers else record { low = lowest signed size; high = highest signed size }

unfoldable pub numbers_in : Bool → Members → Span
numbers_in signed ms = option_map_or (numbers_of signed) (natural_in (codes "size") ms) all_numbers

abbrev pub end_of : Data → Result ℤ Flaw
end_of d = whole_of (negsuc 9223372036854775807) (pos 18446744073709551615) d

unfoldable pub pair_of : Items → Result Span Flaw
pair_of (item a (item b no_items)) = at (index 0) (end_of a) >>= (λ x. at (index 1) (end_of b) >>= (λ y. Ok (record { low = x; high = y })))
pair_of _ = Err (here WrongKind)

abbrev pub single_of : Data → Result Span Flaw
single_of d = end_of d >>= (λ x. Ok (record { low = x; high = x }))

unfoldable pub range_of : Data → Result Span Flaw
range_of (array ds) = pair_of ds
range_of d = single_of d

-- the range is not empty, and inside these numbers
unfoldable pub is_inside : Span → Span → Bool
is_inside numbers range = int_le range.low range.high && int_le numbers.low range.low && int_le range.high numbers.high

unfoldable pub inside_of : Span → Data → Result ⊤ Flaw
inside_of numbers d = range_of d >>= (λ range. if is_inside numbers range then Ok tt else Err (here OutOfRange))
