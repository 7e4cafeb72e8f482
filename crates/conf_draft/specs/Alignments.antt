-- The alignment that a property is, in bits: a power of two up to the largest. A number that is none of these is an alignment that no
-- field can have, and counts as left out. It is told as a limit later, so no configuration that is accepted has one.
use Rattle.std.specs.Prelude.{◌&&◌, ◌%◌, ◌==◌, ℕ, nat_lt, Bool, List, Option, Some, None, option_and_then, if◌then◌else◌}
use Rattle.serde_json.specs.Data.{Members}
use Rattle.ctf_types.specs.declared.limits.TheConstants.{LARGEST_ALIGN}
use Rattle.conf_draft.specs.Lookups.{natural}

abbrev pub is_alignment : ℕ → Bool
is_alignment n = nat_lt 0 n && (LARGEST_ALIGN % n == 0)

abbrev pub alignment_of : ℕ → Option ℕ
alignment_of n = if is_alignment n then Some n else None

unfoldable pub alignment : List ℕ → Members → Option ℕ
alignment name ms = option_and_then alignment_of (natural name ms)
