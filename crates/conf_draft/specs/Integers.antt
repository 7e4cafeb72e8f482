-- What the properties of an integer field type say (barectf 3.1, "Integer field type object"): its size; its alignment, by
-- default 8 where the size is a multiple of 8, else 1; and the base in which it is shown, by default decimal.
use Rattle.std.specs.Prelude.{ℕ, ◌%◌, ◌==◌, nat_lt, nat_le, Bool, Option, Some, None, codes, option_and_then, unwrap_or, if◌then◌else◌}
use Rattle.std.proofs.lemmas.Bool.{ltb-true, leb-true, eqb-true}
use Rattle.serde_json.specs.Data.{Members}
use Rattle.ctf_types.specs.declared.limits.TheConstants.{LARGEST_ALIGN}
use Rattle.ctf_types.specs.declared.Base.{Base}
use Rattle.ctf_types.specs.declared.Base.TheVariants.{Dec}
use Rattle.ctf_types.specs.declared.IntType.{IntType}
use Rattle.conf_values.specs.Words.{word_in, base_words}
use Rattle.conf_values.specs.Parts.{proved}
use Rattle.conf_draft.specs.Alignments.{alignment}
use Rattle.conf_draft.specs.Lookups.{natural, word}

-- an integer has 1 to 64 bits, and its alignment is a power of two up to the largest
unfoldable pub made : ℕ → ℕ → Bool → Base → Option IntType
made size align signed base =
    proved (nat_lt 0 size) (λ some. proved (nat_le size 64) (λ at_most. proved (nat_lt 0 align) (λ positive. proved (LARGEST_ALIGN % align == 0) (λ power.
    Some (record {
      size = size;
      align = align;
      signed = signed;
      base = base;
      clock = None;
      not_empty = ltb-true 0 size some;
      at_most_64 = leb-true size 64 at_most;
      positive = ltb-true 0 align positive;
      power_of_two = eqb-true (LARGEST_ALIGN % align) 0 power;
    })))))

abbrev pub default_align : ℕ → ℕ
default_align size = if size % 8 == 0 then 8 else 1

unfoldable pub base_of : Members → Base
base_of ms = unwrap_or (option_and_then (word_in base_words) (word (codes "preferred-display-base") ms)) Dec

unfoldable pub size_of : Members → ℕ
size_of ms = unwrap_or (natural (codes "size") ms) 0

unfoldable pub align_of : Members → ℕ
align_of ms = unwrap_or (alignment (codes "alignment") ms) (default_align (size_of ms))

unfoldable pub integer : Bool → Members → Option IntType
integer signed ms = made (size_of ms) (align_of ms) signed (base_of ms)
