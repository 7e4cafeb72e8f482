use Rattle.std.proofs.Common.{◌++◌, ℤ, ap, w64}
use Rattle.std.proofs.lemmas.Int.{to_z-of_z}
use Rattle.std.specs.Fmt.{signed_decimal}
use Rattle.ctf_types.specs.FieldTypes.{chain_of}
use Rattle.trace_text.specs.PrintedNumbers.{label_text}
use Rattle.trace_text.specs.PrintedValues.{value_text}
use Rattle.trace_text.proofs.Saying.{more, said}
use Rattle.trace_text.proofs.printing_values.say_labelled.Goals as goal

pub returns : goal.returns
unfolding value_text
returns g c =
    said _ (ap (λ (z : ℤ). signed_decimal z ++ label_text (chain_of c.args.leaf.now).leaf z) (to_z-of_z w64 c.args.n c.ranges.n))
    (more c.say_signed.ensures c.say_signed_label.ensures)
