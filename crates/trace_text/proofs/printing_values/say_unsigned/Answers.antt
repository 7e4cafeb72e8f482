use Rattle.std.proofs.Common.{ap}
use Rattle.ctf_types.specs.FieldTypes.{chain_of}
use Rattle.ctf_types.specs.declared.Base.{Base}
use Rattle.trace_text.specs.PrintedNumbers.{in_base, base_of}
use Rattle.trace_text.specs.PrintedValues.{value_text}
use Rattle.trace_text.proofs.Saying.{more, said}
use Rattle.trace_text.proofs.printing_values.say_unsigned.Goals as goal

pub returns : goal.returns
unfolding value_text
returns g c =
    more
    (said (in_base (base_of (chain_of c.args.leaf.now).leaf) c.args.n) (ap (λ (b : Base). in_base b c.args.n) c.base_of.ensures) c.say_in_base.ensures)
    c.say_unsigned_label.ensures
