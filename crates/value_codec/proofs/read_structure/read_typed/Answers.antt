use Rattle.std.proofs.Common.{sym}
use Rattle.std.proofs.lemmas.Result.{err_from_is_err_and}
use Rattle.ctf_types.specs.Bits.{bit_of}
use Rattle.ctf_types.specs.Values.{data_of}
use Rattle.value_codec.specs.Reading.{datum_read}
use Rattle.value_codec.proofs.ReadingSteps.{gives_fault}
use Rattle.value_codec.proofs.ReadingMembers.{member_plain, member_measured, member_unmeasured}
use Rattle.value_codec.proofs.read_structure.read_typed.Goals as goal

pub returns-in-Plain-clause-value : goal.returns-in-Plain-clause-value
returns-in-Plain-clause-value c = rw (c.in-Plain.is, member_plain) c.read_field.ensures.value

pub returns-in_err-count-in-Dyn-clause-value : goal.returns-in_err-count-in-Dyn-clause-value
returns-in_err-count-in-Dyn-clause-value c =
    let p = err_from_is_err_and c.from_residual.result c.from_residual.ensures.1 in
    rw (p.1, p.2, c.in-Dyn.is)
    (gives_fault datum_read _ _ (member_unmeasured c.args.order (bit_of c.args.order c.args.bytes.now) c.args.limit (data_of c.args.before.now) c.in-Dyn.element _ c.args.at _ (sym c.in_err-count-in-Dyn.ensures.number)))

pub returns-in_ok-count-in-Dyn-clause-value : goal.returns-in_ok-count-in-Dyn-clause-value
returns-in_ok-count-in-Dyn-clause-value c =
    let measured = member_measured c.args.order (bit_of c.args.order c.args.bytes.now) c.args.limit (data_of c.args.before.now) c.in-Dyn.element _ c.args.at c.in_ok-count-in-Dyn.count c.in_ok-count-in-Dyn.start (sym c.in_ok-count-in-Dyn.ensures.number) in
    rw (c.in-Dyn.is, measured) c.read_array.ensures.value
