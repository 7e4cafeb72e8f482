use Rattle.std.proofs.Common.{sym}
use Rattle.std.proofs.lemmas.Result.{err_from_is_err_and}
use Rattle.ctf_types.specs.Bits.{bit_of}
use Rattle.value_codec.specs.Reading.{datum_read}
use Rattle.value_codec.proofs.ReadingSteps.{gives_fault, int_unread, int_there}
use Rattle.value_codec.proofs.read_number.read_int.Goals as goal

pub returns-in_err-number-clause-value : goal.returns-in_err-number-clause-value
returns-in_err-number-clause-value c =
    let p = err_from_is_err_and c.from_residual.result c.from_residual.ensures.1 in
    let number = rw (c.align.ensures.is, c.size.ensures.is) at c.in_err-number.ensures.number in
    rw (p.1, p.2) (gives_fault datum_read _ _ (int_unread c.args.order (bit_of c.args.order c.args.bytes.now) c.args.limit c.args.int.now c.args.at _ (sym number)))

pub returns-clause-value : goal.returns-clause-value
returns-clause-value c =
    let number = rw (c.align.ensures.is, c.size.ensures.is) at c.in_ok-number.ensures.number in
    let read = int_there c.args.order (bit_of c.args.order c.args.bytes.now) c.args.limit c.args.int.now c.args.at c.in_ok-number.number c.in_ok-number.end (sym number) in
    rw c.int_value.ensures read
