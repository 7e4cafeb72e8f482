use Rattle.std.proofs.Common.{sym, arith}
use Rattle.std.proofs.lemmas.Result.{err_from_is_err_and}
use Rattle.ctf_types.specs.Bits.{bit_of}
use Rattle.value_codec.proofs.ReadingSteps.{bits_unstarted, bits_past, bits_there}
use Rattle.value_codec.proofs.read_number.read_bits.Goals as goal

pub returns-in_err-start-clause-number : goal.returns-in_err-start-clause-number
returns-in_err-start-clause-number c =
    let p = err_from_is_err_and c.from_residual.result c.from_residual.ensures.1 in
    rw (p.1, p.2) (sym (bits_unstarted c.args.order (bit_of c.args.order c.args.bytes.now) c.args.limit c.args.align c.args.size c.args.at _ (sym c.in_err-start.ensures.start)))

pub returns-then-from-limit-clause-number : goal.returns-then-from-limit-clause-number
returns-then-from-limit-clause-number c =
    let started = c.in_ok-start.ensures in
    sym (bits_past c.args.order (bit_of c.args.order c.args.bytes.now) c.args.limit c.args.align c.args.size c.args.at c.in_ok-start.start (sym started.start) (omega arith))

pub returns-clause-number : goal.returns-clause-number
returns-clause-number c =
    let started = c.in_ok-start.ensures in
    rw (c.get_bits.ensures.number, c.from-2.ensures)
    (sym (bits_there c.args.order (bit_of c.args.order c.args.bytes.now) c.args.limit c.args.align c.args.size c.args.at c.in_ok-start.start (sym started.start) (omega arith)))
