use Rattle.std.proofs.Common.{◌<◌, ◌∙◌, get_or, sym, arith}
use Rattle.bit_codec.proofs.BitLaws.{number_at-byte}
use Rattle.bit_codec.proofs.word.get_8.Goals as goal

pub returns-clause-number : goal.returns-clause-number
returns-clause-number c =
    let fits : get_or c.args.bytes.now c.args.index 0 < 256 = omega (arith, c.type_inv.bytes c.args.index) in
    c.from.ensures ∙ sym (number_at-byte c.args.order c.args.bytes.now c.args.index fits)
