use Rattle.std.proofs.Common.{◌≡◌, ◌+◌, ◌*◌, ◌<◌, ◌∙◌, length, set, arith}
use Rattle.std.proofs.lemmas.List.{get_or-set_same}
use Rattle.bit_codec.proofs.BitLaws.{number_at-byte, SameOutside-set}
use Rattle.bit_codec.proofs.word.put_8.Goals as goal

pub returns-clause-number : goal.returns-clause-number
returns-clause-number c =
    let within : c.args.index < length c.args.bytes.now = omega arith in
    let written = get_or-set_same c.args.bytes.now c.args.index c.args.value 0 within in
    number_at-byte c.args.order (set c.args.bytes.now c.args.index c.args.value) c.args.index (rw written c.requires.fits) ∙ written

pub returns-clause-others : goal.returns-clause-others
returns-clause-others c =
    let end : 8 * (c.args.index + 1) ≡ 8 * c.args.index + 8 = omega arith in
    rw end at (SameOutside-set c.args.order c.args.bytes.now c.args.index c.args.value)
