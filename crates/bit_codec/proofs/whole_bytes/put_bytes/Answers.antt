use Rattle.std.proofs.Common.{◌+◌, ◌-◌, ◌/◌, ◌≤◌, length, arith}
use Rattle.bit_codec.proofs.CopyLaws.{number_at-copied, SameOutside-copied}
use Rattle.bit_codec.proofs.whole_bytes.put_bytes.Goals as goal

pub returns-clause-each : goal.returns-clause-each
returns-clause-each c = λ o i within.
    let index = c.args.at / 8 in
    let start : index ≤ length c.args.bytes.now = omega arith in
    rw c.copy_from_slice.ensures.after
    (number_at-copied o c.args.bytes.now c.args.text.now c.args.at (index + length c.args.text.now - index) i c.requires.aligned start within (c.type_inv.text i).fits)

pub returns-clause-others : goal.returns-clause-others
returns-clause-others c = λ o.
    let index = c.args.at / 8 in
    let start : index ≤ length c.args.bytes.now = omega arith in
    rw c.copy_from_slice.ensures.after
    (SameOutside-copied o c.args.bytes.now c.args.text.now c.args.at (index + length c.args.text.now - index) c.requires.aligned start (omega arith))
