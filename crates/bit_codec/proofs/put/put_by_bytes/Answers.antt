-- A part more: the number's first bits are written, and only they.
use Rattle.std.proofs.Common.{◌≡◌, ◌+◌, ap, sym, ◌∙◌, arith}
use Rattle.ctf_types.specs.Bits.{bit_of}
use Rattle.bit_codec.specs.Place.{part_of}
use Rattle.bit_codec.proofs.NumberLaws.{number_at-none}
use Rattle.bit_codec.proofs.PartLaws.{number_at-more_part, part_of-none, part_of-whole}
use Rattle.bit_codec.proofs.SpanLaws.{SameOutside-none, SameOutside-then}
use Rattle.bit_codec.proofs.put.put_by_bytes.Goals as goal

pub loop-done-init : goal.loop-done-init
loop-done-init c =
    let bits = bit_of c.args.order c.args.bytes.now in
    record {
      within = omega arith;
      number = number_at-none c.args.order bits c.args.at ∙ sym (part_of-none c.args.order c.args.value c.args.n);
      others = SameOutside-none bits c.args.at (c.args.at + 0);
    }

pub loop-done-preserved : goal.loop-done-preserved
loop-done-preserved c =
    let o = c.args.order in
    let at = c.args.at in
    let n = c.args.n in
    let done = c.loop-done.done in
    let size = c.size_in_byte-size.result in
    let first = bit_of o c.args.bytes.now in
    let old = bit_of o c.loop-done.bytes in
    let new = bit_of o c.put_in_byte.new.bytes in
    let position = c.from.ensures in
    let same = rw position at c.put_in_byte.ensures.others in
    let number = rw position at c.put_in_byte.ensures.number in
    let from : done ≡ 0 + done = omega arith in
    let part = number ∙ c.take_part-part.ensures.part ∙ ap (λ f. part_of o c.args.value n f size) from in
    record {
      within = omega arith;
      number = number_at-more_part o old new at c.args.value n 0 done size (omega arith) c.loop-done.invariant.number same part;
      others = SameOutside-then first old new at (at + (done + size)) at (at + done) (at + done) (at + done + size) c.loop-done.invariant.others same (omega arith) (omega arith) (omega arith) (omega arith);
    }

pub returns-clause-number : goal.returns-clause-number
returns-clause-number c =
    let end : c.loop-done.done ≡ c.args.n = omega arith in
    rw end at c.loop-done.invariant.number ∙ part_of-whole c.args.order c.args.value c.args.n c.requires.fits
