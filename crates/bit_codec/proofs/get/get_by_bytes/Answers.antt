-- A part more: what the bits so far are, with the part that follows, is what the bits of both are.
use Rattle.std.proofs.Common.{◌+◌, ap, sym, ◌∙◌, arith}
use Rattle.ctf_types.specs.Bits.{bit_of, number_at}
use Rattle.bit_codec.specs.Place.{joined}
use Rattle.bit_codec.proofs.PartLaws.{number_at-split}
use Rattle.bit_codec.proofs.get.get_by_bytes.Goals as goal

pub loop-done-preserved : goal.loop-done-preserved
loop-done-preserved c =
    let o = c.args.order in
    let at = c.args.at in
    let done = c.loop-done.done in
    let size = c.size_in_byte-size.result in
    let bits = bit_of o c.args.bytes.now in
    let front = ap (λ v. joined o done size v c.get_in_byte-part.result) c.loop-done.invariant.number in
    let position = ap (λ p. number_at o bits (at + p) size) c.from.ensures in
    let back = ap (joined o done size (number_at o bits at done)) (c.get_in_byte-part.ensures.number ∙ position) in
    record {
      some = omega arith;
      within = omega arith;
      number = c.join-value.ensures.joined ∙ front ∙ back ∙ sym (number_at-split o bits at done size);
      below = c.join-value.ensures.below;
    }
