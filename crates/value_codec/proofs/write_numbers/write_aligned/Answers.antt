use Rattle.std.proofs.Common.{◌≡◌, ℕ, ◌+◌, subst, arith}
use Rattle.ctf_types.specs.Bits.{number_at}
use Rattle.value_codec.specs.Writing.{Writes}
use Rattle.value_codec.proofs.WritingLaws.{Writes-number_after_zeros}
use Rattle.value_codec.proofs.write_numbers.write_aligned.Goals as goal

pub returns-clause-writes : goal.returns-clause-writes
returns-clause-writes c =
    let start = c.write_padding-start.result in
    let end : start + c.args.size ≡ start + c.from.result = omega arith in
    let Numbered : ℕ → Type 0 = λ s. Writes c.args.order
    (λ b pad. pad c.args.at s × (number_at c.args.order b s c.args.size ≡ c.args.number)) c.args.at (start + c.from.result) c.args.bytes.now c.put_bits.new.bytes in
    subst Numbered c.write_padding-start.ensures.ends
    (Writes-number_after_zeros _ c.args.size c.args.number c.write_padding-start.ensures.writes c.put_bits.ensures.number c.put_bits.ensures.others end)
