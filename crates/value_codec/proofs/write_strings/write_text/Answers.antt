-- The zero bits before a string, its bytes, and its zero byte.
use Rattle.std.proofs.Common.{ℕ, ◌+◌, ◌*◌, length, subst}
use Rattle.ctf_types.proofs.Ends.{up-mod}
use Rattle.ctf_types.specs.Layout.{BytesLie}
use Rattle.value_codec.specs.Writing.{Writes}
use Rattle.value_codec.proofs.FieldLaws.{BytesLie-from_each}
use Rattle.value_codec.proofs.WritingLaws.{Writes-then, Writes-number, Writes-bytes}
use Rattle.value_codec.proofs.write_strings.write_text.Goals as goal

pub put_bytes-requires-clause-aligned : goal.put_bytes-requires-clause-aligned
put_bytes-requires-clause-aligned c = rw c.write_padding-start.ensures.ends (up-mod c.args.at 8)

pub returns-clause-writes : goal.returns-clause-writes
returns-clause-writes c =
    let o = c.args.order in
    let s = c.args.text.now in
    let start = c.write_padding-start.result in
    let end = start + 8 * length s in
    let bytes = Writes-bytes o start s c.write_padding-start.new.bytes c.put_bytes.new.bytes (c.put_bytes.ensures.each o) (c.put_bytes.ensures.others o) in
    let zero_byte = Writes-number o end 8 0 c.put_bytes.new.bytes c.put_bits.new.bytes c.put_bits.ensures.number c.put_bits.ensures.others in
    let text = Writes-then (λ b pad. BytesLie o b pad start s) bytes zero_byte
    (λ b each last. BytesLie-from_each o b _ start s each (λ k below. (c.requires.no_zero k 0 below).0) last) in
    let Text : ℕ → Type 0 = λ p. Writes o (λ b pad. pad c.args.at p × BytesLie o b pad p s) c.args.at (end + 8) c.args.bytes.now c.put_bits.new.bytes in
    subst Text c.write_padding-start.ensures.ends (Writes-then _ c.write_padding-start.ensures.writes text (λ b zeros lies. (zeros, lies)))
