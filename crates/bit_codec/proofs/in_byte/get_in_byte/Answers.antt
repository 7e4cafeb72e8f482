-- Bits that lie in one byte are a part of it.
use Rattle.std.proofs.Common.{◌/◌, ◌%◌, ◌^◌, sym, ap, ◌∙◌, arith}
use Rattle.std.proofs.lemmas.Nat.{one_shl}
use Rattle.bit_codec.proofs.PartLaws.{number_at-in_byte}
use Rattle.bit_codec.proofs.in_byte.get_in_byte.Goals as goal

pub returns-clause-number : goal.returns-clause-number
returns-clause-number c =
    let n = c.args.n in
    ap (λ d. c.from-byte.result / 2 ^ c.lowest.result % d) (one_shl n 64 (omega arith))
    ∙ ap (λ b. b / 2 ^ c.lowest.result % 2 ^ n) c.from-byte.ensures
    ∙ rw c.lowest.ensures.place (sym (number_at-in_byte c.args.order c.args.bytes.now c.args.at n c.requires.in_byte))
