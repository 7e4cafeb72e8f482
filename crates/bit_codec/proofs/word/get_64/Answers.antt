use Rattle.std.proofs.Common.{◌*◌, ap, sym, ◌∙◌}
use Rattle.ctf_types.specs.Bits.{bit_of, number_at}
use Rattle.bit_codec.specs.Place.{joined}
use Rattle.bit_codec.proofs.WordLaws.{number_at-halves}
use Rattle.bit_codec.proofs.word.get_64.Goals as goal

pub returns-clause-number : goal.returns-clause-number
returns-clause-number c =
    let o = c.args.order in
    let bits = bit_of o c.args.bytes.now in
    c.join.ensures.joined
    ∙ ap (λ front. joined o 32 32 front c.get_32.result) c.get_32-front.ensures.number
    ∙ ap (joined o 32 32 (number_at o bits (8 * c.args.index) 32)) c.get_32.ensures.number
    ∙ sym (number_at-halves o bits c.args.index 4)
