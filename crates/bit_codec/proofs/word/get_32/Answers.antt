use Rattle.std.proofs.Common.{◌*◌, ap, sym, ◌∙◌}
use Rattle.ctf_types.specs.Bits.{bit_of, number_at}
use Rattle.bit_codec.specs.Place.{joined}
use Rattle.bit_codec.proofs.WordLaws.{number_at-halves}
use Rattle.bit_codec.proofs.word.get_32.Goals as goal

pub returns-clause-number : goal.returns-clause-number
returns-clause-number c =
    let o = c.args.order in
    let bits = bit_of o c.args.bytes.now in
    c.join.ensures.joined
    ∙ ap (λ front. joined o 16 16 front c.get_16.result) c.get_16-front.ensures.number
    ∙ ap (joined o 16 16 (number_at o bits (8 * c.args.index) 16)) c.get_16.ensures.number
    ∙ sym (number_at-halves o bits c.args.index 2)
