use Rattle.std.proofs.Common.{◌*◌, ap, sym, ◌∙◌}
use Rattle.ctf_types.specs.Bits.{bit_of, number_at}
use Rattle.bit_codec.specs.Place.{joined}
use Rattle.bit_codec.proofs.WordLaws.{number_at-halves}
use Rattle.bit_codec.proofs.word.get_16.Goals as goal

pub returns-clause-number : goal.returns-clause-number
returns-clause-number c =
    let o = c.args.order in
    let bits = bit_of o c.args.bytes.now in
    c.join.ensures.joined
    ∙ ap (λ front. joined o 8 8 front c.get_8.result) c.get_8-front.ensures.number
    ∙ ap (joined o 8 8 (number_at o bits (8 * c.args.index) 8)) c.get_8.ensures.number
    ∙ sym (number_at-halves o bits c.args.index 1)
