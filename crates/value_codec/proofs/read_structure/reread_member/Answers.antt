use Rattle.std.proofs.Common.{◌≡◌, take, ap, ◌∙◌}
use Rattle.ctf_types.specs.declared.FieldType.TheVariants.{Str}
use Rattle.ctf_types.specs.declared.MemberType.TheVariants.{Plain}
use Rattle.ctf_types.specs.declared.Value.TheVariants.{Unsigned}
use Rattle.ctf_types.specs.Bits.{bit_of}
use Rattle.ctf_types.specs.Values.{data_of}
use Rattle.value_codec.specs.Reading.{member_at}
use Rattle.value_codec.proofs.ReadingMembers.{member_plain, read_there}
use Rattle.value_codec.proofs.read_structure.reread_member.Goals as goal

pub returns-in-Plain-Str-clause-value : goal.returns-in-Plain-Str-clause-value
returns-in-Plain-Str-clause-value c =
    let text : c.args.member.now ≡ Plain Str = c.in-Plain-Str.is ∙ ap Plain (rw c.in-Plain-Str.is at c.in-Plain-Str.field-0-is) in
    read_there c.args.places.now c.args.i (Unsigned 0) c.reread_text.new.held c.reread_text.result
    (member_at c.args.order (bit_of c.args.order c.args.bytes.now) c.args.limit (data_of (take c.args.i c.args.places.now)) c.args.member.now c.args.at) c.requires.place
    (rw (text, member_plain) c.reread_text.ensures.value)
