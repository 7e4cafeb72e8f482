-- A plain field, or a dynamic array with its length before it.
use Rattle.std.proofs.Common.{ℕ, ◌+◌, ◌∙◌, sym, ap, arith}
use Rattle.ctf_types.proofs.Ends.{le-up, le-end_all, le-field_end, leaf_is_aligned}
use Rattle.ctf_types.specs.Alignment.{up}
use Rattle.ctf_types.specs.FieldTypes.{chain_of}
use Rattle.ctf_types.specs.Fitting.{MemberFits}
use Rattle.ctf_types.specs.Layout.{leaf_align, field_end, member_end, MemberLies}
use Rattle.ctf_types.specs.Values.{datum_of, data_of}
use Rattle.value_codec.specs.Writing.{element_align, elements_end}
use Rattle.value_codec.proofs.DynamicLaws.{dynamic-few, dynamic-fits, dynamic_end, dynamic-lies}
use Rattle.value_codec.proofs.WritingLaws.{Writes-then, Writes-weaker}
use Rattle.value_codec.proofs.write_structs.write_member.Goals as goal

pub write_field-requires-clause-fits : goal.write_field-requires-clause-fits
unfolding MemberFits
write_field-requires-clause-fits c = rw c.in-Plain.is at c.requires.fits

pub write_field-requires-clause-room : goal.write_field-requires-clause-room
unfolding member_end
write_field-requires-clause-room c = rw c.in-Plain.is at c.requires.room

pub returns-in-Plain-clause-ends : goal.returns-in-Plain-clause-ends
unfolding member_end
returns-in-Plain-clause-ends c = rw c.in-Plain.is c.write_field.ensures.ends

pub returns-in-Plain-clause-writes : goal.returns-in-Plain-clause-writes
unfolding MemberLies
returns-in-Plain-clause-writes c = rw c.in-Plain.is (Writes-weaker _ c.write_field.ensures.writes (λ b lies before. lies))

pub write_aligned-start-requires-clause-fits : goal.write_aligned-start-requires-clause-fits
write_aligned-start-requires-clause-fits c =
    dynamic-few c.args.member.now c.in-Dyn.element _ (datum_of c.args.value.now) c.elements_of-values.result.now c.in-Dyn.is c.requires.automatic c.elements_of-values.ensures
    c.requires.fits

pub write_aligned-start-requires-clause-room : goal.write_aligned-start-requires-clause-room
write_aligned-start-requires-clause-room c =
    let element = chain_of c.in-Dyn.element in
    let start = up c.args.at 8 + 32 in
    let values = data_of c.elements_of-values.result.now in
    let end = dynamic_end c.args.member.now c.in-Dyn.element _ (datum_of c.args.value.now) c.elements_of-values.result.now c.in-Dyn.is c.requires.automatic
    c.elements_of-values.ensures c.args.at in
    let aligned = le-up start (leaf_align element.leaf) (leaf_is_aligned element.leaf).0 in
    let onward = le-end_all (field_end element.leaf element.lengths) (le-field_end element.leaf element.lengths) (up start (leaf_align element.leaf)) values in
    (omega (arith, aligned, onward, end, c.requires.room.0), omega (arith, aligned, onward, end, c.requires.room.1))

pub write_array-requires-clause-fits : goal.write_array-requires-clause-fits
write_array-requires-clause-fits c =
    dynamic-fits c.args.member.now c.in-Dyn.element _ (datum_of c.args.value.now) c.elements_of-values.result.now c.in-Dyn.is c.requires.automatic c.elements_of-values.ensures
    c.requires.fits

pub write_array-requires-clause-room : goal.write_array-requires-clause-room
write_array-requires-clause-room c =
    let end = dynamic_end c.args.member.now c.in-Dyn.element _ (datum_of c.args.value.now) c.elements_of-values.result.now c.in-Dyn.is c.requires.automatic
    c.elements_of-values.ensures c.args.at in
    let ends = ap (λ (p : ℕ). elements_end c.in-Dyn.element (up p (element_align c.in-Dyn.element)) (data_of c.elements_of-values.result.now)) c.write_aligned-start.ensures.ends in
    (omega (arith, ends, end, c.requires.room.0, c.write_aligned-start.auto.bytes), omega (arith, ends, end, c.requires.room.1))

pub returns-in-Dyn-clause-ends : goal.returns-in-Dyn-clause-ends
returns-in-Dyn-clause-ends c =
    let end = dynamic_end c.args.member.now c.in-Dyn.element _ (datum_of c.args.value.now) c.elements_of-values.result.now c.in-Dyn.is c.requires.automatic
    c.elements_of-values.ensures c.args.at in
    let ends = ap (λ (p : ℕ). elements_end c.in-Dyn.element (up p (element_align c.in-Dyn.element)) (data_of c.elements_of-values.result.now)) c.write_aligned-start.ensures.ends in
    c.write_array.ensures.ends ∙ ends ∙ sym end

pub returns-in-Dyn-clause-writes : goal.returns-in-Dyn-clause-writes
returns-in-Dyn-clause-writes c =
    Writes-then _ c.write_aligned-start.ensures.writes c.write_array.ensures.writes
    (λ b count lies before.
    dynamic-lies c.args.member.now c.in-Dyn.element _ (datum_of c.args.value.now) c.elements_of-values.result.now c.in-Dyn.is c.requires.automatic
    c.elements_of-values.ensures c.args.order b _ c.args.at c.write_aligned-start.result c.requires.fits c.write_aligned-start.ensures.ends count lies before)
