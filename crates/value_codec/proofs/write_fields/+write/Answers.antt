-- Each kind of field, then an array, then its elements one after the other.
use Rattle.std.proofs.Common.{◌≡◌, ℕ, suc, ◌+◌, ◌≤◌, length, drop, refl, sym, ap, ◌∙◌, subst, arith}
use Rattle.ctf_types.proofs.Ends.{le-end_all, le-field_end}
use Rattle.ctf_types.specs.declared.FieldType.{FieldType}
use Rattle.ctf_types.specs.declared.FieldType.TheVariants.{Static}
use Rattle.ctf_types.specs.Alignment.{up}
use Rattle.ctf_types.specs.Bits.{AreZero}
use Rattle.ctf_types.specs.Chain.{Chain}
use Rattle.ctf_types.specs.FieldTypes.{chain_of}
use Rattle.ctf_types.specs.Fitting.{FieldFits}
use Rattle.ctf_types.specs.Layout.{field_end, end_all, leaf_end, FieldLies, LeafLies}
use Rattle.ctf_types.specs.Values.{datum_of, data_of}
use Rattle.value_codec.specs.Writing.{Writes, element_align, elements_end, ElementsLie}
use Rattle.value_codec.proofs.FieldLaws.{data_of-more, next_of_all, next_end, end_all-none, EachLies-more, EachLies-none, array_elements_fit, array_lies, text_fits, TextLies-from_bytes}
use Rattle.value_codec.proofs.WritingLaws.{Writes-none, Writes-then, Writes-weaker}
use Rattle.value_codec.proofs.write_fields.+write.Goals as goal

-- ---- fields

pub write_field-write_int-requires-clause-fits : goal.write_field-write_int-requires-clause-fits
unfolding FieldFits
write_field-write_int-requires-clause-fits t c = rw c.in-Int.is at c.requires.fits

pub write_field-write_int-requires-clause-room : goal.write_field-write_int-requires-clause-room
unfolding field_end leaf_end
write_field-write_int-requires-clause-room t c = rw c.in-Int.is at c.requires.room

pub write_field-returns-in-Int-clause-ends : goal.write_field-returns-in-Int-clause-ends
unfolding field_end leaf_end
write_field-returns-in-Int-clause-ends t c = rw c.in-Int.is c.write_int.ensures.ends

pub write_field-returns-in-Int-clause-writes : goal.write_field-returns-in-Int-clause-writes
unfolding FieldLies LeafLies
write_field-returns-in-Int-clause-writes t c = rw c.in-Int.is c.write_int.ensures.writes

pub write_field-write_int-requires-in-Enum-clause-fits :
    goal.write_field-write_int-requires-in-Enum-clause-fits
unfolding FieldFits
write_field-write_int-requires-in-Enum-clause-fits t c = rw c.in-Enum.is at c.requires.fits

pub write_field-write_int-requires-in-Enum-clause-room :
    goal.write_field-write_int-requires-in-Enum-clause-room
unfolding field_end leaf_end
write_field-write_int-requires-in-Enum-clause-room t c = rw c.in-Enum.is at c.requires.room

pub write_field-returns-in-Enum-clause-ends : goal.write_field-returns-in-Enum-clause-ends
unfolding field_end leaf_end
write_field-returns-in-Enum-clause-ends t c = rw c.in-Enum.is c.write_int-in-Enum.ensures.ends

pub write_field-returns-in-Enum-clause-writes : goal.write_field-returns-in-Enum-clause-writes
unfolding FieldLies LeafLies
write_field-returns-in-Enum-clause-writes t c = rw c.in-Enum.is c.write_int-in-Enum.ensures.writes

pub write_field-write_text-requires-clause-no_zero :
    goal.write_field-write_text-requires-clause-no_zero
unfolding FieldFits
write_field-write_text-requires-clause-no_zero t c =
    rw c.text_of.ensures (text_fits (datum_of c.args.value.now) (rw c.in-Str.is at c.requires.fits))

pub write_field-write_text-requires-clause-room : goal.write_field-write_text-requires-clause-room
unfolding field_end leaf_end
write_field-write_text-requires-clause-room t c = rw c.text_of.ensures (rw c.in-Str.is at c.requires.room)

pub write_field-returns-in-Str-clause-ends : goal.write_field-returns-in-Str-clause-ends
unfolding field_end leaf_end
write_field-returns-in-Str-clause-ends t c = rw c.in-Str.is (rw c.text_of.ensures at c.write_text.ensures.ends)

pub write_field-returns-in-Str-clause-writes : goal.write_field-returns-in-Str-clause-writes
unfolding FieldFits FieldLies LeafLies
write_field-returns-in-Str-clause-writes t c =
    let fits = rw c.in-Str.is at c.requires.fits in
    rw c.in-Str.is (Writes-weaker _ (rw c.text_of.ensures at c.write_text.ensures.writes)
    (λ b lies. TextLies-from_bytes c.args.order b _ c.args.at (datum_of c.args.value.now) fits lies))

pub write_field-write_array-requires : goal.write_field-write_array-requires
unfolding field_end
write_field-write_array-requires t c =
    let element = chain_of c.field_type.result.now in
    let is : c.args.field.now ≡ Static element c.in-Static.field-1 = c.in-Static.is ∙ ap (λ (x : Chain). Static x c.in-Static.field-1) (sym c.field_type.ensures) in
    let deeper : length (chain_of c.args.field.now).lengths ≡ suc (length element.lengths) = ap (λ (f : FieldType). length (chain_of f).lengths) is in
    let fits = rw is at c.requires.fits in
    let room = rw is at c.requires.room in
    (omega (arith, deeper), (rw c.elements_of.ensures (array_elements_fit element.leaf c.in-Static.field-1 element.lengths (datum_of c.args.value.now) fits), rw c.elements_of.ensures room))

pub write_field-returns-in-Static-clause-ends : goal.write_field-returns-in-Static-clause-ends
unfolding field_end
write_field-returns-in-Static-clause-ends t c =
    let element = chain_of c.field_type.result.now in
    let is : c.args.field.now ≡ Static element c.in-Static.field-1 = c.in-Static.is ∙ ap (λ (x : Chain). Static x c.in-Static.field-1) (sym c.field_type.ensures) in
    rw is (rw c.elements_of.ensures at c.write_array.ensures.ends)

pub write_field-returns-in-Static-clause-writes : goal.write_field-returns-in-Static-clause-writes
write_field-returns-in-Static-clause-writes t c =
    let element = chain_of c.field_type.result.now in
    let is : c.args.field.now ≡ Static element c.in-Static.field-1 = c.in-Static.is ∙ ap (λ (x : Chain). Static x c.in-Static.field-1) (sym c.field_type.ensures) in
    let fits = rw is at c.requires.fits in
    rw is (Writes-weaker _ (rw c.elements_of.ensures at c.write_array.ensures.writes)
    (λ b lies. array_lies c.args.order b _ element.leaf c.in-Static.field-1 element.lengths c.args.at (datum_of c.args.value.now) fits lies.0 lies.1))

-- ---- arrays

pub write_array-write_padding-start-requires-clause-room :
    goal.write_array-write_padding-start-requires-clause-room
write_array-write_padding-start-requires-clause-room t c =
    let element = c.args.element.now in
    let start : up c.args.at c.align_of_field.result ≡ up c.args.at (element_align element) = ap (up c.args.at) c.align_of_field.ensures.is in
    let onward = le-end_all (field_end (chain_of element).leaf (chain_of element).lengths) (le-field_end (chain_of element).leaf (chain_of element).lengths)
    (up c.args.at (element_align element)) (data_of c.args.values.now) in
    (omega (arith, start, onward, c.requires.room.0), omega (arith, start, onward, c.requires.room.1))

pub write_array-returns-clause-writes : goal.write_array-returns-clause-writes
write_array-returns-clause-writes t c =
    let element = c.args.element.now in
    let start : c.write_padding-start.result ≡ up c.args.at (element_align element) =
    c.write_padding-start.ensures.ends ∙ ap (up c.args.at) c.align_of_field.ensures.is in
    let Aligned : ℕ → Type 0 = λ s. Writes c.args.order
    (λ b pad. pad c.args.at s × ElementsLie c.args.order b pad element s (data_of c.args.values.now)) c.args.at c.write_elements.result c.args.bytes.now c.write_elements.new.bytes in
    subst Aligned start (Writes-then _ c.write_padding-start.ensures.writes c.write_elements.ensures.writes (λ b zeros lies. (zeros, lies)))

-- ---- elements

pub write_elements-loop-value-init : goal.write_elements-loop-value-init
write_elements-loop-value-init t c = record {
  position = refl;
  writes = Writes-none c.args.order _ c.args.at c.args.bytes.now (λ b lies. lies);
}

pub write_elements-write_field-end-requires : goal.write_elements-write_field-end-requires
write_elements-write_field-end-requires t c =
    let element = chain_of c.args.element.now in
    let i = c.loop-value.value-index in
    let values = c.args.values.now in
    let value = c.value-item.result in
    let more = data_of-more values i value c.loop-value-test.true c.value-item.is in
    let next = next_end (field_end element.leaf element.lengths) (le-field_end element.leaf element.lengths)
    c.loop-value.end (data_of (drop i values)) (data_of (drop (i + 1) values)) (datum_of value) more in
    let low : field_end element.leaf element.lengths c.loop-value.end (datum_of value) ≤ elements_end c.args.element.now c.args.at (data_of values) =
    omega (arith, next.1, c.loop-value.invariant.position) in (
      omega arith,
      (
        next_of_all (FieldFits element.leaf element.lengths) values i value c.requires.fits c.loop-value-test.true c.value-item.is,
        (omega (arith, low, c.requires.room.0, c.loop-value.auto.bytes), omega (arith, low, c.requires.room.1)),
      ),
    )

pub write_elements-loop-value-preserved : goal.write_elements-loop-value-preserved
write_elements-loop-value-preserved t c =
    let element = chain_of c.args.element.now in
    let end = field_end element.leaf element.lengths in
    let o = c.args.order in
    let i = c.loop-value.value-index in
    let values = c.args.values.now in
    let value = c.value-item.result in
    let rest = data_of (drop (i + 1) values) in
    let more = data_of-more values i value c.loop-value-test.true c.value-item.is in
    let next = next_end end (le-field_end element.leaf element.lengths) c.loop-value.end (data_of (drop i values)) rest (datum_of value) more in
    let ends : c.write_field-end.result ≡ end c.loop-value.end (datum_of value) = c.write_field-end.ensures.ends in
    record {
      position = ap (λ (p : ℕ). end_all end p rest) ends ∙ sym next.0 ∙ c.loop-value.invariant.position;
      writes = Writes-then _ c.loop-value.invariant.writes c.write_field-end.ensures.writes
          (λ b lies first others. lies (EachLies-more o b _ end _ c.loop-value.end _ rest (datum_of value) more first
          (subst (λ (p : ℕ). ElementsLie o b (AreZero b) c.args.element.now p rest) ends others)));
    }

pub write_elements-returns-clause-ends : goal.write_elements-returns-clause-ends
write_elements-returns-clause-ends t c =
    let element = chain_of c.args.element.now in
    sym (end_all-none (field_end element.leaf element.lengths) c.loop-value.end c.args.values.now c.loop-value.value-index c.loop-value-test.false) ∙ c.loop-value.invariant.position

pub write_elements-returns-clause-writes : goal.write_elements-returns-clause-writes
write_elements-returns-clause-writes t c =
    Writes-weaker _ c.loop-value.invariant.writes
    (λ b lies. lies (EachLies-none c.args.order b _ _ _ c.loop-value.end c.args.values.now c.loop-value.value-index c.loop-value-test.false))
