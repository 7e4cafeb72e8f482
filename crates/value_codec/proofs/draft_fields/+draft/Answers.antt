-- Each kind of field, then an array, then its elements one after the other.
use Rattle.std.proofs.Common.{◌≡◌, ℕ, ◌+◌, Some, List, All, length, drop, refl, sym, ap, ◌∙◌, subst, arith}
use Rattle.std.proofs.lemmas.List.{drop_all}
use Rattle.std.proofs.lemmas.List.Elements.{All-nil, All-cons}
use Rattle.ctf_types.proofs.Ends.{le-field_end}
use Rattle.ctf_types.specs.declared.FieldType.TheVariants.{Static}
use Rattle.ctf_types.specs.declared.Value.{Value}
use Rattle.ctf_types.specs.Alignment.{up}
use Rattle.ctf_types.specs.Bits.{AreZero}
use Rattle.ctf_types.specs.Chain.{Chain}
use Rattle.ctf_types.specs.Datum.{Datum, list_in}
use Rattle.ctf_types.specs.FieldTypes.{chain_of}
use Rattle.ctf_types.specs.Fitting.{FieldFits}
use Rattle.ctf_types.specs.Layout.{field_end, end_all, elements_in, leaf_align, leaf_end, FieldLies, LeafLies, EachLies}
use Rattle.ctf_types.specs.Values.{datum_of, data_of}
use Rattle.value_codec.specs.Drafting.{Drafts}
use Rattle.value_codec.specs.Writing.{Writes, element_align, elements_end, ElementsLie}
use Rattle.value_codec.proofs.FieldLaws.{data_of-more, next_end, end_all-none, EachLies-more, EachLies-none, array_lies}
use Rattle.value_codec.proofs.WritingLaws.{Writes-none, Writes-then, Writes-weaker}
use Rattle.value_codec.proofs.DraftingLaws.{Drafts-weaker, Drafts-then, Writes-left, array_fits, list_elements}
use Rattle.value_codec.proofs.draft_fields.+draft.Goals as goal

-- ---- fields

pub draft_field-returns-in-Int : goal.draft_field-returns-in-Int
unfolding FieldFits field_end leaf_end FieldLies LeafLies
draft_field-returns-in-Int t c = rw c.in-Int.is c.draft_int.ensures

pub draft_field-returns-in-Enum : goal.draft_field-returns-in-Enum
unfolding FieldFits field_end leaf_end FieldLies LeafLies
draft_field-returns-in-Enum t c = rw c.in-Enum.is c.draft_int-in-Enum.ensures

pub draft_field-returns-in-Str : goal.draft_field-returns-in-Str
unfolding FieldFits field_end FieldLies LeafLies
draft_field-returns-in-Str t c = rw c.in-Str.is c.draft_string.ensures

pub draft_field-returns-else-len-length : goal.draft_field-returns-else-len-length
unfolding field_end
draft_field-returns-else-len-length t c =
    let element = chain_of c.field_type.result.now in
    let n = c.in-Static.length in
    let v = datum_of c.args.value.now in
    let values = c.in-Some.values.now in
    let is : c.args.field.now ≡ Static element n = c.in-Static.is ∙ ap (λ (x : Chain). Static x n) (sym c.field_type.ensures) in
    let listed : Some values ≡ list_in v = c.in-Some.ensures in
    let long : length values ≡ n = omega (arith, c.if-len-length.false, c.len.ensures) in
    let same : values ≡ elements_in v = list_elements v values listed in
    let drafted = rw c.as_slice.ensures at c.draft_array.ensures in
    rw is (Drafts-weaker _ _ _ _ _ _ _ _ _ _ c.draft_array.result drafted
    (λ each. array_fits element.leaf n element.lengths v values listed long each)
    (λ each. ap (λ (vs : List Datum). end_all (field_end element.leaf element.lengths) (up c.args.at (leaf_align element.leaf)) vs) same)
    (λ each b lies. array_lies c.args.order b _ element.leaf n element.lengths c.args.at v (array_fits element.leaf n element.lengths v values listed long each) lies.0
    (subst (λ (vs : List Datum). EachLies c.args.order b (AreZero b) (field_end element.leaf element.lengths) (FieldLies c.args.order b (AreZero b) element.leaf element.lengths)
    (up c.args.at (leaf_align element.leaf)) vs) same lies.1)))

-- ---- arrays

pub draft_array-returns-in-Some : goal.draft_array-returns-in-Some
draft_array-returns-in-Some t c =
    let o = c.args.order in
    let element = c.args.element.now in
    let values = data_of c.args.values.now in
    let start = c.in-Some.start in
    let old = c.args.bytes.now in
    let between = c.draft_padding.new.bytes in
    let zeros = rw c.align_of_field.ensures.is at c.in-Some.ensures in
    let starts : start ≡ up c.args.at (element_align element) = zeros.ends in
    let padding : Writes o (λ b pad. pad c.args.at start) c.args.at start old between =
    subst (λ (s : ℕ). Writes o (λ b pad. pad c.args.at s) c.args.at start old between) (sym starts) zeros.writes in
    let Aligned : ℕ → Type 0 = λ s. Drafts o (All (FieldFits (chain_of element).leaf (chain_of element).lengths) values) (elements_end element s values)
    (λ b pad. pad c.args.at s × ElementsLie o b pad element s values) c.args.at c.draft_elements.result old c.draft_elements.new.bytes in
    subst Aligned starts (Drafts-then _ _ _ _ _ _ _ c.draft_elements.result padding (omega (arith, c.draft_padding.auto.bytes)) c.draft_elements.ensures
    (λ each. each) (λ each. refl) (λ each b pad lies. (pad, lies)))

-- ---- elements

pub draft_elements-loop-value-init : goal.draft_elements-loop-value-init
draft_elements-loop-value-init t c = record {
  fits = λ each. each;
  position = refl;
  within = c.requires.within.0;
  writes = Writes-none c.args.order _ c.args.at c.args.bytes.now (λ b lies. lies);
}

pub draft_elements-returns-in-None : goal.draft_elements-returns-in-None
draft_elements-returns-in-None t c = Writes-left _ c.loop-value.invariant.writes c.in-None.ensures

pub draft_elements-loop-value-preserved : goal.draft_elements-loop-value-preserved
draft_elements-loop-value-preserved t c =
    let element = chain_of c.args.element.now in
    let end = field_end element.leaf element.lengths in
    let F : Datum → Type 0 = FieldFits element.leaf element.lengths in
    let o = c.args.order in
    let i = c.loop-value.value-index in
    let values = c.args.values.now in
    let value = c.value-item.result in
    let rest = data_of (drop (i + 1) values) in
    let more = data_of-more values i value c.loop-value-test.true c.value-item.is in
    let next = next_end end (le-field_end element.leaf element.lengths) c.loop-value.end (data_of (drop i values)) rest (datum_of value) more in
    let drafted = c.in-Some.ensures in
    let ends : c.in-Some.next ≡ end c.loop-value.end (datum_of value) = drafted.ends in
    record {
      fits = λ others. c.loop-value.invariant.fits (subst (λ (vs : List Datum). All F vs) (sym more) (All-cons F (datum_of value) rest drafted.fits others));
      position = ap (λ (p : ℕ). end_all end p rest) ends ∙ sym next.0 ∙ c.loop-value.invariant.position;
      within = omega (arith, drafted.within, c.draft_field.auto.bytes);
      writes = Writes-then _ c.loop-value.invariant.writes drafted.writes
          (λ b lies first others. lies (EachLies-more o b _ end _ c.loop-value.end _ rest (datum_of value) more first
          (subst (λ (p : ℕ). ElementsLie o b (AreZero b) c.args.element.now p rest) ends others)));
    }

pub draft_elements-returns : goal.draft_elements-returns
draft_elements-returns t c =
    let element = chain_of c.args.element.now in
    let F : Datum → Type 0 = FieldFits element.leaf element.lengths in
    let i = c.loop-value.value-index in
    let values = c.args.values.now in
    record {
      fits = c.loop-value.invariant.fits (subst (λ (vs : List Value). All F (data_of vs)) (sym (drop_all i values c.loop-value-test.false)) (All-nil F));
      ends = sym (end_all-none (field_end element.leaf element.lengths) c.loop-value.end values i c.loop-value-test.false) ∙ c.loop-value.invariant.position;
      within = omega (arith, c.loop-value.invariant.within, c.loop-value.auto.bytes);
      writes = Writes-weaker _ c.loop-value.invariant.writes
          (λ b lies. lies (EachLies-none c.args.order b _ _ _ c.loop-value.end values i c.loop-value-test.false));
    }
