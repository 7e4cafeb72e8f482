use Rattle.std.proofs.Common.{◌≤◌, ◌^◌, length, drop, suc, add-one, sym, ap, subst, ◌∙◌, arith}
use Rattle.std.proofs.lemmas.List.{length-map}
use Rattle.data_types.specs.Alignment.{up}
use Rattle.data_types.specs.FieldTypes.{chain_of}
use Rattle.ctf_types.specs.Layout.{elements_in, end_all, field_end, leaf_align, leaf_end}
use Rattle.data_types.specs.Values.{data_of, datum_of}
use Rattle.ctf_types.proofs.SizesLemmas.{past_over, array_is, array_over, all_over, all_turn, all_spent, field_over, datum_first, static_size}
use Rattle.ctf_types.proofs.size.+size.Goals as goal

pub array_size-returns-in_err-end : goal.array_size-returns-in_err-end
array_size-returns-in_err-end t c =
    let leaf = (chain_of c.args.element.now).leaf in
    let over = array_over leaf (length (elements_in (datum_of c.args.value.now))) (chain_of c.args.element.now).lengths c.args.at (datum_of c.args.value.now) in
    past_over c.from_residual.result (up c.args.at c.align_of_field.result) _ c.from_residual.ensures c.in_err-end.ensures (rw c.align_of_field.ensures.is over)

pub array_size-loop-inner-init : goal.array_size-loop-inner-init
array_size-loop-inner-init t c =
    let ends = field_end (chain_of c.args.element.now).leaf (chain_of c.args.element.now).lengths in
    record {
      end_of_rest = ap (λ p. end_all ends p (data_of c.elements-inner-items.result.now)) (c.in_ok-end.ensures.1 ∙ ap (up c.args.at) c.align_of_field.ensures.is);
      within = omega (arith, c.in_ok-end.ensures.0, c.in_ok-end.ensures.1);
    }

pub array_size-returns-in_err-end-2 : goal.array_size-returns-in_err-end-2
array_size-returns-in_err-end-2 t c =
    let leaf = (chain_of c.args.element.now).leaf in
    let ns = (chain_of c.args.element.now).lengths in
    let ends = field_end leaf ns in
    let vs = c.elements-inner-items.result.now in
    let j = c.loop-inner.inner-index in
    let v = c.inner-item.result in
    let whole = array_is leaf (length (elements_in (datum_of c.args.value.now))) ns c.args.at (datum_of c.args.value.now)
    ∙ ap (end_all ends (up c.args.at (leaf_align leaf))) (sym c.elements-inner-items.ensures)
    ∙ sym c.loop-inner.invariant.end_of_rest ∙ all_turn ends c.loop-inner.end (data_of vs) j (datum_of v) (datum_first vs j v (c.loop-inner-test.true, c.inner-item.is)) in
    past_over c.from_residual-in_err-end-2.result (ends c.loop-inner.end (datum_of v)) _ c.from_residual-in_err-end-2.ensures c.in_err-end-2.ensures
    (rw whole (all_over ends (field_over leaf ns) (ends c.loop-inner.end (datum_of v)) (drop (suc j) (data_of vs))))

pub array_size-loop-inner-preserved : goal.array_size-loop-inner-preserved
array_size-loop-inner-preserved t c =
    let ends = field_end (chain_of c.args.element.now).leaf (chain_of c.args.element.now).lengths in
    let vs = c.elements-inner-items.result.now in
    let j = c.loop-inner.inner-index in
    let v = c.inner-item.result in
    record {
      end_of_rest =
          rw add-one
          (ap (λ p. end_all ends p (drop (suc j) (data_of vs))) c.in_ok-end-2.ensures.1
          ∙ sym (all_turn ends c.loop-inner.end (data_of vs) j (datum_of v) (datum_first vs j v (c.loop-inner-test.true, c.inner-item.is)))
          ∙ c.loop-inner.invariant.end_of_rest);
      within = omega (arith, c.in_ok-end-2.ensures.0, c.in_ok-end-2.ensures.1);
    }

pub array_size-returns : goal.array_size-returns
array_size-returns t c =
    let leaf = (chain_of c.args.element.now).leaf in
    let ns = (chain_of c.args.element.now).lengths in
    let ends = field_end leaf ns in
    let vs = c.elements-inner-items.result.now in
    let whole = sym (all_spent ends c.loop-inner.end (data_of vs) c.loop-inner.inner-index (rw (length-map vs datum_of) c.loop-inner-test.false))
    ∙ c.loop-inner.invariant.end_of_rest ∙ ap (end_all ends (up c.args.at (leaf_align leaf))) c.elements-inner-items.ensures
    ∙ sym (array_is leaf (length (elements_in (datum_of c.args.value.now))) ns c.args.at (datum_of c.args.value.now)) in
    (subst (λ e. e ≤ 2 ^ 23) whole c.loop-inner.invariant.within, whole)

pub field_size-returns-in-Int : goal.field_size-returns-in-Int
unfolding field_end leaf_end
field_size-returns-in-Int t c = rw c.in-Int.is c.int_size.ensures

pub field_size-returns-in-Enum : goal.field_size-returns-in-Enum
unfolding field_end leaf_end
field_size-returns-in-Enum t c = rw c.in-Enum.is c.int_size-in-Enum.ensures

pub field_size-returns-in-Str : goal.field_size-returns-in-Str
unfolding field_end
field_size-returns-in-Str t c = rw c.in-Str.is c.text_size.ensures

pub field_size-returns-in-Static : goal.field_size-returns-in-Static
field_size-returns-in-Static t c =
    rw c.in-Static.is
    (static_size c.array_size.result (chain_of c.field_type.result.now) c.in-Static.element _ _ c.args.at (datum_of c.args.value.now) c.field_type.ensures c.array_size.ensures)
