use Rattle.std.proofs.Common.{◌≡◌, true, false, arith, drop, length, nat_eq, suc, add-one, sym, ap, ◌∙◌}
use Rattle.std.proofs.lemmas.List.{length-map}
use Rattle.std.proofs.lemmas.Bool.Decides.{nat_tests}
use Rattle.data_types.specs.FieldTypes.{chain_of}
use Rattle.ctf_types.specs.Faults.{field_fault, first_fault, elements_fault}
use Rattle.data_types.specs.Values.{data_of, datum_of}
use Rattle.ctf_types.proofs.SizesLemmas.{datum_first}
use Rattle.ctf_types.proofs.FittingLemmas.{first_fault_turn, first_fault_end, err_is, or_here, or_later, static_fault, length_passes, length_fails}
use Rattle.ctf_types.proofs.fitting.+fits.Goals as goal

pub elements_fit-returns-in_err-field_fits : goal.elements_fit-returns-in_err-field_fits
elements_fit-returns-in_err-field_fits t c =
    let fault = field_fault (chain_of c.args.element.now).leaf (chain_of c.args.element.now).lengths in
    let vs = c.as_slice-value-items.result.now in
    let j = c.loop-value.value-index in
    let v = c.value-item.result in
    err_is c.from_residual.result c.in_err-field_fits.field-0.0 c.from_residual.ensures
    ∙ or_here (fault (datum_of v)) (first_fault fault (drop (suc j) (data_of vs))) c.in_err-field_fits.field-0.0 c.in_err-field_fits.ensures
    ∙ sym (first_fault_turn fault (data_of vs) j (datum_of v) (datum_first vs j v (c.loop-value-test.true, c.value-item.is)))
    ∙ c.loop-value.invariant ∙ ap (first_fault fault) c.as_slice-value-items.ensures

pub elements_fit-loop-value-preserved : goal.elements_fit-loop-value-preserved
elements_fit-loop-value-preserved t c =
    let fault = field_fault (chain_of c.args.element.now).leaf (chain_of c.args.element.now).lengths in
    let vs = c.as_slice-value-items.result.now in
    let j = c.loop-value.value-index in
    let v = c.value-item.result in
    rw add-one
    (sym (or_later (fault (datum_of v)) (first_fault fault (drop (suc j) (data_of vs))) c.in_ok-field_fits.ensures)
    ∙ sym (first_fault_turn fault (data_of vs) j (datum_of v) (datum_first vs j v (c.loop-value-test.true, c.value-item.is)))
    ∙ c.loop-value.invariant)

pub elements_fit-returns : goal.elements_fit-returns
elements_fit-returns t c =
    let fault = field_fault (chain_of c.args.element.now).leaf (chain_of c.args.element.now).lengths in
    let vs = c.as_slice-value-items.result.now in
    sym (first_fault_end fault (data_of vs) c.loop-value.value-index (rw (length-map vs datum_of) c.loop-value-test.false))
    ∙ c.loop-value.invariant ∙ ap (first_fault fault) c.as_slice-value-items.ensures

pub field_fits-returns-in_default : goal.field_fits-returns-in_default
field_fits-returns-in_default t c =
    let e = c.in-Static.element in
    ap (elements_fault (λ m. nat_eq m c.in-Static.length) (field_fault e.leaf e.lengths)) c.in_default.ensures
    ∙ sym (static_fault c.args.field.now e c.in-Static.length (datum_of c.args.value.now) c.in-Static.is)

pub field_fits-returns-then-len-length : goal.field_fits-returns-then-len-length
field_fits-returns-then-len-length t c =
    let e = c.in-Static.element in
    let n = c.in-Static.length in
    let test : nat_eq (length c.in-Some.values.now) n ≡ false = grind (arith, nat_tests) in
    sym (length_fails (λ m. nat_eq m n) (field_fault e.leaf e.lengths) c.in-Some.values.now test)
    ∙ ap (elements_fault (λ m. nat_eq m n) (field_fault e.leaf e.lengths)) c.in-Some.ensures
    ∙ sym (static_fault c.args.field.now e n (datum_of c.args.value.now) c.in-Static.is)

pub field_fits-returns-in-Int : goal.field_fits-returns-in-Int
unfolding field_fault
field_fits-returns-in-Int t c = rw c.in-Int.is c.int_fits.ensures

pub field_fits-returns-in-Enum : goal.field_fits-returns-in-Enum
unfolding field_fault
field_fits-returns-in-Enum t c = rw c.in-Enum.is c.int_fits-in-Enum.ensures

pub field_fits-returns-in-Str : goal.field_fits-returns-in-Str
unfolding field_fault
field_fits-returns-in-Str t c = rw c.in-Str.is c.text_fits.ensures

pub field_fits-returns-else-len-length : goal.field_fits-returns-else-len-length
field_fits-returns-else-len-length t c =
    let e = c.in-Static.element in
    let n = c.in-Static.length in
    let test : nat_eq (length c.in-Some.values.now) n ≡ true = grind (arith, nat_tests) in
    c.elements_fit.ensures
    ∙ ap (λ x. first_fault (field_fault x.leaf x.lengths) c.in-Some.values.now) c.field_type.ensures
    ∙ sym (length_passes (λ m. nat_eq m n) (field_fault e.leaf e.lengths) c.in-Some.values.now test)
    ∙ ap (elements_fault (λ m. nat_eq m n) (field_fault e.leaf e.lengths)) c.in-Some.ensures
    ∙ sym (static_fault c.args.field.now e n (datum_of c.args.value.now) c.in-Static.is)
