use Rattle.std.proofs.Common.{◌≡◌, ℕ, suc, ◌+◌, ◌-◌, List, sym, arith}
use Rattle.std.proofs.lemmas.Result.{err_from_is_err_and}
use Rattle.ctf_types.specs.Bits.{bit_of}
use Rattle.ctf_types.specs.Datum.{Datum}
use Rattle.ctf_types.specs.FieldTypes.{chain_of}
use Rattle.ctf_types.specs.Values.{datum_of, data_of}
use Rattle.std.specs.Prelude.{Result}
use Rattle.value_codec.specs.declared.read_fault.ReadFault.{ReadFault}
use Rattle.value_codec.specs.Reading.{field_at, many_at, datum_read}
use Rattle.value_codec.proofs.ReadingSteps.{gives_fault}
use Rattle.value_codec.proofs.ReadingFields.{field_number, field_labelled, field_text, field_no_text, field_unstarted, field_many, field_not_many}
use Rattle.value_codec.proofs.ReadingRest.{many_onward, many_done, many_fault, data-push}
use Rattle.value_codec.proofs.read_field.+read.Goals as goal

pub read_array-returns-in_err-start-clause-value :
    goal.read_array-returns-in_err-start-clause-value
read_array-returns-in_err-start-clause-value t c =
    let p = err_from_is_err_and c.from_residual.result c.from_residual.ensures.1 in
    let e = chain_of c.args.element.now in
    let unstarted = rw c.align_of_field.ensures.is at c.in_err-start.ensures.start in
    rw (p.1, p.2) (gives_fault datum_read _ _ (field_unstarted c.args.order (bit_of c.args.order c.args.bytes.now) c.args.limit e.leaf c.args.count e.lengths c.args.at _ (sym unstarted)))

pub read_array-returns-in_err-values-clause-value :
    goal.read_array-returns-in_err-values-clause-value
read_array-returns-in_err-values-clause-value t c =
    let p = err_from_is_err_and c.from_residual-in_err-values.result c.from_residual-in_err-values.ensures.1 in
    let e = chain_of c.args.element.now in
    let started = rw c.align_of_field.ensures.is at c.in_ok-start.ensures.start in
    rw (p.1, p.2)
    (field_not_many c.args.order (bit_of c.args.order c.args.bytes.now) c.args.limit {A = List Datum × ℕ} (λ x. x) datum_read e.leaf c.args.count e.lengths c.args.at c.in_ok-start.start _ (sym started) c.in_err-values.ensures.values)

pub read_array-returns-clause-value : goal.read_array-returns-clause-value
read_array-returns-clause-value t c =
    let e = chain_of c.args.element.now in
    let started = rw c.align_of_field.ensures.is at c.in_ok-start.ensures.start in
    field_many c.args.order (bit_of c.args.order c.args.bytes.now) c.args.limit e.leaf c.args.count e.lengths c.args.at c.in_ok-start.start c.in_ok-values.values c.in_ok-values.end (sym started) c.in_ok-values.ensures.values

pub read_elements-returns-in_err-value-clause-values :
    goal.read_elements-returns-in_err-value-clause-values
read_elements-returns-in_err-value-clause-values t c =
    let p = err_from_is_err_and c.from_residual-in_err-value.result c.from_residual-in_err-value.ensures.1 in
    let e = chain_of c.args.element.now in
    let read : ℕ → Result (Datum × ℕ) ReadFault = field_at c.args.order (bit_of c.args.order c.args.bytes.now) c.args.limit e.leaf e.lengths in
    let left : c.args.count - c.loop-index._index ≡ suc (c.args.count - (c.loop-index._index + 1)) = omega arith in
    rw (p.1, p.2, c.loop-index.invariant.read_so_far, left)
    (many_fault {B = List Datum × ℕ} datum_read (λ x. x) read (data_of c.loop-index.values.items) (c.args.count - (c.loop-index._index + 1)) c.loop-index.place _ c.in_err-value.ensures.value)

pub read_elements-loop-index-preserved : goal.read_elements-loop-index-preserved
read_elements-loop-index-preserved t c =
    let e = chain_of c.args.element.now in
    let read : ℕ → Result (Datum × ℕ) ReadFault = field_at c.args.order (bit_of c.args.order c.args.bytes.now) c.args.limit e.leaf e.lengths in
    let left : c.args.count - c.loop-index._index ≡ suc (c.args.count - (c.loop-index._index + 1)) = omega arith in
    let all = many_at read c.args.count c.args.at in
    record {
      read_so_far =
          rw (c.in_ok-push.ensures.items, data-push)
          (many_onward read all (data_of c.loop-index.values.items) (c.args.count - c.loop-index._index) (c.args.count - (c.loop-index._index + 1)) c.loop-index.place (datum_of c.in_ok-value.value) c.in_ok-value.end left
          c.loop-index.invariant.read_so_far c.in_ok-value.ensures.value);
      within = c.in_ok-value.ensures.within;
    }

pub read_elements-returns-clause-values : goal.read_elements-returns-clause-values
read_elements-returns-clause-values t c =
    let e = chain_of c.args.element.now in
    let read : ℕ → Result (Datum × ℕ) ReadFault = field_at c.args.order (bit_of c.args.order c.args.bytes.now) c.args.limit e.leaf e.lengths in
    let left : c.args.count - c.loop-index._index ≡ 0 = omega arith in
    let all = many_at read c.args.count c.args.at in
    rw c.from_vec.ensures (many_done read all (data_of c.loop-index.values.items) (c.args.count - c.loop-index._index) c.loop-index.place left c.loop-index.invariant.read_so_far)

pub read_field-returns-in_err-text-in-Str-clause-value :
    goal.read_field-returns-in_err-text-in-Str-clause-value
read_field-returns-in_err-text-in-Str-clause-value t c =
    let p = err_from_is_err_and c.from_residual.result c.from_residual.ensures.1 in
    rw (p.1, p.2, c.in-Str.is) (field_no_text c.args.order (bit_of c.args.order c.args.bytes.now) c.args.limit {A = List ℕ × ℕ} (λ x. x) datum_read c.args.at _ c.in_err-text-in-Str.ensures.text)

pub read_field-returns-in-Int-clause-value : goal.read_field-returns-in-Int-clause-value
read_field-returns-in-Int-clause-value t c =
    rw (c.in-Int.is, field_number) c.read_int.ensures.value

pub read_field-returns-in-Enum-clause-value : goal.read_field-returns-in-Enum-clause-value
read_field-returns-in-Enum-clause-value t c =
    rw (c.in-Enum.is, field_labelled) c.read_int-in-Enum.ensures.value

pub read_field-returns-in_ok-text-in-Str-clause-value :
    goal.read_field-returns-in_ok-text-in-Str-clause-value
read_field-returns-in_ok-text-in-Str-clause-value t c =
    rw c.in-Str.is (field_text c.args.order (bit_of c.args.order c.args.bytes.now) c.args.limit c.args.at c.in_ok-text-in-Str.text c.in_ok-text-in-Str.end c.in_ok-text-in-Str.ensures.text)
