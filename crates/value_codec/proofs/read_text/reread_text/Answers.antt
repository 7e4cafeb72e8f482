use Rattle.std.proofs.Common.{◌≡◌, ℕ, List}
use Rattle.std.proofs.lemmas.Result.{err_from_is_err_and}
use Rattle.ctf_types.specs.Bits.{bit_of}
use Rattle.ctf_types.specs.Datum.{Datum, Text}
use Rattle.ctf_types.specs.Values.{datum_of}
use Rattle.value_codec.proofs.ReadingFields.{field_text, field_no_text}
use Rattle.value_codec.proofs.read_text.reread_text.Goals as goal

pub returns-in_err-text-clause-value : goal.returns-in_err-text-clause-value
returns-in_err-text-clause-value c =
    let p = err_from_is_err_and c.from_residual.result c.from_residual.ensures.1 in
    rw (p.1, p.2) (field_no_text c.args.order (bit_of c.args.order c.args.bytes.now) c.args.limit {A = List ℕ × ℕ} {C = Datum × ℕ} (λ x. x) (λ x. x) c.args.at _ c.in_err-text.ensures.text)

pub returns-in_ok-from_slice-clause-value : goal.returns-in_ok-from_slice-clause-value
returns-in_ok-from_slice-clause-value c =
    rw c.in_ok-from_slice.ensures
    (field_text c.args.order (bit_of c.args.order c.args.bytes.now) c.args.limit c.args.at c.in_ok-text.text.now c.in_ok-text.end c.in_ok-text.ensures.text)

pub returns-else-not-is_refilled-clause-value : goal.returns-else-not-is_refilled-clause-value
returns-else-not-is_refilled-clause-value c =
    let filled : datum_of c.is_refilled.new.held ≡ Text c.in_ok-text.text.now = rw c.if-not-is_refilled.false at c.is_refilled.ensures in
    rw filled
    (field_text c.args.order (bit_of c.args.order c.args.bytes.now) c.args.limit c.args.at c.in_ok-text.text.now c.in_ok-text.end c.in_ok-text.ensures.text)
