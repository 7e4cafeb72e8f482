use Rattle.std.proofs.Common.{ℕ, List, sym, ◌∙◌}
use Rattle.std.specs.Prelude.{Ok, Err}
use Rattle.std.proofs.lemmas.Result.{err_from_is_err_and}
use Rattle.ctf_types.specs.Bits.{bit_of}
use Rattle.ctf_types.specs.Datum.{Datum}
use Rattle.ctf_types.specs.Layout.{struct_end}
use Rattle.value_codec.specs.Reading.{struct_at}
use Rattle.value_codec.proofs.ReadingAnswers.{given_same, stopped}
use Rattle.value_codec.proofs.ReadingLaws.{struct_found, struct_again}
use Rattle.value_codec.specs.Stopping.{StructStops}
use Rattle.value_codec.proofs.StoppingLaws.{struct_stop, struct_stop_again}
use Rattle.value_codec.proofs.read_structure.read_struct.Goals as goal

-- ---- the values that are read

pub returns-clause-found : goal.returns-clause-found
returns-clause-found c =
    let b : ℕ → ℕ = bit_of c.args.order c.args.bytes.now in
    (struct_found c.args.order b c.args.limit c.args.s.now c.args.at (c.read_struct_into.new.values, c.in_ok-end.end) c.requires.ordered c.in_ok-end.ensures.values).0

pub returns-clause-ends : goal.returns-clause-ends
returns-clause-ends c =
    let b : ℕ → ℕ = bit_of c.args.order c.args.bytes.now in
    (struct_found c.args.order b c.args.limit c.args.s.now c.args.at (c.read_struct_into.new.values, c.in_ok-end.end) c.requires.ordered c.in_ok-end.ensures.values).1

pub returns-clause-only : goal.returns-clause-only
returns-clause-only c vs l h =
    let b : ℕ → ℕ = bit_of c.args.order c.args.bytes.now in
    sym (struct_again c.args.order b c.args.limit c.args.s.now c.args.at vs l h) ∙ c.in_ok-end.ensures.values

pub returns-clause-stops_only : goal.returns-clause-stops_only
returns-clause-stops_only c e s =
    let b : ℕ → ℕ = bit_of c.args.order c.args.bytes.now in
    sym (struct_stop_again c.args.order b c.args.limit c.args.s.now c.args.at e s) ∙ c.in_ok-end.ensures.values

-- ---- the fault

pub returns-in_err-end-clause-values : goal.returns-in_err-end-clause-values
returns-in_err-end-clause-values c =
    let p = err_from_is_err_and c.from_residual.result c.from_residual.ensures.1 in
    rw (p.1, p.2) c.in_err-end.ensures.values

pub returns-in_err-end-clause-only : goal.returns-in_err-end-clause-only
returns-in_err-end-clause-only c vs l h =
    let p = err_from_is_err_and c.from_residual.result c.from_residual.ensures.1 in
    let b : ℕ → ℕ = bit_of c.args.order c.args.bytes.now in
    rw (p.1, p.2)
    (given_same {A = List Datum × ℕ} (λ x. x) (Err _) (struct_at c.args.order b c.args.limit c.args.s.now c.args.at) (Ok (vs, struct_end c.args.s.now c.args.at vs))
    (struct_again c.args.order b c.args.limit c.args.s.now c.args.at vs l h) c.in_err-end.ensures.values)

pub returns-in_err-end-clause-stops : goal.returns-in_err-end-clause-stops
returns-in_err-end-clause-stops c =
    let p = err_from_is_err_and c.from_residual.result c.from_residual.ensures.1 in
    let b : ℕ → ℕ = bit_of c.args.order c.args.bytes.now in
    rw (p.1, p.2)
    (stopped {A = List Datum × ℕ} (λ x. x) (Err _) (struct_at c.args.order b c.args.limit c.args.s.now c.args.at) (StructStops c.args.order b c.args.limit c.args.s.now c.args.at)
    (λ e h. struct_stop c.args.order b c.args.limit c.args.s.now c.args.at e c.requires.ordered h) c.in_err-end.ensures.values)

pub returns-in_err-end-clause-stops_only : goal.returns-in_err-end-clause-stops_only
returns-in_err-end-clause-stops_only c e s =
    let p = err_from_is_err_and c.from_residual.result c.from_residual.ensures.1 in
    let b : ℕ → ℕ = bit_of c.args.order c.args.bytes.now in
    rw (p.1, p.2)
    (given_same {A = List Datum × ℕ} (λ x. x) (Err _) (struct_at c.args.order b c.args.limit c.args.s.now c.args.at) (Err e)
    (struct_stop_again c.args.order b c.args.limit c.args.s.now c.args.at e s) c.in_err-end.ensures.values)
