use Rattle.std.proofs.Common.{◌≡◌, ℕ, [], List, length, sym, arith}
use Rattle.std.specs.Prelude.{Err}
use Rattle.std.proofs.lemmas.List.{with_items_is}
use Rattle.std.proofs.lemmas.Result.{err_from_is_err_and}
use Rattle.ctf_types.specs.Bits.{bit_of}
use Rattle.ctf_types.specs.Datum.{Datum}
use Rattle.value_codec.specs.Reading.{members_at, struct_at}
use Rattle.value_codec.proofs.ReadingAnswers.{given_same}
use Rattle.value_codec.proofs.ReadingSteps.{gives_fault}
use Rattle.value_codec.proofs.ReadingMembers.{struct_unstarted, struct_started}
use Rattle.value_codec.proofs.read_structure.read_struct_into.Goals as goal

pub returns-in_err-start-clause-values : goal.returns-in_err-start-clause-values
returns-in_err-start-clause-values c =
    let p = err_from_is_err_and c.from_residual.result c.from_residual.ensures.1 in
    rw (p.1, p.2) (gives_fault {A = List Datum × ℕ} (λ x. x) _ _ (struct_unstarted c.args.order (bit_of c.args.order c.args.bytes.now) c.args.limit c.args.s.now c.args.at _ (sym c.in_err-start.ensures.start)))

pub returns-in_err-end-clause-values : goal.returns-in_err-end-clause-values
returns-in_err-end-clause-values c =
    let p = err_from_is_err_and c.from_residual-in_err-end.result c.from_residual-in_err-end.ensures.1 in
    let b : ℕ → ℕ = bit_of c.args.order c.args.bytes.now in
    let started = struct_started c.args.order b c.args.limit c.args.s.now c.args.at c.in_ok-start.start (sym c.in_ok-start.ensures.start) in
    rw (p.1, p.2)
    (given_same {A = List Datum × ℕ} (λ x. x) (Err _) (members_at c.args.order b c.args.limit [] c.args.s.now.members c.in_ok-start.start) (struct_at c.args.order b c.args.limit c.args.s.now c.args.at) started c.in_err-end.ensures.values)

pub returns-clause-values : goal.returns-clause-values
returns-clause-values c =
    let b : ℕ → ℕ = bit_of c.args.order c.args.bytes.now in
    let started = struct_started c.args.order b c.args.limit c.args.s.now c.args.at c.in_ok-start.start (sym c.in_ok-start.ensures.start) in
    let kept : length c.reread_members.new.places ≡ c.in_ok-items.items.len = omega (arith, c.reread_members.auto.places, c.deref_mut.ensures.len) in
    rw (c.from_vec.ensures, with_items_is c.in_ok-items.items c.reread_members.new.places kept, ← started) c.in_ok-end.ensures.values
