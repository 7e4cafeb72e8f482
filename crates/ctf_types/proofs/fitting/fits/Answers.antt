use Rattle.std.proofs.Common.{◌≡◌, Ok, Err, true, false, length, drop, nat_eq, suc, add-one, sym, ◌∙◌, arith}
use Rattle.std.proofs.lemmas.Bool.Decides.{nat_tests}
use Rattle.std.proofs.lemmas.List.{length-map}
use Rattle.data_types.specs.declared.arg_fault.ArgFault.TheVariants.{Count}
use Rattle.ctf_types.specs.Faults.{member_fault, members_fault, struct_fault}
use Rattle.data_types.specs.Values.{data_of, datum_of}
use Rattle.ctf_types.proofs.SizesLemmas.{datum_first}
use Rattle.ctf_types.proofs.FittingLemmas.{struct_none, ok_none, err_is, or_here, or_later, members_fault_turn, members_fault_end, count_fails, count_passes}
use Rattle.ctf_types.proofs.fitting.fits.Goals as goal

pub returns-then-values-len : goal.returns-then-values-len
returns-then-values-len c =
    let s = c.args.structure.now in
    let vs = data_of c.args.values.now in
    let test : nat_eq (length vs) (length s.members) ≡ false = rw (length-map c.args.values.now datum_of) (grind (arith, nat_tests)) in
    let first = sym (count_fails s vs test) in
    record { first_fault = first; fits = ok_none {A = Unit {0}} (Err Count) (struct_fault s vs) first (struct_none s vs) }

pub returns-in_err-member_fits : goal.returns-in_err-member_fits
returns-in_err-member_fits c =
    let s = c.args.structure.now in
    let vs = c.args.values.now in
    let j = c.loop-index.index in
    let v = c.index-values-index.result in
    let t = c.member_at.result.now in
    let e = c.in_err-member_fits.field-0.0 in
    let test : nat_eq (length (data_of vs)) (length s.members) ≡ true = rw (length-map vs datum_of) (grind (arith, nat_tests)) in
    let first = err_is c.from_residual.result e c.from_residual.ensures
    ∙ or_here (member_fault t (datum_of v)) (members_fault (drop (suc j) s.members) (drop (suc j) (data_of vs))) e c.in_err-member_fits.ensures
    ∙ sym (members_fault_turn s.members j t (data_of vs) (datum_of v) c.member_at.ensures (datum_first vs j v (c.loop-index-test.true, c.index-values-index.is)))
    ∙ c.loop-index.invariant ∙ sym (count_passes s (data_of vs) test) in
    record { first_fault = first; fits = ok_none c.from_residual.result (struct_fault s (data_of vs)) first (struct_none s (data_of vs)) }

pub loop-index-preserved : goal.loop-index-preserved
loop-index-preserved c =
    let s = c.args.structure.now in
    let vs = c.args.values.now in
    let j = c.loop-index.index in
    let v = c.index-values-index.result in
    let t = c.member_at.result.now in
    rw add-one
    (sym (or_later (member_fault t (datum_of v)) (members_fault (drop (suc j) s.members) (drop (suc j) (data_of vs))) c.in_ok-member_fits.ensures)
    ∙ sym (members_fault_turn s.members j t (data_of vs) (datum_of v) c.member_at.ensures (datum_first vs j v (c.loop-index-test.true, c.index-values-index.is)))
    ∙ c.loop-index.invariant)

pub returns : goal.returns
returns c =
    let s = c.args.structure.now in
    let vs = c.args.values.now in
    let test : nat_eq (length (data_of vs)) (length s.members) ≡ true = rw (length-map vs datum_of) (grind (arith, nat_tests)) in
    let first = sym (members_fault_end s.members c.loop-index.index (data_of vs) (omega arith))
    ∙ c.loop-index.invariant ∙ sym (count_passes s (data_of vs) test) in
    record { first_fault = first; fits = ok_none {A = Unit {0}} (Ok tt) (struct_fault s (data_of vs)) first (struct_none s (data_of vs)) }
