use Rattle.std.proofs.Common.{◌≡◌, ◌^◌, true, false, length, nat_lt, sym, ap, ◌∙◌, arith}
use Rattle.std.proofs.lemmas.Bool.Decides.{nat_tests}
use Rattle.data_types.specs.FieldTypes.{chain_of}
use Rattle.ctf_types.specs.Faults.{field_fault, elements_fault, member_fault}
use Rattle.data_types.specs.Values.{datum_of}
use Rattle.ctf_types.proofs.FittingLemmas.{dyn_fault, length_passes, length_fails}
use Rattle.ctf_types.proofs.fitting.member_fits.Goals as goal

pub returns-in-Plain : goal.returns-in-Plain
unfolding member_fault
returns-in-Plain c = rw c.in-Plain.is c.field_fits.ensures

pub returns-in_default : goal.returns-in_default
returns-in_default c =
    let t = chain_of c.in-Dyn.element in
    ap (elements_fault (λ k. nat_lt k (2 ^ 32)) (field_fault t.leaf t.lengths)) c.in_default.ensures
    ∙ sym (dyn_fault c.args.member.now c.in-Dyn.element _ (datum_of c.args.value.now) c.in-Dyn.is)

pub returns-then-len : goal.returns-then-len
returns-then-len c =
    let t = chain_of c.in-Dyn.element in
    let vs = c.in-Some.values.now in
    let test : nat_lt (length vs) (2 ^ 32) ≡ false = grind (arith, nat_tests) in
    sym (length_fails (λ k. nat_lt k (2 ^ 32)) (field_fault t.leaf t.lengths) vs test)
    ∙ ap (elements_fault (λ k. nat_lt k (2 ^ 32)) (field_fault t.leaf t.lengths)) c.in-Some.ensures
    ∙ sym (dyn_fault c.args.member.now c.in-Dyn.element _ (datum_of c.args.value.now) c.in-Dyn.is)

pub returns-else-len : goal.returns-else-len
returns-else-len c =
    let t = chain_of c.in-Dyn.element in
    let vs = c.in-Some.values.now in
    let test : nat_lt (length vs) (2 ^ 32) ≡ true = grind (arith, nat_tests) in
    c.elements_fit.ensures ∙ sym (length_passes (λ k. nat_lt k (2 ^ 32)) (field_fault t.leaf t.lengths) vs test)
    ∙ ap (elements_fault (λ k. nat_lt k (2 ^ 32)) (field_fault t.leaf t.lengths)) c.in-Some.ensures
    ∙ sym (dyn_fault c.args.member.now c.in-Dyn.element _ (datum_of c.args.value.now) c.in-Dyn.is)
