use Rattle.std.proofs.Common.{◌+◌, ◌∷◌, length, ap, sym}
use Rattle.data_types.specs.Alignment.{up}
use Rattle.data_types.specs.FieldTypes.{chain_of}
use Rattle.ctf_types.specs.Layout.{elements_in, field_end, member_end}
use Rattle.data_types.specs.Values.{datum_of}
use Rattle.ctf_types.proofs.SizesLemmas.{past_over, same_end, field_over, auto_is, named_is}
use Rattle.ctf_types.proofs.size.member_size.Goals as goal

pub returns-in_err-count_size-in-Auto : goal.returns-in_err-count_size-in-Auto
returns-in_err-count_size-in-Auto c =
    let t = chain_of c.in-Dyn.element in
    let v = datum_of c.args.value.now in
    same_end c.from_residual.result _ _ (auto_is c.args.member.now c.in-Dyn.element _ c.args.at v c.in-Dyn.is c.in-Auto.is)
    (past_over c.from_residual.result (up c.args.at 8 + 32) _ c.from_residual.ensures c.in_err-count_size-in-Auto.ensures
    (field_over t.leaf (length (elements_in v) ∷ t.lengths) (up c.args.at 8 + 32) v))

pub returns-in-Plain : goal.returns-in-Plain
unfolding member_end
returns-in-Plain c = rw c.in-Plain.is c.field_size.ensures

pub returns-in_ok-count_size-in-Auto : goal.returns-in_ok-count_size-in-Auto
returns-in_ok-count_size-in-Auto c =
    let t = chain_of c.in-Dyn.element in
    let v = datum_of c.args.value.now in
    same_end c.array_size.result _ _
    (auto_is c.args.member.now c.in-Dyn.element _ c.args.at v c.in-Dyn.is c.in-Auto.is)
    (same_end c.array_size.result (field_end t.leaf (length (elements_in v) ∷ t.lengths) c.in_ok-count_size-in-Auto.field-0 v) _
    (ap (λ p. field_end t.leaf (length (elements_in v) ∷ t.lengths) p v) (sym c.in_ok-count_size-in-Auto.ensures.1)) c.array_size.ensures)

pub returns-in-At : goal.returns-in-At
returns-in-At c =
    same_end c.array_size-in-At.result _ _
    (named_is c.args.member.now c.in-Dyn.element _ _ c.args.at (datum_of c.args.value.now) c.in-Dyn.is c.in-At.is)
    c.array_size-in-At.ensures
