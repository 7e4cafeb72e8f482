-- The number of a list's elements, and the elements behind it.
use Rattle.std.proofs.Common.{◌≡◌, ℕ, ◌^◌, ◌<◌, Some, All, length, refl, sym, ap, ◌∙◌, arith}
use Rattle.std.proofs.lemmas.List.{length-map}
use Rattle.ctf_types.specs.declared.FieldType.{FieldType}
use Rattle.ctf_types.specs.declared.Length.TheVariants.{Auto}
use Rattle.ctf_types.specs.declared.MemberType.{MemberType}
use Rattle.ctf_types.specs.declared.MemberType.TheVariants.{Dyn}
use Rattle.ctf_types.specs.Alignment.{up}
use Rattle.ctf_types.specs.Datum.{Datum, list_in}
use Rattle.ctf_types.specs.FieldTypes.{chain_of}
use Rattle.ctf_types.specs.Fitting.{FieldFits, MemberFits}
use Rattle.ctf_types.specs.Layout.{elements_in}
use Rattle.ctf_types.specs.Values.{datum_of, data_of}
use Rattle.value_codec.specs.Writing.{element_align, elements_end}
use Rattle.value_codec.proofs.DraftingLaws.{Drafts-then, list_elements, list_fits}
use Rattle.value_codec.proofs.DynamicLaws.{dynamic_end, dynamic-lies}
use Rattle.value_codec.proofs.draft_structs.draft_dynamic.Goals as goal

pub returns-in-Some-draft_aligned : goal.returns-in-Some-draft_aligned
unfolding MemberFits
returns-in-Some-draft_aligned c =
    let t : FieldType = c.args.element.now in
    let m : MemberType = Dyn t Auto in
    let v : Datum = datum_of c.args.value.now in
    let vs = c.as_slice-values.result.now in
    let listed : Some (data_of vs) ≡ list_in v = ap Some c.as_slice-values.ensures ∙ c.in-Some.ensures in
    let elements : data_of vs ≡ elements_in v = list_elements v (data_of vs) listed in
    let count = c.in-Some-draft_aligned.ensures in
    let few : length (data_of vs) < 2 ^ 32 = omega (arith, length-map vs datum_of, count.fits) in
    let fits : All (FieldFits (chain_of t).leaf (chain_of t).lengths) (data_of vs) → MemberFits m v =
    λ each. list_fits (λ n. n < 2 ^ 32) (FieldFits (chain_of t).leaf (chain_of t).lengths) v (data_of vs) listed few each in
    Drafts-then _ _ _ _ _ _ _ c.draft_array.result count.writes (omega (arith, c.draft_aligned.auto.bytes)) c.draft_array.ensures
    fits
    (λ each. ap (λ (p : ℕ). elements_end t (up p (element_align t)) (data_of vs)) count.ends ∙ sym (dynamic_end m t Auto v vs refl tt elements c.args.at))
    (λ each b number lies before. dynamic-lies m t Auto v vs refl tt elements c.args.order b _ c.args.at c.in-Some-draft_aligned.start (fits each) count.ends number lies before)
