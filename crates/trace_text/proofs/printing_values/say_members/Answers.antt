use Rattle.std.proofs.Common.{◌∙◌, ◌<◌, List, ap, sym, arith, length}
use Rattle.std.specs.Prelude.{slice_get}
use Rattle.std.proofs.lemmas.List.{length-map}
use Rattle.ctf_types.specs.Datum.{Datum}
use Rattle.ctf_types.specs.Values.{datum_of}
use Rattle.trace_text.proofs.Listing.{members_more, members_all, datum_at}
use Rattle.trace_text.proofs.Saying.{nothing, more, said}
use Rattle.trace_text.proofs.printing_values.say_members.Goals as goal

pub loop-index-init : goal.loop-index-init
loop-index-init g c = nothing _ _

pub loop-index-preserved : goal.loop-index-preserved
loop-index-preserved g c =
    let vs = c.args.values.now in
    let held = c.as_slice-held.result.now in
    let i = c.loop-index.index in
    let v = c.index-held-index.result in
    let sizes = ap (λ (w : List Datum). length w) c.as_slice-held.ensures in
    let within : i < length held = omega (arith, c.loop-index-test.true, c.min-index-end.ensures, c.len.ensures.len, sizes, length-map held datum_of) in
    said _
    (members_more c.args.members.now vs i c.name_at-name.result.now c.member_at.result.now (datum_of v) c.name_at-name.ensures c.member_at.ensures
    (ap (λ (w : List Datum). slice_get w i) (sym c.as_slice-held.ensures) ∙ datum_at held i v within c.index-held-index.is))
    (more (more c.loop-index.invariant c.say_comma.ensures) c.say_member.ensures)

pub returns : goal.returns
returns g c =
    let sizes = ap (λ (w : List Datum). length w) c.as_slice-held.ensures in
    said _
    (members_all c.args.members.now c.args.values.now c.loop-index.index
    (omega (arith, c.loop-index-test.false, c.min-index-end.ensures, c.len.ensures.len, sizes, length-map c.as_slice-held.result.now datum_of)))
    c.loop-index.invariant
