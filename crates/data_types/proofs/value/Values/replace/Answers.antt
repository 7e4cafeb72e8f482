use Rattle.std.proofs.Common.{◌<◌, ◌∙◌, Some, slice_get, length, option_map, ap, sym, refl, arith}
use Rattle.std.proofs.Math.ListN.{set}
use Rattle.std.proofs.lemmas.List.{map-set, length-map}
use Rattle.std.proofs.lemmas.Option.{slice_get-map, slice_get_read}
use Rattle.data_types.specs.Values.{datum_of}
use Rattle.data_types.proofs.value.Values.replace.Goals as goal

pub returns-clause-replaced : goal.returns-clause-replaced
returns-clause-replaced c =
    rw c.replace.ensures.after
    (map-set datum_of c.self.inside.items.items c.args.index c.args.value ∙ ap (λ s. set s c.args.index (datum_of c.args.value)) c.self.view_is)

pub returns-clause-answered : goal.returns-clause-answered
returns-clause-answered c =
    let items = c.self.inside.items.items in
    let i = c.args.index in
    let inside : i < length items = omega (arith, c.requires, ap length c.self.view_is, length-map items datum_of) in
    ap (λ s. slice_get s i) (sym c.self.view_is) ∙ slice_get-map datum_of items i
    ∙ ap (option_map datum_of) (slice_get_read items (length items) i c.index_mut.result.now refl inside c.index_mut.ensures.value)
    ∙ ap (λ v. Some (datum_of v)) (sym c.replace.ensures.value)
