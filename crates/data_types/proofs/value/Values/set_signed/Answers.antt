use Rattle.std.proofs.Common.{w64, ◌∙◌, ap}
use Rattle.std.proofs.Math.ListN.{set}
use Rattle.std.proofs.lemmas.List.{map-set}
use Rattle.std.proofs.lemmas.Int.{to_z-of_z}
use Rattle.data_types.specs.declared.value.Value.TheVariants as value
use Rattle.data_types.specs.Datum as datum
use Rattle.data_types.specs.Values.{datum_of}
use Rattle.data_types.proofs.value.Values.set_signed.Goals as goal

pub returns : goal.returns
returns c =
    rw (to_z-of_z w64 c.args.number c.ranges.number)
    (map-set datum_of c.self.inside.items.items c.args.index (value.Signed c.args.number)
    ∙ ap (λ s. set s c.args.index (datum.Signed c.args.number)) c.self.view_is)
