use Rattle.std.proofs.Common.{◌∙◌, ap}
use Rattle.std.proofs.Math.ListN.{set}
use Rattle.std.proofs.lemmas.List.{map-set}
use Rattle.data_types.specs.declared.value.Value.TheVariants as value
use Rattle.data_types.specs.Datum as datum
use Rattle.data_types.specs.Values.{datum_of}
use Rattle.data_types.proofs.value.Values.set_unsigned.Goals as goal

pub returns : goal.returns
returns c =
    map-set datum_of c.self.inside.items.items c.args.index (value.Unsigned c.args.number)
    ∙ ap (λ s. set s c.args.index (datum.Unsigned c.args.number)) c.self.view_is
