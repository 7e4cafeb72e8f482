use Rattle.std.proofs.Common.{rules}
use Rattle.serde_json.specs.declared.value.Value.{the_lemmas}
use Rattle.serde_json.proofs.Views.{view-Object}
use Rattle.conf_inherit.proofs.laying.properties_below.Goals as goal

pub returns-in-Some-Object : goal.returns-in-Some-Object
returns-in-Some-Object c = rw (c.in-Some-Object.is, c.in-Some-Object.field-0-is) (search (rules, the_lemmas, view-Object))
