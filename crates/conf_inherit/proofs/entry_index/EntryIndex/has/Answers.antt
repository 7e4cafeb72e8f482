use Rattle.std.proofs.Common.{is_some, ap, ◌∙◌}
use Rattle.serde_json.specs.View.{items_view}
use Rattle.conf_inherit.proofs.EntryLemmas.{has_place}
use Rattle.conf_inherit.proofs.entry_index.EntryIndex.has.Goals as goal

pub returns : goal.returns
returns c = c.contains_key.ensures ∙ ap is_some (c.args.self.now.placed c.args.name.now) ∙ has_place 0 c.args.name.now (items_view c.args.self.now.entries.now.items)
