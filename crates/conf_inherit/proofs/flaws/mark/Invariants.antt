use Rattle.std.proofs.Common.{◌≡◌}
use Rattle.serde_json.specs.View.{view, members_view}
use Rattle.conf_inherit.specs.{Flaws.{mark, mark_names}, SeenNames.seen_names}
use Rattle.conf_inherit.proofs.flaws.mark.Given as goal

abbrev pub invariant-loop-name : goal.invariant-loop-name
invariant-loop-name l = mark_names (members_view l.name-iterator) (seen_names l.seen) ≡ mark (view l.entry) (seen_names l.initial.seen)
