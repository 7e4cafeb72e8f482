use Rattle.std.proofs.Common.{◌≡◌}
use Rattle.serde_json.specs.View.{view, members_view}
use Rattle.conf_judge.specs.Names.{take_all, with_names}
use Rattle.conf_judge.proofs.names.take_names.Given as goal

abbrev pub invariant-loop-name : goal.invariant-loop-name
invariant-loop-name l = take_all (members_view l.name-iterator) (members_view l.taken.entries) ≡ with_names (view l.entry) (members_view l.initial.taken.entries)
