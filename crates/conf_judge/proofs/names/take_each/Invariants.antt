use Rattle.std.proofs.Common.{◌≡◌, map, drop}
use Rattle.serde_json.specs.View.{members_view}
use Rattle.conf_judge.specs.Names.{take_each}
use Rattle.conf_judge.proofs.names.take_each.Given as goal

-- with the names that are left it has all
abbrev pub invariant-loop-name : goal.invariant-loop-name
invariant-loop-name l = take_each (map (λ n. n.now) (drop l.name-index l.names)) (members_view l.taken.entries) ≡ take_each (map (λ n. n.now) l.names) (members_view l.initial.taken.entries)
