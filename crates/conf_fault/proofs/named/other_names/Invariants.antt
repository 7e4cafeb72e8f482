use Rattle.std.proofs.Common.{◌≡◌, ◌++◌}
use Rattle.serde_json.specs.View.{members_view}
use Rattle.conf_fault.specs.Names.{other_names}
use Rattle.conf_fault.proofs.WantedLemmas.{texts}
use Rattle.conf_fault.proofs.named.other_names.Given as goal

-- the names so far, and those that are left
abbrev pub invariant-loop-name : goal.invariant-loop-name
invariant-loop-name l = texts l.names.items ++ other_names l.own (members_view l.name-iterator) ≡ other_names l.own (members_view l.members.entries)
