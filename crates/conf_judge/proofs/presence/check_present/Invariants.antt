use Rattle.std.proofs.Common.{◌≡◌, map, drop}
use Rattle.serde_json.specs.View.{members_view}
use Rattle.conf_table.specs.Table.{told_of}
use Rattle.conf_judge.specs.Flaws.{rows_there}
use Rattle.conf_judge.proofs.presence.check_present.Given as goal

-- the rows that are left have the answer of all
abbrev pub invariant-loop-name : goal.invariant-loop-name
invariant-loop-name l = rows_there (members_view l.members.entries) (map told_of l.rows) ≡ rows_there (members_view l.members.entries) (map told_of (drop l.name-index l.rows))
