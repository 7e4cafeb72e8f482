use Rattle.std.proofs.Common.{◌≡◌}
use Rattle.serde_json.specs.View.{members_view}
use Rattle.conf_draft.specs.Members.{behind_named}
use Rattle.conf_draft.proofs.members.push_named.Given as goal

abbrev pub invariant-loop-name : goal.invariant-loop-name
invariant-loop-name l = behind_named l.members (members_view l.name-iterator) ≡ behind_named l.initial.members (members_view l.named.entries)
