use Rattle.std.proofs.Common.{sym, ap, ◌∙◌, length}
use Rattle.serde_json.specs.View.{view}
use Rattle.serde_json.proofs.Views.{view-Array, view-Object, items_len-items_view, members_len-members_view}
use Rattle.conf_judge.specs.Limits.{count_of}
use Rattle.conf_judge.proofs.limits.count_of.Goals as goal

pub returns-in-Array : goal.returns-in-Array
returns-in-Array c = ap length c.as_slice.ensures.value ∙ sym (ap count_of (ap view c.in-Array.is ∙ view-Array c.in-Array.items) ∙ items_len-items_view c.in-Array.items.items)

pub returns-in-Object : goal.returns-in-Object
returns-in-Object c =
    c.len.ensures.len
    ∙ sym (ap count_of (ap view c.in-Object.is ∙ view-Object c.in-Object.members) ∙ members_len-members_view c.in-Object.members.entries)
