use Rattle.std.proofs.{Common.{◌+◌, drop, get_or, ap, sym, ◌∙◌, arith}, lemmas.List.{at_drop_more, at_drop_all}}
use Rattle.serde_json.specs.{View.{view, items_view}, Data.item}
use Rattle.conf_inherit.specs.Names.{join_items}
use Rattle.conf_inherit.proofs.LayingLemmas.{join_none, join_pushed}
use Rattle.conf_inherit.proofs.laying.join.Goals as goal

pub loop-item-preserved : goal.loop-item-preserved
loop-item-preserved c =
    let l = c.loop-item in
    let rest = drop (l.item-index + 1) c.args.items.now.items in
    ap (λ v. join_items (items_view v) (items_view rest)) c.in_ok-push.ensures.items
    ∙ join_pushed l.list.items c.in_ok-clone.field-0 (items_view rest)
    ∙ ap (λ x. join_items (items_view l.list.items) (item x (items_view rest))) (c.in_ok-clone.ensures.cases ∙ ap view c.item-item.is ∙ ap (λ xs. view (get_or xs l.item-index c.item-item.result)) c.deref-item-items.ensures.value)
    ∙ sym (at_drop_more (λ v. join_items (items_view l.list.items) (items_view v)) c.args.items.now.items l.item-index c.item-item.result (omega arith))
    ∙ l.invariant

pub returns : goal.returns
returns c = sym (join_none (items_view c.loop-item.list.items)) ∙ sym (at_drop_all (λ v. join_items (items_view c.loop-item.list.items) (items_view v)) c.args.items.now.items c.loop-item.item-index (omega arith)) ∙ c.loop-item.invariant
