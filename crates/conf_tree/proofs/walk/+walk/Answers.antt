use Rattle.std.proofs.Common.{◌≡◌, List, [], ◌∷◌, Less, string_cmp, string_bytes, sym, subst}
use Rattle.std.specs.List.{AllByRecursion}
use Rattle.std.specs.List.Sorted.{IsStrictlySortedBy}
use Rattle.std.specs.Map.{keys_of}
use Rattle.serde_json.specs.View.{members_view}
use Rattle.serde_json.proofs.Views.{Entry}
use Rattle.conf_tree.specs.Order.{AllAbove, IsInOrder, MembersAscend}
use Rattle.conf_tree.proofs.walk.+walk.Goals as goal

-- the entries of a map ascend by their names, and so do the members that they are seen as
above : (e : Entry) (es : List Entry) → AllByRecursion (λ k. string_cmp e.0 k ≡ Less) (keys_of es) → AllAbove (string_bytes e.0) (members_view es)
above e [] h = tt
above e (f ∷ es) h = (h.0, above e es h.1)

in_order : (es : List Entry) → IsStrictlySortedBy string_cmp (keys_of es) → IsInOrder (members_view es)
unfolding IsStrictlySortedBy
in_order [] h = tt
in_order (e ∷ es) h = (above e es h.0, in_order es h.1)

pub check_members-returns-clause-ordered : goal.check_members-returns-clause-ordered
check_members-returns-clause-ordered t c =
    let over : c.loop-name.name-iterator ≡ [] = c.in-None.ensures.steps.0 in
    (in_order c.args.members.now.entries c.iter-name-items.ensures.ordered, c.loop-name.invariant.1 (subst (λ es. MembersAscend (members_view es)) (sym over) tt))
