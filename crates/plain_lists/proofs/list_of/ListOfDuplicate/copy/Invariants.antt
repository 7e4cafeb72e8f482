use Rattle.std.proofs.Common.{◌≡◌, take}
use Rattle.plain_lists.proofs.list_of.ListOfDuplicate.copy.Given as goal

abbrev pub invariant-loop-item : goal.invariant-loop-item
invariant-loop-item g l = l.copied.items ≡ take l.item-index l.item-items
