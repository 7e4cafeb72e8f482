use Rattle.std.proofs.Common.{◌≡◌, drop}
use Rattle.tsdl_meaning.proofs.TextWords.{attr, attrs_in}
use Rattle.tsdl_meaning.proofs.lookup.attr_in.Given as goal

abbrev pub invariant-loop-item : goal.invariant-loop-item
invariant-loop-item l = attr l.word (attrs_in (drop l.item-index l.items)) ≡ attr l.word (attrs_in l.items)
