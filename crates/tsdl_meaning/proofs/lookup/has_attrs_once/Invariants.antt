use Rattle.std.proofs.Common.{◌≡◌, ◌++◌, drop}
use Rattle.tsdl_meaning.proofs.TextWords.{attr_names, attrs_in, name_lists}
use Rattle.tsdl_meaning.proofs.lookup.has_attrs_once.Given as goal

abbrev pub invariant-loop-item : goal.invariant-loop-item
invariant-loop-item l = name_lists l.names ++ attr_names (attrs_in (drop l.item-index l.items)) ≡ attr_names (attrs_in l.items)
