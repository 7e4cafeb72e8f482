use Rattle.std.proofs.Common.{◌≡◌, drop}
use Rattle.tsdl_meaning.proofs.TextWords.{scope, scopes_in, texts_of}
use Rattle.tsdl_meaning.proofs.lookup.scope_in.Given as goal

abbrev pub invariant-loop-item : goal.invariant-loop-item
invariant-loop-item l = scope (texts_of l.words) (scopes_in (drop l.item-index l.items)) ≡ scope (texts_of l.words) (scopes_in l.items)
