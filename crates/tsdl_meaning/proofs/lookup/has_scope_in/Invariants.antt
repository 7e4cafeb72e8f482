use Rattle.std.proofs.Common.{◌≡◌, drop}
use Rattle.tsdl_meaning.proofs.TextWords.{list_any, same_words, scope_names, scopes_in, words_of}
use Rattle.tsdl_meaning.proofs.lookup.has_scope_in.Given as goal

abbrev pub invariant-loop-item : goal.invariant-loop-item
invariant-loop-item l = list_any (same_words (words_of l.name)) (scope_names (scopes_in (drop l.item-index l.items))) ≡ list_any (same_words (words_of l.name)) (scope_names (scopes_in l.items))
