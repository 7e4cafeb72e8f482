use Rattle.std.proofs.Common.{◌≡◌, ◌∷◌, drop}
use Rattle.tsdl_meaning.proofs.TextWords.{each, entry_meaning, with_front}
use Rattle.tsdl_meaning.proofs.enumeration.mappings_of.Given as goal

abbrev pub invariant-loop-entry : goal.invariant-loop-entry
invariant-loop-entry l = with_front l.mappings (each entry_meaning (drop l.entry-index l.others)) ≡ each entry_meaning (l.first ∷ l.others)
