use Rattle.std.proofs.Common.{◌≡◌, ◌∷◌, take}
use Rattle.tsdl_meaning.proofs.TextWords.{texts_of}
use Rattle.tsdl_meaning.proofs.lookup.words_of.Given as goal

abbrev pub invariant-loop-word : goal.invariant-loop-word
invariant-loop-word l = texts_of l.words.items ≡ l.name.first ∷ take l.word-index l.name.rest
