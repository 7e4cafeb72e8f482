use Rattle.std.proofs.Common.{◌≡◌, take}
use Rattle.tsdl_meaning.proofs.TextWords.{texts_of}
use Rattle.tsdl_meaning.proofs.text.are_apart.Given as goal

abbrev pub invariant-loop-text : goal.invariant-loop-text
invariant-loop-text l = texts_of l.words.items ≡ take l.text-index l.texts
