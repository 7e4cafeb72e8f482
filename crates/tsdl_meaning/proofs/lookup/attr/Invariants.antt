use Rattle.std.proofs.Common.{◌≡◌, drop}
use Rattle.tsdl_meaning.proofs.TextWords.{attr}
use Rattle.tsdl_meaning.proofs.lookup.attr.Given as goal

abbrev pub invariant-loop-attribute : goal.invariant-loop-attribute
invariant-loop-attribute l = attr l.word (drop l.attribute-index l.attributes) ≡ attr l.word l.attributes
