use Rattle.std.proofs.Common.{◌≡◌, take}
use Rattle.tsdl_grammar.specs.Atoms.{atoms_of}
use Rattle.tsdl_grammar.proofs.atom.atoms.Given as goal

abbrev pub invariant-loop-token : goal.invariant-loop-token
invariant-loop-token l = l.atoms.items ≡ atoms_of l.text (take l.token-index l.tokens)
