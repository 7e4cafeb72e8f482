use Rattle.std.proofs.Common.{◌≡◌, length, map}
use Rattle.tsdl_meaning.proofs.TextWords.{bytes_eq, no_two}
use Rattle.tsdl_meaning.proofs.environment.are_distinct.Given as goal

abbrev pub invariant-loop-rest : goal.invariant-loop-rest
invariant-loop-rest l = no_two bytes_eq (map (λ f. f.name) l.rest) ≡ no_two bytes_eq (map (λ f. f.name) l.facts)

abbrev pub decreases-loop-rest : goal.decreases-loop-rest
decreases-loop-rest l = length l.rest
