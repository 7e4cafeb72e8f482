use Rattle.std.proofs.Common.{◌≡◌, ◌&&◌, length}
use Rattle.tsdl_meaning.proofs.TextWords.{are_distinct, is_among, list_all, names_of, scope_names, scopes_in, words_of}
use Rattle.tsdl_meaning.proofs.lookup.has_parts.Given as goal

abbrev pub invariant-loop-rest : goal.invariant-loop-rest
invariant-loop-rest l =
    (are_distinct (scope_names (scopes_in l.rest)) && list_all (λ s. is_among (names_of l.allowed) (words_of s.name)) (scopes_in l.rest))
    ≡ (are_distinct (scope_names (scopes_in l.items)) && list_all (λ s. is_among (names_of l.allowed) (words_of s.name)) (scopes_in l.items))

abbrev pub decreases-loop-rest : goal.decreases-loop-rest
decreases-loop-rest l = length l.rest
