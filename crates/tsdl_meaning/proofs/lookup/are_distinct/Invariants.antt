use Rattle.std.proofs.Common.{◌≡◌, vec_len}
use Rattle.tsdl_meaning.proofs.TextWords.{eq_by_cmp, is_at, list_any, no_two}
use Rattle.tsdl_meaning.specs.Distinct.{no_two_before}
use Rattle.tsdl_meaning.proofs.lookup.are_distinct.Given as goal

abbrev pub invariant-loop-key : goal.invariant-loop-key
invariant-loop-key g l = no_two_before (eq_by_cmp g.K.Ord.cmp) (λ w. list_any (is_at (g.K.Ord.cmp w)) l.behind.keys) l.left.items ≡ no_two (eq_by_cmp g.K.Ord.cmp) l.fn.keys.items

abbrev pub decreases-loop-key : goal.decreases-loop-key
decreases-loop-key g l = vec_len l.left
