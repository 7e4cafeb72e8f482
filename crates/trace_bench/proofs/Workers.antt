-- Workers that are made one after the other, all at one clock.
use Rattle.std.proofs.Common.{◌≡◌, Bool, true, false, List, [], ◌∷◌, ◌++◌, sym, subst}
use Rattle.std.proofs.lemmas.List.Elements.{All-push}
use Rattle.std.specs.Bool.{if◌then◌else◌}
use Rattle.std.specs.List.{All}
use Rattle.trace_stack.specs.declared.worker.Worker.{Worker}

-- one more, if there was room
pub one_more : {W : Type 0} (P : Worker W → Type 0) (b : Bool) (xs ys : List (Worker W)) (x : Worker W) → ys ≡ (if b then xs ++ x ∷ [] else xs) → All P xs → P x → All P ys
one_more P true xs ys x is all one = subst (All P) (sym is) (All-push P xs x all one)
one_more P false xs ys x is all one = subst (All P) (sym is) all
