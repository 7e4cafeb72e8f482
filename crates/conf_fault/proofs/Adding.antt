-- Words that are added one behind the other.
use Rattle.std.proofs.Common.{◌≡◌, List, [], ◌++◌, ℕ, sym, ◌∙◌, ap, append_assoc, append-nil}
use Rattle.std.specs.Prelude.{Result, Ok, Err, is_ok, OnOk, if◌then◌else◌}
use Rattle.std.proofs.lemmas.Result.{on_ok_weaker}
use Rattle.conf_fault.specs.Explanation.{Adds}

-- behind words that were added before
pub behind : (was mid now front back : List ℕ) → mid ≡ was ++ front → now ≡ mid ++ back → now ≡ was ++ (front ++ back)
behind was mid now front back e f = f ∙ ap (λ z. z ++ back) e ∙ append_assoc was front back

-- what a last call of std put there
pub appended_behind : {T E : Type 0} (r : Result T E) (was front mid now xs whole : List ℕ) → mid ≡ was ++ front → now ≡ (if is_ok r then mid ++ xs else mid)
    → front ++ xs ≡ whole → OnOk r (now ≡ was ++ whole)
appended_behind (Ok x) was front mid now xs whole e f g = behind was mid now front xs e f ∙ ap (λ z. was ++ z) g
appended_behind (Err x) was front mid now xs whole e f g = tt

-- the same, behind what was there
pub appended : {T E : Type 0} (r : Result T E) (was now xs ys : List ℕ) → now ≡ (if is_ok r then was ++ xs else was) → xs ≡ ys → OnOk r (now ≡ was ++ ys)
appended r was now xs ys e f = appended_behind r was [] was now xs ys (sym (append-nil was)) e f

-- and where these are words of a kind
pub added : {T E : Type 0} (Is : List ℕ → Type 0) (r : Result T E) (was front mid now xs whole : List ℕ) → mid ≡ was ++ front → now ≡ (if is_ok r then mid ++ xs else mid)
    → front ++ xs ≡ whole → Is whole → OnOk r (Adds Is was now)
added Is r was front mid now xs whole e f g is = on_ok_weaker r (λ same. (whole, is, same)) (appended_behind r was front mid now xs whole e f g)
