-- The way along a path, step by step.
use Rattle.std.proofs.Common.{◌≡◌, refl, ◌∙◌, ◌+◌, ◌<◌, ◌≤◌, ℕ, zero, suc, Bool, true, false, inl, inr, arith, List, [], ◌∷◌, drop, get_or, length, subst, sym}
use Rattle.std.specs.Prelude.{Option, None, Some, nat_lt, option_map}
use Rattle.std.specs.Borrow.{Bor}
use Rattle.std.specs.Option.{option_copied}
use Rattle.std.proofs.lemmas.Bool.{cases_lt}
use Rattle.std.proofs.lemmas.Bool.Decides.{nat_tests}
use Rattle.std.proofs.lemmas.List.{drop_more}
use Rattle.serde_json.specs.View.{view}
use Rattle.serde_json.specs.declared.value.Value.{Value}
use Rattle.conf_tree.specs.declared.step.Step.{Step}
use Rattle.conf_fault.specs.Found.{IsNext, Leads, PathEnd, data_of, leads_on}

is_less : (i n : ℕ) → i < n → nat_lt i n ≡ true
is_less i n h = grind (arith, nat_tests)

is_not_less : (i n : ℕ) → n ≤ i → nat_lt i n ≡ false
is_not_less i n h = grind (arith, nat_tests)

both_less : (i n : ℕ) → nat_lt (suc i) (suc n) ≡ nat_lt i n
both_less i n = elim (cases_lt i n) [
  | inl less ↦ is_less (suc i) (suc n) (omega (arith, less)) ∙ sym (is_less i n less)
  | inr more ↦ is_not_less (suc i) (suc n) (omega (arith, more)) ∙ sym (is_not_less i n more)
]

-- the way leads on where there are further steps
leads_further : (path : List Step) (i : ℕ) → nat_lt i (length path) ≡ leads_on (drop i path)
leads_further [] zero = is_not_less 0 0 (omega arith)
leads_further [] (suc i) = is_not_less (suc i) 0 (omega arith)
leads_further (step ∷ steps) zero = is_less 0 (suc (length steps)) (omega arith)
leads_further (step ∷ steps) (suc i) = both_less i (length steps) ∙ leads_further steps i

-- one step, and then the others
pub one_further : (text : List ℕ) (path : List Step) (i : ℕ) (step : Step) (on : Bool) (from next end : PathEnd) → i < length path → step ≡ get_or path i step → on ≡ nat_lt (i + 1) (length path)
    → IsNext text step on from next → Leads text next (drop (i + 1) path) end → Leads text from (drop i path) end
one_further text path i step on from next end h same more is leads =
    let there = subst (λ s. IsNext text s (leads_on (drop (i + 1) path)) from next) same (subst (λ b. IsNext text step b from next) (more ∙ leads_further path (i + 1)) is) in
    subst (λ steps. Leads text from steps end) (sym (drop_more path i step h)) (next, there, leads)

-- a value and a reference to it are of one data
pub copied_data : (value : Option (Bor Value)) → option_map view (option_copied value) ≡ data_of value
copied_data None = refl
copied_data (Some value) = refl
