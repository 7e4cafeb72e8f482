-- Lists of which no two items are the same, where what stands behind them is known by a test.
use Rattle.std.specs.Prelude.{Bool, true, not, ◌&&◌, ◌||◌, List, [], ◌∷◌}
use Rattle.std.specs.List.{list_any}

-- no two items are the same, and none is the same as what stands behind them
abbrev pub no_two_before : {A : Type 0} → (A → A → Bool) → (A → Bool) → List A → Bool
no_two_before same behind [] = true
no_two_before same behind (x ∷ xs) = not (list_any (same x) xs || behind x) && no_two_before same behind xs
