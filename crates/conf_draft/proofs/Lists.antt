-- Lists that grow behind, and the second item of one.
use Rattle.std.proofs.Common.{◌≡◌, List, [], ◌∷◌, ◌++◌, append_assoc, option_map, slice_get, refl}
use Rattle.serde_json.specs.Find.{get_item}
use Rattle.serde_json.specs.View.{view, items_view}
use Rattle.serde_json.specs.declared.value.Value.{Value}

pub behind_one : {A : Type 0} (done : List A) (x : A) (rest : List A) → (done ++ (x ∷ [])) ++ rest ≡ done ++ (x ∷ rest)
behind_one done x rest = append_assoc done (x ∷ []) rest

pub behind_many : {A : Type 0} (done xs rest : List A) → (done ++ xs) ++ rest ≡ done ++ (xs ++ rest)
behind_many done xs rest = append_assoc done xs rest

pub first : (vs : List Value) → option_map view (slice_get vs 0) ≡ get_item 0 (items_view vs)
first [] = refl
first (v ∷ vs) = refl

pub second : (vs : List Value) → option_map view (slice_get vs 1) ≡ get_item 1 (items_view vs)
second [] = refl
second (v ∷ []) = refl
second (v ∷ w ∷ vs) = refl
