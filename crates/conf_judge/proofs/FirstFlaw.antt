-- The first of several flaws.
use Rattle.std.proofs.Common.{◌≡◌, ◌++◌, false, List, [], ◌∷◌, Result, Ok, Err, refl, ◌∙◌}
use Rattle.std.specs.Prelude.{⊤}
use Rattle.conf_tree.specs.Flaw.{Flaw}
use Rattle.conf_tree.specs.Walk.{refusal}
use Rattle.serde_json.specs.Data.{Data, array, object, Members}
use Rattle.conf_table.specs.declared.row.Content.{Content}
use Rattle.conf_table.specs.declared.place.Place.{Place as Place_of_value}
use Rattle.conf_judge.specs.Flaws.{told_by, inner_flaws, class_rule, all_there, object_flaws}
use Rattle.conf_judge.specs.Places.{is_place, place_of_properties}
use Rattle.conf_judge.specs.Shapes.{shape_of}
use Rattle.conf_judge.specs.Known.{Known}
use Rattle.conf_judge.specs.Limits.{inner_limits}

pub refused_first : (xs ys : List Flaw) (f : Flaw) → refusal xs ≡ Err f → refusal (xs ++ ys) ≡ Err f
refused_first [] ys f e = cc
refused_first (x ∷ xs) ys f e = e

pub refused_later : (xs ys : List Flaw) → refusal xs ≡ Ok tt → refusal (xs ++ ys) ≡ refusal ys
refused_later [] ys e = refl
refused_later (x ∷ xs) ys e = cc

-- a reading that is refused has the first flaw, and one that is not has none
pub told_first : (r : Result ⊤ Flaw) (ys : List Flaw) (f : Flaw) → r ≡ Err f → refusal (told_by r ++ ys) ≡ Err f
told_first (Ok x) ys f e = cc
told_first (Err g) ys f e = e

pub told_later : (r : Result ⊤ Flaw) (ys : List Flaw) → r ≡ Ok tt → refusal (told_by r ++ ys) ≡ refusal ys
told_later (Ok x) ys e = refl
told_later (Err g) ys e = cc

pub told_alone : (r : Result ⊤ Flaw) → refusal (told_by r) ≡ r
told_alone (Ok tt) = refl
told_alone (Err g) = refl

-- a value that is no place holds nothing that is judged
pub nothing_held : (k : Known) (content : Content) (d : Data) → is_place content ≡ false → inner_flaws k content d ≡ []
nothing_held k content (array ds) h = rw h refl
nothing_held k content (object ms) h = rw h refl
nothing_held k content _ h = refl

pub nothing_limited : (content : Content) (d : Data) → is_place content ≡ false → inner_limits content d ≡ []
nothing_limited content (array ds) h = rw h refl
nothing_limited content (object ms) h = rw h refl
nothing_limited content _ h = refl

-- ---- an object: its class, what is missing, its properties, and then what it is as a whole

module _ (place : Place_of_value) (ms : Members) (held : List Flaw) where
  pub class_first : (f : Flaw) → class_rule place ms ≡ Err f → refusal (object_flaws place ms held) ≡ Err f
  class_first f e = told_first (class_rule place ms) (told_by (all_there (place_of_properties place ms) ms) ++ (held ++ told_by (shape_of place ms))) f e

  pub missing_first : (f : Flaw) → class_rule place ms ≡ Ok tt → all_there (place_of_properties place ms) ms ≡ Err f → refusal (object_flaws place ms held) ≡ Err f
  missing_first f c e =
      told_later (class_rule place ms) (told_by (all_there (place_of_properties place ms) ms) ++ (held ++ told_by (shape_of place ms))) c
      ∙ told_first (all_there (place_of_properties place ms) ms) (held ++ told_by (shape_of place ms)) f e

  behind_missing : class_rule place ms ≡ Ok tt → all_there (place_of_properties place ms) ms ≡ Ok tt → refusal (object_flaws place ms held) ≡ refusal (held ++ told_by (shape_of place ms))
  behind_missing c there =
      told_later (class_rule place ms) (told_by (all_there (place_of_properties place ms) ms) ++ (held ++ told_by (shape_of place ms))) c
      ∙ told_later (all_there (place_of_properties place ms) ms) (held ++ told_by (shape_of place ms)) there

  pub held_first : (f : Flaw) → class_rule place ms ≡ Ok tt → all_there (place_of_properties place ms) ms ≡ Ok tt → refusal held ≡ Err f → refusal (object_flaws place ms held) ≡ Err f
  held_first f c there e = behind_missing c there ∙ refused_first held (told_by (shape_of place ms)) f e

  pub shape_last : class_rule place ms ≡ Ok tt → all_there (place_of_properties place ms) ms ≡ Ok tt → refusal held ≡ Ok tt → refusal (object_flaws place ms held) ≡ shape_of place ms
  shape_last c there e = behind_missing c there ∙ refused_later held (told_by (shape_of place ms)) e ∙ told_alone (shape_of place ms)
