-- What the rows of the table are: each name stands once, and a property is known exactly where a row has its name.
use Rattle.std.proofs.Common.{◌≡◌, ℕ, List, [], ◌∷◌, map, Bool, true, false, cond, Option, Some, None, option_map, IsSome, refl, sym, ◌∙◌, ap, subst, inl, inr}
use Rattle.std.proofs.Common.{◌+◌, ◌<◌, length, drop, slice_index_or, Bor}
use Rattle.std.proofs.lemmas.List.{at_drop_more}
use Rattle.std.proofs.lemmas.Slice.Eq.{bytes_eq-Decides}
use Rattle.std.proofs.lemmas.Bool.{false≢true}
use Rattle.std.specs.Str.{bytes_eq}
use Rattle.conf_table.specs.declared.row.Presence.{Presence}
use Rattle.conf_table.specs.declared.row.Content.{Content}
use Rattle.conf_table.specs.Classes.{class_in, class_word_of}
use Rattle.conf_table.specs.declared.place.Place.{Place}
use Rattle.conf_table.specs.declared.place.Place.TheVariants as places
use Rattle.conf_table.specs.Table.{Told, told_of, rows_of, row_in, content_under, told_under, under_of, place_in, IsNameOf, IsObjectPlace, stand_once}

-- no two rows of a place have one name
pub rows_stand_once : (place : Place) → stand_once (map (λ r. r.name) (rows_of place)) ≡ true
unfolding rows_of
rows_stand_once places.Root = refl
rows_stand_once _ = refl

module _ (k : List ℕ) (r : Told) (rs : List Told) where
  row_found_by : (b : Bool) → bytes_eq r.name k ≡ b → (IsSome (row_in k rs) → IsNameOf k rs) → IsSome (cond b (Some r) (row_in k rs)) → IsNameOf k (r ∷ rs)
  row_found_by true is later some = inl (sym ((bytes_eq-Decides r.name k).0 is))
  row_found_by false is later some = inr (later some)

  found_row_by : (b : Bool) → bytes_eq r.name k ≡ b → (IsNameOf k rs → IsSome (row_in k rs)) → IsNameOf k (r ∷ rs) → IsSome (cond b (Some r) (row_in k rs))
  found_row_by true is later named = refl
  found_row_by false is later (inl same) = absurd (false≢true (sym is ∙ (bytes_eq-Decides r.name k).1 (sym same)))
  found_row_by false is later (inr named) = later named

-- a row is found exactly where one has the name
pub row_found : (k : List ℕ) (rs : List Told) → IsSome (row_in k rs) → IsNameOf k rs
row_found k [] found = absurd (false≢true found)
row_found k (r ∷ rs) found = row_found_by k r rs (bytes_eq r.name k) refl (row_found k rs) found

pub found_row : (k : List ℕ) (rs : List Told) → IsNameOf k rs → IsSome (row_in k rs)
found_row k [] named = absurd named
found_row k (r ∷ rs) named = found_row_by k r rs (bytes_eq r.name k) refl (found_row k rs) named

-- what is mapped is there exactly where it is there before
pub mapped_there : {A B : Type 0} (f : A → B) (o : Option A) → IsSome (option_map f o) → IsSome o
mapped_there f None there = absurd (false≢true there)
mapped_there f (Some x) there = refl

pub there_mapped : {A B : Type 0} (f : A → B) (o : Option A) → IsSome o → IsSome (option_map f o)
there_mapped f None there = absurd (false≢true there)
there_mapped f (Some x) there = refl

pub content_of_object : (place : Place) (k : List ℕ) → IsObjectPlace place → content_under place k ≡ option_map (λ r. r.content) (row_in k (rows_of place))
unfolding content_under
content_of_object places.Ignored k object = absurd (object.1 refl)
content_of_object place k object = ap (λ e. told_under e (rows_of place) k) object.0

-- a property of an object is known exactly where a row has its name
pub known_named : (place : Place) (k : List ℕ) → IsObjectPlace place → IsSome (under_of place k) → IsNameOf k (rows_of place)
known_named place k object known = row_found k (rows_of place) (mapped_there (λ r. r.content) (row_in k (rows_of place))
    (mapped_there place_in _ (subst (λ o. IsSome (option_map place_in o)) (content_of_object place k object) known)))

pub named_known : (place : Place) (k : List ℕ) → IsObjectPlace place → IsNameOf k (rows_of place) → IsSome (under_of place k)
named_known place k object named = subst (λ o. IsSome (option_map place_in o)) (sym (content_of_object place k object))
    (there_mapped place_in _ (there_mapped (λ r. r.content) (row_in k (rows_of place)) (found_row k (rows_of place) named)))

-- ---- what is found from a row of the table on

module _ (k : List ℕ) (rs : List (Bor (List ℕ) × Presence × Content)) (i : ℕ) (d : Bor (List ℕ) × Presence × Content) (found : Option Told) where
  pub row_here : i < length rs → found ≡ row_in k (map told_of (drop i rs)) → bytes_eq (slice_index_or rs i d).0.now k ≡ true → Some (told_of (slice_index_or rs i d)) ≡ found
  row_here h before same = sym (before ∙ at_drop_more (λ xs. row_in k (map told_of xs)) rs i d h
      ∙ ap (λ b. cond b (Some (told_of (slice_index_or rs i d))) (row_in k (map told_of (drop (i + 1) rs)))) same)

  pub row_behind : i < length rs → found ≡ row_in k (map told_of (drop i rs)) → bytes_eq (slice_index_or rs i d).0.now k ≡ false → found ≡ row_in k (map told_of (drop (i + 1) rs))
  row_behind h before other = before ∙ at_drop_more (λ xs. row_in k (map told_of xs)) rs i d h
      ∙ ap (λ b. cond b (Some (told_of (slice_index_or rs i d))) (row_in k (map told_of (drop (i + 1) rs)))) other

module _ (w : List ℕ) (cs : List (Bor (List ℕ) × Place)) (i : ℕ) (d : Bor (List ℕ) × Place) (found : Option Place) where
  pub class_here : i < length cs → found ≡ class_in w (map class_word_of (drop i cs)) → bytes_eq (slice_index_or cs i d).0.now w ≡ true → Some (slice_index_or cs i d).1 ≡ found
  class_here h before same = sym (before ∙ at_drop_more (λ xs. class_in w (map class_word_of xs)) cs i d h
      ∙ ap (λ b. cond b (Some (slice_index_or cs i d).1) (class_in w (map class_word_of (drop (i + 1) cs)))) same)

  pub class_behind : i < length cs → found ≡ class_in w (map class_word_of (drop i cs)) → bytes_eq (slice_index_or cs i d).0.now w ≡ false → found ≡ class_in w (map class_word_of (drop (i + 1) cs))
  class_behind h before other = before ∙ at_drop_more (λ xs. class_in w (map class_word_of xs)) cs i d h
      ∙ ap (λ b. cond b (Some (slice_index_or cs i d).1) (class_in w (map class_word_of (drop (i + 1) cs)))) other
