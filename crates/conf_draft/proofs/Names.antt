-- The names of members.
use Rattle.std.proofs.Common.{◌≡◌, ℕ, false, List, get_or, sym, ◌∙◌}
use Rattle.std.specs.Prelude.{Contains}
use Rattle.std.specs.List.{list_any}
use Rattle.std.specs.Str.{bytes_eq}
use Rattle.std.proofs.lemmas.Bool.{false≢true}
use Rattle.std.proofs.lemmas.List.Folds.{list_any_at}
use Rattle.std.proofs.lemmas.Slice.Eq.{bytes_eq-Decides}

-- a name that is none of these does not stand among them
pub not_there : (names : List (List ℕ)) (name : List ℕ) → list_any (bytes_eq name) names ≡ false → Contains names name → ⊥
not_there names name free (k, within, is) =
    false≢true (sym free ∙ list_any_at (bytes_eq name) names k name within ((bytes_eq-Decides name (get_or names k name)).1 (sym is)))
