-- The entries of a members list by their names.
use Rattle.std.specs.{Prelude.{◌≡◌, ℕ, suc, List, Option, None, Some, is_some, nat_lt, if◌then◌else◌}, Borrow.Bor, BTreeMap.{BTreeMap, get_by}}
use Rattle.std.specs.{Cmp.Lexicographic.slice_cmp, Ordering.nat_cmp}
use Rattle.serde_json.specs.{Data.{Data, Items, no_items, item, Members, no_members, member}, Find.get}

-- the place, if a value has the name
abbrev pub place_if : List ℕ → Data → ℕ → Option ℕ
place_if n e place = if is_some (get n e) then Some place else None

-- the place of the first entry with the name, where the first of all has the place i
abbrev pub place_from : ℕ → List ℕ → Items → Option ℕ
place_from i n no_items = None
place_from i n (item e es) = if is_some (get n e) then Some i else place_from (suc i) n es

-- the place that an index has of a name
abbrev pub place_at : BTreeMap (Bor (List ℕ)) ℕ → List ℕ → Option ℕ
place_at places n = get_by (λ k. slice_cmp nat_cmp n k.now) places

-- an index has the place of the first entry of each name
abbrev pub HasPlaces : BTreeMap (Bor (List ℕ)) ℕ → Items → Type 0
HasPlaces places es = (n : List ℕ) → place_at places n ≡ place_from 0 n es

-- the lower of two places, where there are any
abbrev pub lower : Option ℕ → Option ℕ → Option ℕ
lower None q = q
lower (Some i) None = Some i
lower (Some i) (Some j) = if nat_lt j i then Some j else Some i

-- the lowest place of some names
abbrev pub lowest : (List ℕ → Option ℕ) → Members → Option ℕ
lowest f no_members = None
lowest f (member n d ms) = lower (f n) (lowest f ms)
