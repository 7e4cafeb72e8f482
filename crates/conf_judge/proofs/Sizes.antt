-- What the number of items of a list or of members of an object says of how it is read.
use Rattle.std.proofs.Common.{◌≡◌, ◌<◌, List, [], ◌∷◌, length, Err, refl, arith, Global, String, Vec}
use Rattle.serde_json.proofs.Views.{view-Array, items_len-items_view, members_len-members_view}
use Rattle.serde_json.specs.Data.{array}
use Rattle.serde_json.specs.Events.{items_len, members_len}
use Rattle.serde_json.specs.View.{view, items_view, members_view}
use Rattle.serde_json.specs.declared.value.Value.{Value, Array}
use Rattle.conf_tree.specs.declared.fault_kind.FaultKind.TheVariants.{WrongKind}
use Rattle.conf_tree.specs.Flaw.{here}
use Rattle.conf_judge.specs.Numbers.{pair_of, range_of}

few : (vs : List Value) → length vs < 2 → range_of (array (items_view vs)) ≡ Err (here WrongKind)
unfolding range_of pair_of
few [] h = refl
few (a ∷ []) h = refl
few (a ∷ b ∷ vs) h = absurd (omega arith)

many : (vs : List Value) → 2 < length vs → range_of (array (items_view vs)) ≡ Err (here WrongKind)
unfolding range_of pair_of
many [] h = absurd (omega arith)
many (a ∷ []) h = absurd (omega arith)
many (a ∷ b ∷ []) h = absurd (omega arith)
many (a ∷ b ∷ c ∷ vs) h = refl

pub pair_few : (value : Value) (items : Vec Value Global) → value ≡ Array items → length items.items < 2 → range_of (view value) ≡ Err (here WrongKind)
pair_few value items is h = rw (is, view-Array items) (few items.items h)

pub pair_many : (value : Value) (items : Vec Value Global) → value ≡ Array items → 2 < length items.items → range_of (view value) ≡ Err (here WrongKind)
pair_many value items is h = rw (is, view-Array items) (many items.items h)

pub items_counted : (vs : List Value) → items_len (items_view vs) ≡ length vs
items_counted vs = items_len-items_view vs

pub members_counted : (es : List (String Global × Value)) → members_len (members_view es) ≡ length es
members_counted es = members_len-members_view es
