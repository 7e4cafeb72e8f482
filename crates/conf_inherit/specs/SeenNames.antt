-- The names of the entries of a members list so far, as the definitions see them.
use Rattle.std.specs.{Prelude.{ℕ, List, [], ◌∷◌, ⊤}, Borrow.Bor, BTreeMap.BTreeMap}
use Rattle.serde_json.specs.Data.{null, Members, no_members, member}

abbrev pub members_named : List (Bor (List ℕ) × ⊤) → Members
members_named [] = no_members
members_named (e ∷ es) = member e.0.now null (members_named es)

abbrev pub seen_names : BTreeMap (Bor (List ℕ)) ⊤ → Members
seen_names seen = members_named seen.entries
