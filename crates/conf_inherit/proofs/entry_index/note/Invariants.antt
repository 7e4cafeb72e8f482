use Rattle.std.proofs.Common.{◌≡◌, ℕ, List}
use Rattle.std.specs.Option.{option_or}
use Rattle.serde_json.specs.{Data.object, View.{view, members_view}}
use Rattle.conf_inherit.specs.EntryIndex.{place_at, place_if}
use Rattle.conf_inherit.proofs.entry_index.note.Given as goal

-- the names that are left are still to be noted
abbrev pub invariant-loop-name : goal.invariant-loop-name
invariant-loop-name l =
    (n : List ℕ) → option_or (place_if n (object (members_view l.name-iterator)) l.place) (place_at l.places n)
    ≡ option_or (place_if n (view l.entry) l.place) (place_at l.initial.places n)
