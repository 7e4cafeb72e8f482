use Rattle.std.proofs.Common.{◌≡◌, ℕ, List, length}
use Rattle.std.specs.Option.{option_or}
use Rattle.serde_json.specs.View.{items_view}
use Rattle.conf_inherit.specs.EntryIndex.{place_at, place_from}
use Rattle.conf_inherit.proofs.entry_index.EntryIndex.of.Given as goal

-- the place of the last entry that is left, and the first place of a name is among those that are left, or is noted
abbrev pub invariant-loop-entry : goal.invariant-loop-entry
invariant-loop-entry l =
    (l.place ≡ length l.entry-iterator.iter.rest.now)
    × ((n : List ℕ) → place_from 0 n (items_view l.entries.items) ≡ option_or (place_from 0 n (items_view l.entry-iterator.iter.rest.now)) (place_at l.places n))
