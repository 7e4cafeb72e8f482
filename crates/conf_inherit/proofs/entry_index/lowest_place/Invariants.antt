use Rattle.std.proofs.Common.{◌≡◌}
use Rattle.serde_json.specs.View.{view, members_view}
use Rattle.conf_inherit.specs.{EntryIndex.{place_at, lower, lowest}, Names.properties_of}
use Rattle.conf_inherit.proofs.entry_index.lowest_place.Given as goal

-- the lowest so far, or one that is left
abbrev pub invariant-loop-name : goal.invariant-loop-name
invariant-loop-name l =
    lower l.lowest (lowest (λ n. place_at l.places n) (members_view l.name-iterator)) ≡ lowest (λ n. place_at l.places n) (properties_of (view l.value))
