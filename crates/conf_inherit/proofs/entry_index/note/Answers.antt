use Rattle.std.proofs.{Common.{◌≡◌, Some, ℕ, List, string_bytes, ap, sym, ◌∙◌}, lemmas.Map.Text.btree_map_updates_str}
use Rattle.std.specs.{Map.update, Option.option_or, Str.bytes_eq}
use Rattle.serde_json.specs.{Data.object, View.{view, members_view}}
use Rattle.conf_inherit.specs.EntryIndex.{place_at, place_if}
use Rattle.conf_inherit.proofs.EntryLemmas.{noted}
use Rattle.conf_inherit.proofs.entry_index.note.Goals as goal

pub loop-name-preserved : goal.loop-name-preserved
loop-name-preserved c =
    let k = string_bytes c.in-Some.name.now in
    let old = λ (n : List ℕ). place_at c.loop-name.places n in
    let new = λ (n : List ℕ). place_at c.insert.new.self n in
    let put : (n : List ℕ) → new n ≡ update bytes_eq old k (Some c.args.place) n
    = λ n. btree_map_updates_str c.as_str.result.now c.loop-name.places c.insert.new.self (Some c.args.place) c.in_ok-insert.ensures.updates n ∙ ap (λ x. update bytes_eq old x (Some c.args.place) n) c.as_str.ensures.value in
    λ n.
    noted old new k c.args.place (view c.in-Some._value.now) (members_view c.next.new.self) put n
    ∙ ap (λ es. option_or (place_if n (object (members_view es)) c.args.place) (old n)) (sym c.in-Some.ensures.steps)
    ∙ c.loop-name.invariant n
