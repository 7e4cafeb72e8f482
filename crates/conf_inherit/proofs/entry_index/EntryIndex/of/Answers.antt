use Rattle.std.proofs.Common.{◌≡◌, ◌-◌, ◌+◌, length, sym, ap, ◌∙◌, arith}
use Rattle.std.specs.{List.push, Option.option_or}
use Rattle.serde_json.specs.View.{view, items_view}
use Rattle.conf_inherit.specs.EntryIndex.{place_at, place_if, place_from}
use Rattle.conf_inherit.proofs.EntryLemmas.{place_pushed, length_pushed, or_assoc}
use Rattle.conf_inherit.proofs.entry_index.EntryIndex.of.Goals as goal

pub loop-entry-preserved : goal.loop-entry-preserved
loop-entry-preserved c =
    let left = c.next.new.self.iter.rest.now in
    let e = c.in-Some.entry.now in
    let split : c.loop-entry.entry-iterator.iter.rest.now ≡ push left e = c.in-Some.ensures.steps in
    let last : c.loop-entry.place ≡ length left + 1 = c.loop-entry.invariant.0 ∙ ap length split ∙ length_pushed left e in
    let place : c.loop-entry.place - 1 ≡ length left = let p = last in omega arith in
    let at : 0 + length left ≡ c.loop-entry.place - 1 = let p = last in omega arith in (
      place,
      λ n.
          c.loop-entry.invariant.1 n
          ∙ ap (λ vs. option_or (place_from 0 n (items_view vs)) (place_at c.loop-entry.places n)) split
          ∙ ap (λ o. option_or o (place_at c.loop-entry.places n)) (place_pushed 0 n left e)
          ∙ or_assoc (place_from 0 n (items_view left)) (place_if n (view e) (0 + length left)) (place_at c.loop-entry.places n)
          ∙ ap (λ p. option_or (place_from 0 n (items_view left)) (option_or (place_if n (view e) p) (place_at c.loop-entry.places n))) at
          ∙ ap (option_or (place_from 0 n (items_view left))) (sym (c.in_ok-note.ensures n)),
    )
