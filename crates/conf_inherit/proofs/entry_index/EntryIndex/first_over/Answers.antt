use Rattle.std.proofs.Common.{Some, None, sym, ◌∙◌, subst}
use Rattle.std.specs.Slice.{IsItemAt}
use Rattle.serde_json.specs.View.{view, items_view}
use Rattle.conf_inherit.proofs.EntryLemmas.{found_by_index, found_first}
use Rattle.conf_inherit.proofs.entry_index.EntryIndex.first_over.Goals as goal

pub returns-in-Some-clause-found : goal.returns-in-Some-clause-found
returns-in-Some-clause-found c =
    let index = c.args.self.now in
    let vs = index.entries.now.items in
    let b = view c.args.value.now in
    found_first vs b c.in-Some.place c.get.result (found_by_index (items_view vs) b index.places (Some c.in-Some.place) index.placed (sym c.lowest_place.ensures ∙ c.in-Some.is))
    (subst (λ xs. IsItemAt xs c.in-Some.place c.get.result) c.as_slice.ensures.value c.get.ensures.lookup)

pub returns-in-None-clause-found : goal.returns-in-None-clause-found
returns-in-None-clause-found c =
    let index = c.args.self.now in
    found_by_index (items_view index.entries.now.items) (view c.args.value.now) index.places None index.placed (sym c.lowest_place.ensures ∙ c.in-None.is)
