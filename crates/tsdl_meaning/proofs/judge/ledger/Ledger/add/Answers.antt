use Rattle.std.proofs.Common.{◌≡◌, true, ℕ, List, Bor, None, option_map, refl, sym, ap, ap₂, ◌∙◌, cond, subst, bytes_eq, codes, inl}
use Rattle.std.proofs.lemmas.Map.Text.{btree_set_updates_text}
use Rattle.tsdl_meaning.proofs.TextWords.{Block, ContainsKey, HasNumbers, Holds, Item, attrs_in, block_toks, clock_name, contains_text, is_some, number_or_zero, pair_cmp, some_same, string_bytes}
use Rattle.tsdl_meaning.proofs.JudgedLedgers.{clock_more, event_more, key_known, key_stays}
use Rattle.tsdl_meaning.proofs.judge.ledger.Ledger.add.Goals as goal

pub returns-in_ok-_is_new-in-Clock-clause-noted : goal.returns-in_ok-_is_new-in-Clock-clause-noted
returns-in_ok-_is_new-in-Clock-clause-noted c = λ front n here. record {
  trace = n.trace;
  environment = n.environment;
  clocks =
      clock_more front c.args.self.now.clocks c.insert.new.self c.in-Clock.items c.in-Some.name.now n.clocks
      (λ w.
      btree_set_updates_text (string_bytes c.in_ok-from_str-in-Clock.field-0) c.args.self.now.clocks c.insert.new.self true c.in_ok-_is_new-in-Clock.ensures.updates w
      ∙ ap (λ (n : List ℕ). cond (bytes_eq n w) true (contains_text c.args.self.now.clocks w)) (c.in_ok-from_str-in-Clock.ensures.ok ∙ c.as_str.ensures))
      (subst (λ (b : Block). Holds front (block_toks b)) c.in-Clock.is here) (ap clock_name (sym c.as_slice.ensures) ∙ sym c.in-Some.ensures);
  streams = n.streams;
  events = n.events;
}

pub returns-in_ok-_is_new-in-Clock-clause-adds : goal.returns-in_ok-_is_new-in-Clock-clause-adds
returns-in_ok-_is_new-in-Clock-clause-adds c = rw c.in-Clock.is (record {
  clocks = c.insert.new.self;
  others = refl;
  added = λ name is w.
      let same : c.in-Some.name.now ≡ name = some_same c.in-Some.name.now name (clock_name c.in-Clock.items) (ap clock_name (sym c.as_slice.ensures) ∙ sym c.in-Some.ensures) is in
      btree_set_updates_text (string_bytes c.in_ok-from_str-in-Clock.field-0) c.args.self.now.clocks c.insert.new.self true c.in_ok-_is_new-in-Clock.ensures.updates w
      ∙ ap (λ (n : List ℕ). cond (bytes_eq n w) true (contains_text c.args.self.now.clocks w)) (c.in_ok-from_str-in-Clock.ensures.ok ∙ c.as_str.ensures ∙ same);
})

pub returns-in_default-clause-adds : goal.returns-in_default-clause-adds
returns-in_default-clause-adds c = rw c.in-Clock.is (record {
  clocks = c.args.self.now.clocks;
  others = refl;
  added = λ name is. absurd (let none : clock_name c.in-Clock.items ≡ None = ap clock_name (sym c.as_slice.ensures) ∙ sym c.name_in.ensures ∙ ap (option_map (λ (t : Bor (List ℕ)). t.now)) c.in_default.is in cc);
})

pub returns-in_default-number_or_zero-clause-adds : goal.returns-in_default-number_or_zero-clause-adds
returns-in_default-number_or_zero-clause-adds c = rw c.in-Stream.is (record {
  streams = c.args.self.now.streams;
  others = refl;
  added = λ id is. absurd (let none : number_or_zero (codes "id") (attrs_in c.in-Stream.items) ≡ None = ap (λ (is : List Item). number_or_zero (codes "id") (attrs_in is)) (sym c.as_slice-in-Stream.ensures) ∙ sym c.number_or_zero.ensures ∙ c.in_default-number_or_zero.is in cc);
})

pub returns-in_ok-insert-in-Event-clause-noted : goal.returns-in_ok-insert-in-Event-clause-noted
returns-in_ok-insert-in-Event-clause-noted c = λ front n here. record {
  trace = n.trace;
  environment = n.environment;
  clocks = n.clocks;
  streams = n.streams;
  events =
      event_more front c.args.self.now.events c.insert-in-Event.new.self c.in-Event.items c.in-Some-Some.numbers _ n.events c.in_ok-insert-in-Event.ensures.updates.0 (subst (λ (b : Block). Holds front (block_toks b)) c.in-Event.is here)
      (subst (λ (is : List Item). HasNumbers is c.in-Some-Some.numbers.0 c.in-Some-Some.numbers.1) c.as_slice-items.ensures c.in-Some-Some.ensures'.found);
}

pub returns-in_ok-insert-in-Event-clause-adds : goal.returns-in_ok-insert-in-Event-clause-adds
returns-in_ok-insert-in-Event-clause-adds c = rw c.in-Event.is (record {
  events = c.insert-in-Event.new.self;
  others = refl;
  known =
      key_known c.args.self.now.events c.insert-in-Event.new.self c.in-Event.items c.in-Some-Some.numbers _ c.in_ok-insert-in-Event.ensures.updates.0
      (subst (λ (is : List Item). HasNumbers is c.in-Some-Some.numbers.0 c.in-Some-Some.numbers.1) c.as_slice-items.ensures c.in-Some-Some.ensures'.found);
  added = λ name stream id named numbers.
      let given = c.in-Some-Some.numbers in
      let found = subst (λ (is : List Item). HasNumbers is given.0 given.1) c.as_slice-items.ensures c.in-Some-Some.ensures'.found in
      let streams : given.0 ≡ stream = some_same given.0 stream _ found.0 numbers.0 in
      let ids : given.1 ≡ id = some_same given.1 id _ found.1 numbers.1 in (
        subst (ContainsKey pair_cmp c.insert-in-Event.new.self) (ap₂ (λ (m n : ℕ). (m, n)) streams ids) (ap is_some c.in_ok-insert-in-Event.ensures.updates.1),
        λ key there. key_stays c.args.self.now.events c.insert-in-Event.new.self given key _ refl (c.in_ok-insert-in-Event.ensures.updates.0 key) there,
      );
})

pub returns-in_default-2-clause-adds : goal.returns-in_default-2-clause-adds
returns-in_default-2-clause-adds c = rw c.in-Event.is (record {
  events = c.args.self.now.events;
  others = refl;
  known = λ key there. inl there;
  added = λ name stream id named numbers. absurd (c.event_numbers.ensures.none c.in_default-2.is-1 stream id (subst (λ (is : List Item). HasNumbers is stream id) (sym c.as_slice-items.ensures) numbers));
})

pub returns-in_default-2-2-clause-adds : goal.returns-in_default-2-2-clause-adds
returns-in_default-2-2-clause-adds c = rw c.in-Event.is (record {
  events = c.args.self.now.events;
  others = refl;
  known = λ key there. inl there;
  added = λ name stream id named numbers.
      absurd (let none : clock_name c.in-Event.items ≡ None = ap clock_name (sym c.as_slice-items.ensures) ∙ sym c.name_in-in-Event.ensures ∙ ap (option_map (λ (t : Bor (List ℕ)). t.now)) c.in_default-2.is-0 in cc);
})
