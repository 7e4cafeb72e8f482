-- The blocks of a text in another order.
use Rattle.std.proofs.Common.{◌≡◌, ℕ, Bool, eqb, List, ◌∷◌, map, Option, Some, refl, sym, ap, ap₂, ◌∙◌, inl, inr, flat_map, bytes_eq}
use Rattle.std.specs.{List.list_any, Cmp.Lexicographic.nat_list_eq_equiv}
use Rattle.std.proofs.lemmas.Bool.{cases_Bool}
use Rattle.ctf_types.specs.{declared.ByteOrder.ByteOrder, declared.ClockType.ClockType, declared.Event.Event, declared.Stream.Stream}
use Rattle.ctf_types.specs.declared.Metadata.{Metadata}
use Rattle.tsdl_grammar.specs.declared.tree.Block.{Block}
use Rattle.tsdl_grammar.specs.{Lookups.no_two, IntegerMeaning.Known, Laws.SaysMetadata}
use Rattle.tsdl_grammar.specs.Steps.{◌>>=◌, provided, only, at_most_one, each, by_number}
use Rattle.tsdl_grammar.specs.BlockMeaning.{clock_meaning, stream_meaning, event_meaning, environment_meaning}
use Rattle.tsdl_grammar.specs.Denotes.{text_meta, trace_in, stream_in, event_in, clock_in, environment_in, events_of, with_events, have_streams, known_of, streams_meaning}
use Rattle.tsdl_grammar.specs.Orders.{Reordered, same, neighbours, behind, further, SameButClockOrder}
use Rattle.tsdl_grammar.proofs.{Inversion.{bind_some, bind_is}, MeaningParts.{says_metadata, text_says}}
use Rattle.tsdl_grammar.proofs.Reordering.{reordered_parts, reordered_map, one_stays, any_stays, all_stays, no_two_stays, each_stays, each_alike, by_number_stays}
use Rattle.tsdl_grammar.proofs.KnownClocks.{KnowSame, header_alike, stream_alike, event_alike}

known_same : (order : ByteOrder) {us vs : List ClockType} → Reordered us vs → KnowSame (known_of order us) (known_of order vs)
known_same order r = record { order = refl; clocks = λ w. any_stays (bytes_eq w) (reordered_map (λ c. c.name) r) }

names_apart : {us vs : List ClockType} → Reordered us vs → no_two bytes_eq (map (λ c. c.name) us) ≡ no_two bytes_eq (map (λ c. c.name) vs)
names_apart r = no_two_stays bytes_eq (λ v w. nat_list_eq_equiv.symm v w) (reordered_map (λ c. c.name) r)

events_stay : (id : ℕ) {es fs : List (ℕ × Event)} → Reordered es fs → Reordered (events_of id es) (events_of id fs)
events_stay id (same es) = same (events_of id es)
events_stay id (neighbours x y es) =
    elim (cases_Bool (eqb x.0 id)) [
      | inl p ↦ elim (cases_Bool (eqb y.0 id)) [ inl q ↦ rw (p, q) (neighbours x.1 y.1 (events_of id es)) | inr q ↦ rw (p, q) (same (x.1 ∷ events_of id es)) ]
      | inr p ↦ rw p (same _)
    ]
events_stay id (behind x es fs r) =
    let i = events_stay id r in elim (cases_Bool (eqb x.0 id)) [ inl p ↦ rw p (behind x.1 (events_of id es) (events_of id fs) i) | inr p ↦ rw p i ]
events_stay id (further es fs gs r s) = further _ _ _ (events_stay id r) (events_stay id s)

with_events_alike : {es fs : List (ℕ × Event)} → Reordered es fs → (s : Stream) → with_events es s ≡ with_events fs s
with_events_alike r s = ap (λ (o : Option (List Event)). o >>= λ es. Some (record s { events = es })) (by_number_stays (λ e. e.id) (events_stay s.id r))

streams_stay : (known : Known) (bs cs : List Block) (ss : List Stream) → Reordered (flat_map stream_in bs) (flat_map stream_in cs) → Reordered (flat_map event_in bs) (flat_map event_in cs)
    → streams_meaning known bs ≡ Some ss → streams_meaning known cs ≡ Some ss
unfolding streams_meaning
streams_stay known bs cs ss streams events e =
    let a = bind_some (each (stream_meaning known) (flat_map stream_in bs)) _ ss e in
    let b = bind_some (by_number (λ s. s.id) a.0) _ ss a.2 in
    let c = bind_some (each (event_meaning known) (flat_map event_in bs)) _ ss b.2 in
    let d = each_stays (stream_meaning known) a.0 streams a.1 in
    let f = each_stays (event_meaning known) c.0 events c.1 in
    let made : provided (have_streams b.0 f.0) (each (with_events f.0) b.0) ≡ Some ss =
    ap₂ (λ (t : Bool) (o : Option (List Stream)). provided t o) (sym (all_stays (λ e. list_any (λ s. eqb s.id e.0) b.0) f.2))
    (sym (each_alike (with_events c.0) (with_events f.0) b.0 (with_events_alike f.2))) ∙ c.2
    in
    bind_is (each (stream_meaning known) (flat_map stream_in cs)) _ d.0 ss d.1
    (bind_is (by_number (λ s. s.id) d.0) _ b.0 ss (sym (by_number_stays (λ s. s.id) d.2) ∙ b.1)
    (bind_is (each (event_meaning known) (flat_map event_in cs)) _ f.0 ss f.1 made))

streams_alike : (k l : Known) (bs : List Block) → KnowSame k l → streams_meaning k bs ≡ streams_meaning l bs
unfolding streams_meaning
streams_alike k l bs knows =
    rw (each_alike (stream_meaning k) (stream_meaning l) (flat_map stream_in bs) (stream_alike k l knows), each_alike (event_meaning k) (event_meaning l) (flat_map event_in bs) (event_alike k l knows)) refl

pub blocks_reordered : (bs cs : List Block) (m : Metadata) → Reordered bs cs → text_meta bs ≡ Some m → (n : Metadata) × (text_meta cs ≡ Some n) × SameButClockOrder m n
blocks_reordered bs cs m r e =
    let s = says_metadata bs m e in
    let c = each_stays clock_meaning m.clocks (reordered_parts clock_in r) s.clocks in
    let d = bind_some (at_most_one (flat_map environment_in bs)) environment_meaning m.environment s.environment in
    let known = known_same m.order c.2 in
    let n : Metadata = record m { clocks = c.0 } in
    let says : SaysMetadata cs n = record {
      trace = s.trace;
      one_trace = one_stays only (λ x y xs. refl) s.trace (reordered_parts trace_in r) s.one_trace;
      version = s.version;
      order = s.order;
      uuid = s.uuid;
      environment =
          bind_is (at_most_one (flat_map environment_in cs)) environment_meaning d.0 m.environment
          (one_stays at_most_one (λ x y xs. refl) d.0 (reordered_parts environment_in r) d.1) d.2;
      clocks = c.1;
      clocks_once = sym (names_apart c.2) ∙ s.clocks_once;
      header = sym (header_alike (known_of m.order m.clocks) (known_of m.order c.0) known s.trace) ∙ s.header;
      streams =
          sym (streams_alike (known_of m.order m.clocks) (known_of m.order c.0) cs known)
          ∙ streams_stay (known_of m.order m.clocks) bs cs m.streams (reordered_parts stream_in r) (reordered_parts event_in r) s.streams;
    } in
    (n, text_says cs n says, record { clocks = c.2; others = refl })
