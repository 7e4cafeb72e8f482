-- The streams of a text stand by number, and so do the events of each.
use Rattle.std.proofs.Common.{◌≡◌, ℕ, List, Some, refl, subst, flat_map}
use Rattle.std.specs.List.{AllByRecursion}
use Rattle.std.proofs.lemmas.Option.{same_Some}
use Rattle.ctf_types.specs.{declared.Stream.Stream, declared.Event.Event}
use Rattle.tsdl_grammar.specs.declared.tree.Block.{Block}
use Rattle.tsdl_grammar.specs.{IntegerMeaning.Known, BlockMeaning.{stream_meaning, event_meaning}, Laws.NumbersRise}
use Rattle.tsdl_grammar.specs.Steps.{◌>>=◌, provided, each, by_number}
use Rattle.tsdl_grammar.specs.Denotes.{stream_in, event_in, events_of, with_events, have_streams, streams_meaning}
use Rattle.tsdl_grammar.proofs.Inversion.{bind_some, provided_some, by_number-rises, each-rises, each-all}

with_events-keeps : (events : List (ℕ × Event)) (s t : Stream) → with_events events s ≡ Some t → (t.id ≡ s.id) × NumbersRise (λ e. e.id) t.events
with_events-keeps events s t e =
    let a = bind_some (by_number (λ x. x.id) (events_of s.id events)) (λ es. Some (record s { events = es })) t e in
    let made : Stream = record s { events = a.0 } in
    subst (λ (u : Stream). (u.id ≡ s.id) × NumbersRise (λ x. x.id) u.events) (same_Some made t a.2)
    (refl, by_number-rises (λ x. x.id) (events_of s.id events) a.0 a.1)

pub streams_stand_by_number : (known : Known) (bs : List Block) (streams : List Stream) → streams_meaning known bs ≡ Some streams
    → NumbersRise (λ s. s.id) streams × AllByRecursion (λ s. NumbersRise (λ e. e.id) s.events) streams
unfolding streams_meaning
streams_stand_by_number known bs streams e =
    let a = bind_some (each (stream_meaning known) (flat_map stream_in bs)) (λ found. by_number (λ s. s.id) found >>= λ ss. each (event_meaning known) (flat_map event_in bs) >>= λ events. provided (have_streams ss events) (each (with_events events) ss)) streams e in
    let b = bind_some (by_number (λ s. s.id) a.0) (λ ss. each (event_meaning known) (flat_map event_in bs) >>= λ events. provided (have_streams ss events) (each (with_events events) ss)) streams a.2 in
    let c = bind_some (each (event_meaning known) (flat_map event_in bs)) (λ events. provided (have_streams b.0 events) (each (with_events events) b.0)) streams b.2 in
    let d = provided_some (have_streams b.0 c.0) (each (with_events c.0) b.0) streams c.2 in (
      (each-rises (with_events c.0) (λ s. s.id) (λ s. s.id) (λ x y h. (with_events-keeps c.0 x y h).0) b.0 streams d.1 (by_number-rises (λ s. s.id) a.0 b.0 b.1)).0,
      each-all (with_events c.0) (λ s. NumbersRise (λ e. e.id) s.events) (λ x y h. (with_events-keeps c.0 x y h).1) b.0 streams d.1,
    )
