-- Blocks that are numbered in their order: what stands in them, and that by their numbers they keep it.
use Rattle.tsdl_writer.proofs.TreeWords.{Event, EventType, List, Option, Some, Stream, StreamType, [], append-nil, arith, by_number, each, eqb, event_of, flat_map, have_streams, length, list_any, lt-ltb, ltb, map, nat_tests, numbered, refl, stream_of, streams_of, true, with_events, ℕ, ◌++◌, ◌+◌, ◌<◌, ◌∙◌, ◌∷◌, ◌≡◌, ◌≤◌}
use Rattle.std.specs.Prelude.{if◌then◌else◌}
use Rattle.std.proofs.lemmas.List.Folds.{list_all-append}
use Rattle.ctf_types.specs.MetadataOf as meta
use Rattle.tsdl_grammar.specs.Denotes as denotes

pub each-append : {A B : Type 0} (f : A → Option B) (xs ys : List A) (us vs : List B) → each f xs ≡ Some us → each f ys ≡ Some vs → each f (xs ++ ys) ≡ Some (us ++ vs)
each-append f [] ys us vs p q = grind (arith, p, q)
each-append f (x ∷ xs) ys us vs p q = grind (arith, each-append f xs ys, p, q)

pub none_taken : {A B C : Type 0} (f : B → List C) (g : A → B) (xs : List A) → ((x : A) → f (g x) ≡ []) → flat_map f (map g xs) ≡ []
none_taken f g [] h = refl
none_taken f g (x ∷ xs) h = rw (h x, none_taken f g xs h) refl

-- the streams of a configuration, without their events
unfoldable pub bare : ℕ → StreamType → Stream
bare n s = record (stream_of n s) { events = [] }

abbrev pub bares : ℕ → List StreamType → List Stream
bares n ss = numbered (λ id s. bare id s ∷ []) n ss

-- the events of a configuration, with the numbers of their streams
abbrev pub tagged : ℕ → List Event → List (ℕ × Event)
tagged n es = map (λ e. (n, e)) es

abbrev pub all_tagged : ℕ → List StreamType → List (ℕ × Event)
all_tagged n ss = numbered (λ stream s. tagged stream (meta.events_of 0 s.events)) n ss

pub bares_by_number : (n : ℕ) (ss : List StreamType) → by_number (λ s. s.id) (bares n ss) ≡ Some (bares n ss)
unfolding bare stream_of
bares_by_number n [] = refl
bares_by_number n (s ∷ []) = refl
bares_by_number n (s ∷ t ∷ ss) = let below : ltb n (n + 1) ≡ true = lt-ltb n (n + 1) (omega arith) in rw (bares_by_number (n + 1) (t ∷ ss), below) refl

events_by_number : (n : ℕ) (es : List EventType) → by_number (λ e. e.id) (meta.events_of n es) ≡ Some (meta.events_of n es)
unfolding meta.events_of event_of
events_by_number n [] = refl
events_by_number n (e ∷ []) = refl
events_by_number n (e ∷ f ∷ es) = let below : ltb n (n + 1) ≡ true = lt-ltb n (n + 1) (omega arith) in rw (events_by_number (n + 1) (f ∷ es), below) refl

stream_there : (n k : ℕ) (ss : List StreamType) → n ≤ k → k < n + length ss → list_any (λ (s : Stream). eqb s.id k) (bares n ss) ≡ true
unfolding bare stream_of
stream_there n k [] low high = absurd (omega arith)
stream_there n k (s ∷ ss) low high = grind (arith, nat_tests, stream_there (n + 1) k ss)

tagged_have : (streams : List Stream) (n : ℕ) (es : List Event) → list_any (λ (s : Stream). eqb s.id n) streams ≡ true → have_streams streams (tagged n es) ≡ true
tagged_have streams n [] h = refl
tagged_have streams n (e ∷ es) h = rw (h, tagged_have streams n es h) refl

pub all_have : (all : List StreamType) (n : ℕ) (ss : List StreamType) → n + length ss ≤ length all → have_streams (bares 0 all) (all_tagged n ss) ≡ true
all_have all n [] h = refl
all_have all n (s ∷ ss) h =
    let events = meta.events_of 0 s.events in
    list_all-append (λ (e : ℕ × Event). list_any (λ (s : Stream). eqb s.id e.0) (bares 0 all)) (tagged n events) (all_tagged (n + 1) ss)
    ∙ rw (tagged_have (bares 0 all) n events (stream_there 0 n all (omega arith) (omega arith)), all_have all (n + 1) ss (omega arith)) refl

picked-append : (k : ℕ) (xs ys : List (ℕ × Event)) → denotes.events_of k (xs ++ ys) ≡ denotes.events_of k xs ++ denotes.events_of k ys
picked-append k [] ys = refl
picked-append k (x ∷ xs) ys = grind (arith, picked-append k xs ys)

picked : (k n : ℕ) (es : List Event) → denotes.events_of k (tagged n es) ≡ (if eqb n k then es else [])
picked k n [] = grind arith
picked k n (e ∷ es) = grind (arith, picked k n es)

picked_none : (k n : ℕ) (ss : List StreamType) → k < n → denotes.events_of k (all_tagged n ss) ≡ []
picked_none k n [] h = refl
picked_none k n (s ∷ ss) h = grind (arith, nat_tests, picked-append k (tagged n (meta.events_of 0 s.events)) (all_tagged (n + 1) ss), picked k n (meta.events_of 0 s.events), picked_none k (n + 1) ss)

pub each_with : (events : List (ℕ × Event)) (n : ℕ) (ss : List StreamType) → ((k : ℕ) → n ≤ k → denotes.events_of k events ≡ denotes.events_of k (all_tagged n ss))
    → each (with_events events) (bares n ss) ≡ Some (streams_of n ss)
unfolding streams_of bare stream_of
each_with events n [] h = refl
each_with events n (s ∷ ss) h =
    let es = meta.events_of 0 s.events in
    let split : (k : ℕ) → denotes.events_of k (all_tagged n (s ∷ ss)) ≡ denotes.events_of k (tagged n es) ++ denotes.events_of k (all_tagged (n + 1) ss) = λ k. picked-append k (tagged n es) (all_tagged (n + 1) ss) in
    let own : denotes.events_of n events ≡ es = grind (arith, nat_tests, h n, split n, picked n n es, picked_none n (n + 1) ss, append-nil es) in
    let rest = each_with events (n + 1) ss (λ k le. grind (arith, nat_tests, h k, split k, picked k n es, le)) in
    rw (own, events_by_number 0 s.events, rest) refl
