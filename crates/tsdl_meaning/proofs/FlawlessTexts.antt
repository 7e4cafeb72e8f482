-- Blocks without a flaw, one behind the other, and the metadata that they mean.
use Rattle.std.proofs.Common.{◌≡◌, ℕ, ◌==◌, Bool, true, false, cond, ◌&&◌, ◌||◌, List, ◌∷◌, ◌++◌, Contains, Option, Some, None, refl, sym, ap, subst, ◌∙◌, inl, inr, arith, []}
use Rattle.std.proofs.lemmas.Bool.Decides.{nat_tests}
use Rattle.std.proofs.lemmas.List.Elements.{Contains-append_right}
use Rattle.tsdl_meaning.proofs.TextWords.{AddsBlock, AddsClock, AddsStream, AllByRecursion, BTreeMap, BTreeSet, Block, ClockType, ContainsKey, EnvironmentEntry, Event, Global, HaveStreams, IsEmpty, IsFlawlessBehind, Item, Known, LacksSizes, Ledger, MeanEntries, NamedFact, SaysMetadata, Stream, String, Surveys, and_from, and_true, append-nil, at_most_one, bytes_eq, bytes_eq-Decides, cases_Bool, clock_meaning, contains, contains_text, each, environment_in, environment_meaning, eqb-true, event_in, event_meaning, events_of, flat_map, has_sizes, have_streams, header_meaning, list_all, list_any, nat_cmp, no_two, only, or_left, or_right, pair_cmp, stream_in, stream_meaning, streams_meaning, text_meta, trace_in, with_events, ◌>>=◌, false_from_ne_true, eq-eqb}
use Rattle.std.proofs.lemmas.List.Folds.{list_all-append, list_any-append}
use Rattle.ctf_types.specs.declared.Metadata.{Metadata}
use Rattle.tsdl_grammar.specs.declared.tree.Block.TheVariants as blocks
use Rattle.tsdl_grammar.specs.Denotes.{clock_in}
use Rattle.tsdl_grammar.proofs.MeaningParts.{text_says}
use Rattle.tsdl_meaning.specs.FlawlessTexts.{AddsEvent}
use Rattle.tsdl_meaning.proofs.DistinctKeys.{no_two_seen}
use Rattle.tsdl_meaning.proofs.FlawlessItems.{all_more, all_weaker, flat_more, no_two_more}
use Rattle.tsdl_meaning.proofs.FlawlessFacts.{each_more, no_facts, facts_mean}
use Rattle.tsdl_meaning.proofs.FlawlessBlocks.{TraceOf, ClockOf, StreamOf, EventOf, trace_means, clock_means, stream_means, event_means}
use Rattle.tsdl_meaning.proofs.NumberOrder.{numbers_order}

module _ {A B : Type 0} (f : A → Option B) (same : B → B → Bool) where
  -- what these mean, no two of them the same, and each is noted
  pub record Collected (IsNoted : B → Type 0) (all : List A) : Type 0 where
    pub made : List B
    pub mean : each f all ≡ Some made
    pub once : no_two same made ≡ true
    pub noted : AllByRecursion IsNoted made

  collected_more : (WasNoted IsNoted : B → Type 0) (all : List A) (x : A) (y : B) → Collected WasNoted all → f x ≡ Some y → ((z : B) → WasNoted z → same z y ≡ false) → ((z : B) → WasNoted z → IsNoted z) → IsNoted y
      → Collected IsNoted (all ++ x ∷ [])
  collected_more WasNoted IsNoted all x y s means other stays new = record {
    made = s.made ++ y ∷ [];
    mean = each_more f all s.made x y s.mean means;
    once = no_two_more same s.made y (all_weaker WasNoted (λ z. same z y ≡ false) s.made other s.noted) s.once;
    noted = all_more IsNoted s.made y (all_weaker WasNoted IsNoted s.made stays s.noted) new;
  }

-- ---- clocks

abbrev pub same_name : ClockType → ClockType → Bool
same_name c d = bytes_eq c.name d.name

abbrev pub Clocks : BTreeSet (String Global) → List (List Item) → Type 0
Clocks names all = Collected clock_meaning same_name (λ c. contains_text names c.name ≡ true) all

other_than : {A : Type 0} (there : A → Bool) (same : A → A → Bool) → ((x y : A) → same x y ≡ true → x ≡ y) → (x y : A) → there x ≡ true → there y ≡ false → same x y ≡ false
other_than there same is x y old fresh = false_from_ne_true (same x y) (λ e. let alike : there x ≡ there y = ap there (is x y e) in cc)

clock_more : (ledger after : Ledger) (all : List (List Item)) (is : List Item) → ClockOf ledger is → Clocks ledger.clocks all → (adds : AddsClock ledger is after) → Clocks adds.clocks (all ++ is ∷ [])
clock_more ledger after all is c s adds =
    let added = adds.added c.clock.name c.named in
    collected_more clock_meaning same_name (λ x. contains_text ledger.clocks x.name ≡ true) (λ x. contains_text adds.clocks x.name ≡ true) all is c.clock s c.means
    (λ x there. other_than (contains_text ledger.clocks) bytes_eq (λ v w. (bytes_eq-Decides v w).0) x.name c.clock.name there c.anew)
    (λ x there. grind (arith, added x.name, there))
    (added c.clock.name ∙ ap (λ (b : Bool). cond b true (contains_text ledger.clocks c.clock.name)) ((bytes_eq-Decides c.clock.name c.clock.name).1 refl))

-- ---- streams

abbrev pub same_id : Stream → Stream → Bool
same_id s t = s.id == t.id

pub record Streams (known : Known) (numbers : BTreeSet ℕ) (all : List (List Item)) : Type 0 where
  pub found : Collected (stream_meaning known) same_id (λ s. contains nat_cmp numbers s.id ≡ true) all
  pub there : (n : ℕ) → contains nat_cmp numbers n ≡ true → list_any (λ s. s.id == n) found.made ≡ true

stream_more : (known : Known) (ledger after : Ledger) (all : List (List Item)) (is : List Item) → StreamOf known ledger is → (adds : AddsStream ledger is after)
    → (list_all has_sizes all ≡ true → Streams known ledger.streams all) → list_all has_sizes (all ++ is ∷ []) ≡ true → Streams known adds.streams (all ++ is ∷ [])
unfolding collected_more
stream_more known ledger after all is o adds before sized =
    let both : (list_all has_sizes all && (has_sizes is && true)) ≡ true = sym (list_all-append has_sizes all (is ∷ [])) ∙ sized in
    let s = before (and_true (list_all has_sizes all) (has_sizes is && true) both).0 in
    let one = o.means (and_true (has_sizes is) true (and_true (list_all has_sizes all) (has_sizes is && true) both).1).0 in
    let stream = one.0 in
    let added = adds.added o.id o.numbered in
    record {
      found =
          collected_more (stream_meaning known) same_id (λ x. contains nat_cmp ledger.streams x.id ≡ true) (λ x. contains nat_cmp adds.streams x.id ≡ true) all is stream s.found one.1
          (λ x there. other_than (contains nat_cmp ledger.streams) (λ m n. m == n) eqb-true x.id stream.id there (ap (contains nat_cmp ledger.streams) one.2 ∙ o.anew))
          (λ x there. (added x.id).1 (inr there)) ((added stream.id).1 (inl one.2));
      there = λ n h.
          list_any-append (λ x. x.id == n) s.found.made (stream ∷ [])
          ∙ elim ((added n).0 h) [
            | inl e ↦ or_right (list_any (λ x. x.id == n) s.found.made) ((stream.id == n) || false)
                (or_left (stream.id == n) false (ap (λ (m : ℕ). stream.id == m) (e ∙ sym one.2) ∙ eq-eqb stream.id stream.id refl))
            | inr old ↦ or_left (list_any (λ x. x.id == n) s.found.made) ((stream.id == n) || false) (s.there n old)
          ];
    }

-- ---- events

-- events of the same numbers
abbrev pub same_key : ℕ × Event → ℕ × Event → Bool
same_key e f = (e.0 == f.0) && (e.1.id == f.1.id)

abbrev pub Events : Known → BTreeMap (ℕ × ℕ) (String Global) → List (List Item) → Type 0
Events known keys all = Collected (event_meaning known) same_key (λ e. ContainsKey pair_cmp keys (e.0, e.1.id)) all

other_key : (keys : BTreeMap (ℕ × ℕ) (String Global)) (e f : ℕ × Event) → ContainsKey pair_cmp keys (e.0, e.1.id) → (ContainsKey pair_cmp keys (f.0, f.1.id) → ⊥) → same_key e f ≡ false
other_key keys e f there fresh = grind (arith, nat_tests, there, fresh)

event_more : (known : Known) (ledger after : Ledger) (all : List (List Item)) (is : List Item) → EventOf known ledger is → Events known ledger.events all → (adds : AddsEvent ledger is after)
    → Events known adds.events (all ++ is ∷ [])
event_more known ledger after all is o s adds =
    let one : ℕ × Event = (o.stream, o.event) in
    let added = adds.added o.event.name o.stream o.event.id o.named o.numbers in
    collected_more (event_meaning known) same_key (λ e. ContainsKey pair_cmp ledger.events (e.0, e.1.id)) (λ e. ContainsKey pair_cmp adds.events (e.0, e.1.id)) all is one s o.means
    (λ e there. other_key ledger.events e one there o.anew) (λ e there. added.1 (e.0, e.1.id) there) added.0

-- ---- blocks

-- there is one item where it was seen
abbrev pub IsSeen : {A : Type 0} → Bool → List A → Type 0
IsSeen false xs = xs ≡ []
IsSeen {A} true xs = (x : A) × (xs ≡ x ∷ [])

first_seen : {A : Type 0} (b : Bool) (xs : List A) (x : A) → b ≡ false → IsSeen b xs → IsSeen true (xs ++ x ∷ [])
first_seen true xs x e s = absurd cc
first_seen {A} false xs x e s = (x, ap (λ (l : List A). l ++ x ∷ []) s)

pub record Parts (known : Known) (ledger : Ledger) (traces streams events clocks : List (List Item)) (environments : List (List NamedFact)) : Type 0 where
  pub trace_seen : IsSeen ledger.has_trace traces
  pub trace : AllByRecursion (TraceOf known) traces
  pub environment_seen : IsSeen ledger.has_environment environments
  pub environment : AllByRecursion MeanEntries environments
  pub clocks_mean : Clocks ledger.clocks clocks
  pub streams_mean : list_all has_sizes streams ≡ true → Streams known ledger.streams streams
  pub events_mean : Events known ledger.events events

abbrev pub Text : Known → Ledger → List Block → Type 0
Text known ledger bs = Parts known ledger (flat_map trace_in bs) (flat_map stream_in bs) (flat_map event_in bs) (flat_map clock_in bs) (flat_map environment_in bs)

abbrev Next : Known → Ledger → List Block → Block → Type 0
Next known ledger bs b =
    Parts known ledger (flat_map trace_in bs ++ trace_in b) (flat_map stream_in bs ++ stream_in b) (flat_map event_in bs ++ event_in b) (flat_map clock_in bs ++ clock_in b) (flat_map environment_in bs ++ environment_in b)

next : (known : Known) (ledger after : Ledger) (bs : List Block) (b : Block) → Text known ledger bs → IsFlawlessBehind known ledger b → AddsBlock ledger b after → Next known after bs b
next known ledger after bs (blocks.Trace is) s f adds =
    subst (λ (l : Ledger). Next known l bs (blocks.Trace is)) (sym adds)
    (rw (append-nil (flat_map stream_in bs), append-nil (flat_map event_in bs), append-nil (flat_map clock_in bs), append-nil (flat_map environment_in bs))
    (record { trace_seen = first_seen ledger.has_trace (flat_map trace_in bs) is f.0 s.trace_seen; trace = all_more (TraceOf known) (flat_map trace_in bs) is s.trace (trace_means known ledger is f.1); environment_seen = s.environment_seen; environment = s.environment; clocks_mean = s.clocks_mean; streams_mean = s.streams_mean; events_mean = s.events_mean }))
next known ledger after bs (blocks.Stream is) s f adds =
    subst (λ (l : Ledger). Next known l bs (blocks.Stream is)) (sym adds.others)
    (rw (append-nil (flat_map trace_in bs), append-nil (flat_map event_in bs), append-nil (flat_map clock_in bs), append-nil (flat_map environment_in bs))
    (record { trace_seen = s.trace_seen; trace = s.trace; environment_seen = s.environment_seen; environment = s.environment; clocks_mean = s.clocks_mean; streams_mean = stream_more known ledger after (flat_map stream_in bs) is (stream_means known ledger is f) adds s.streams_mean; events_mean = s.events_mean }))
next known ledger after bs (blocks.Event is) s f adds =
    subst (λ (l : Ledger). Next known l bs (blocks.Event is)) (sym adds.others)
    (rw (append-nil (flat_map trace_in bs), append-nil (flat_map stream_in bs), append-nil (flat_map clock_in bs), append-nil (flat_map environment_in bs))
    (record { trace_seen = s.trace_seen; trace = s.trace; environment_seen = s.environment_seen; environment = s.environment; clocks_mean = s.clocks_mean; streams_mean = s.streams_mean; events_mean = event_more known ledger after (flat_map event_in bs) is (event_means known ledger is f) s.events_mean adds }))
next known ledger after bs (blocks.Clock is) s f adds =
    subst (λ (l : Ledger). Next known l bs (blocks.Clock is)) (sym adds.others)
    (rw (append-nil (flat_map trace_in bs), append-nil (flat_map stream_in bs), append-nil (flat_map event_in bs), append-nil (flat_map environment_in bs))
    (record { trace_seen = s.trace_seen; trace = s.trace; environment_seen = s.environment_seen; environment = s.environment; clocks_mean = clock_more ledger after (flat_map clock_in bs) is (clock_means known ledger is f) s.clocks_mean adds; streams_mean = s.streams_mean; events_mean = s.events_mean }))
next known ledger after bs (blocks.Environment facts) s f adds =
    subst (λ (l : Ledger). Next known l bs (blocks.Environment facts)) (sym adds)
    (rw (append-nil (flat_map trace_in bs), append-nil (flat_map stream_in bs), append-nil (flat_map event_in bs), append-nil (flat_map clock_in bs))
    (record { trace_seen = s.trace_seen; trace = s.trace; environment_seen = first_seen ledger.has_environment (flat_map environment_in bs) facts f.0 s.environment_seen; environment = all_more MeanEntries (flat_map environment_in bs) facts s.environment f.1; clocks_mean = s.clocks_mean; streams_mean = s.streams_mean; events_mean = s.events_mean }))

pub block_more : (known : Known) (ledger after : Ledger) (bs : List Block) (b : Block) → Text known ledger bs → IsFlawlessBehind known ledger b → AddsBlock ledger b after → Text known after (bs ++ b ∷ [])
block_more known ledger after bs b s f adds =
    rw (flat_more trace_in bs b, flat_more stream_in bs b, flat_more event_in bs b, flat_more clock_in bs b, flat_more environment_in bs b) (next known ledger after bs b s f adds)

pub no_blocks : (known : Known) (ledger : Ledger) → IsEmpty ledger → Text known ledger []
no_blocks known ledger e = record {
  trace_seen = subst (λ (b : Bool). IsSeen {A = List Item} b []) (sym e.trace) refl;
  trace = tt;
  environment_seen = subst (λ (b : Bool). IsSeen {A = List NamedFact} b []) (sym e.environment) refl;
  environment = tt;
  clocks_mean = record { made = []; mean = refl; once = refl; noted = tt };
  streams_mean = λ sized. record { found = record { made = []; mean = refl; once = refl; noted = tt }; there = λ n h. absurd (let none = e.streams n in cc) };
  events_mean = record { made = []; mean = refl; once = refl; noted = tt };
}

-- ---- the streams with their events

none_of : (id : ℕ) (e : ℕ × Event) (es : List (ℕ × Event)) → e.0 ≡ id → list_any (same_key e) es ≡ false → list_any (λ x. e.1.id == x.id) (events_of id es) ≡ false
none_of id e [] is none = refl
none_of id e (f ∷ es) is none = grind (arith, nat_tests, none_of id e es is, is, none)

own_once : (id : ℕ) (es : List (ℕ × Event)) → no_two same_key es ≡ true → no_two (λ x y. x.id == y.id) (events_of id es) ≡ true
own_once id [] d = refl
own_once id (e ∷ es) d = grind (arith, nat_tests, none_of id e es, own_once id es, d)

each_is : {A B : Type 0} (f : A → Option B) (xs : List A) → ((x : A) → (y : B) × (f x ≡ Some y)) → (ys : List B) × (each f xs ≡ Some ys)
each_is f [] g = ([], refl)
each_is f (x ∷ xs) g = let y = g x in let rest = each_is f xs g in (y.0 ∷ rest.0, rw (y.1, rest.1) refl)

has_events : (es : List (ℕ × Event)) → no_two same_key es ≡ true → (s : Stream) → (t : Stream) × (with_events es s ≡ Some t)
has_events es d s =
    let own = numbers_order (λ e. e.id) (events_of s.id es) (own_once s.id es d) in (record s { events = own.items }, rw own.is refl)

all_true : {A : Type 0} (f : A → Bool) (P : A → Type 0) (xs : List A) → ((x : A) → P x → f x ≡ true) → AllByRecursion P xs → list_all f xs ≡ true
all_true f P [] g all = refl
all_true f P (x ∷ xs) g all = and_from (f x) (list_all f xs) (g x all.0) (all_true f P xs g all.1)

streams_are : (known : Known) (ledger : Ledger) (bs : List Block) → Streams known ledger.streams (flat_map stream_in bs) → Events known ledger.events (flat_map event_in bs) → HaveStreams ledger
    → (ss : List Stream) × (streams_meaning known bs ≡ Some ss)
unfolding streams_meaning
streams_are known ledger bs s e have =
    let ordered = numbers_order (λ x. x.id) s.found.made s.found.once in
    let streams = ordered.items in
    let all : have_streams streams e.made ≡ true =
    all_true (λ x. list_any (λ t. t.id == x.0) streams) (λ x. ContainsKey pair_cmp ledger.events (x.0, x.1.id)) e.made
    (λ x there. ordered.same (λ t. t.id == x.0) ∙ s.there x.0 (have (x.0, x.1.id) there)) e.noted
    in
    let made = each_is (with_events e.made) streams (has_events e.made e.once) in (made.0, rw (s.found.mean, ordered.is, e.mean, all) made.1)

-- ---- the whole text

environment_is : (b : Bool) (xs : List (List NamedFact)) → IsSeen b xs → AllByRecursion MeanEntries xs → (es : List EnvironmentEntry) × ((at_most_one xs >>= environment_meaning) ≡ Some es)
environment_is false xs seen all =
    let none = facts_mean [] no_facts in
    (none.0, ap (λ (l : List (List NamedFact)). at_most_one l >>= environment_meaning) seen ∙ none.1)
environment_is true xs seen all =
    let one = subst (AllByRecursion MeanEntries) seen.1 all in
    (one.0.0, ap (λ (l : List (List NamedFact)). at_most_one l >>= environment_meaning) seen.1 ∙ one.0.1)

-- blocks without a flaw mean metadata, where there is a trace, each event has its stream and each stream its sizes
text_means : (known : Known) (ledger : Ledger) (bs : List Block) → Text known ledger bs → ledger.has_trace ≡ true → HaveStreams ledger → Surveys known bs → list_all has_sizes (flat_map stream_in bs) ≡ true
    → (m : Metadata) × (text_meta bs ≡ Some m)
text_means known ledger bs s traced have surveys sized =
    let seen = subst (λ (b : Bool). IsSeen b (flat_map trace_in bs)) traced s.trace_seen in
    let trace = (subst (AllByRecursion (TraceOf known)) seen.1 s.trace).0 in
    let environment = environment_is ledger.has_environment (flat_map environment_in bs) s.environment_seen s.environment in
    let clocks = s.clocks_mean in
    let one_trace : only (flat_map trace_in bs) ≡ Some seen.0 = ap only seen.1 in
    let same = surveys seen.0 trace.order clocks.made one_trace trace.ordered clocks.mean in
    let streams = streams_are known ledger bs (s.streams_mean sized) s.events_mean have in
    let m : Metadata = record { order = trace.order; uuid = trace.uuid; environment = environment.0; clocks = clocks.made; header = trace.header; streams = streams.0 } in
    let says : SaysMetadata bs m = record {
      trace = seen.0;
      one_trace = one_trace;
      version = trace.version;
      order = trace.ordered;
      uuid = trace.identified;
      environment = environment.1;
      clocks = clocks.mean;
      clocks_once = sym (no_two_seen same_name bytes_eq (λ c. c.name) clocks.made (λ x y. refl)) ∙ clocks.once;
      header = subst (λ (k : Known). header_meaning k seen.0 ≡ Some trace.header) same trace.headed;
      streams = subst (λ (k : Known). streams_meaning k bs ≡ Some streams.0) same streams.1;
    } in
    (m, text_says bs m says)

lacking : (xs : List (List Item)) → list_all has_sizes xs ≡ false → (x : List Item) × Contains xs x × (has_sizes x ≡ false)
lacking [] e = absurd cc
lacking (x ∷ xs) e =
    elim (cases_Bool (has_sizes x)) [
      | inl t ↦
          let later : list_all has_sizes xs ≡ false = sym (ap (λ (b : Bool). b && list_all has_sizes xs) t) ∙ e in
          let l = lacking xs later in
          (l.0, Contains-append_right (x ∷ []) xs l.0 l.1, l.2)
      | inr f ↦ (x, (0, omega arith, refl), f)
    ]

-- where they mean nothing all the same, a stream lacks a size
pub sizes_missed : (known : Known) (ledger : Ledger) (bs : List Block) → Text known ledger bs → ledger.has_trace ≡ true → HaveStreams ledger → Surveys known bs → text_meta bs ≡ None → LacksSizes bs
sizes_missed known ledger bs s traced have surveys none =
    elim (cases_Bool (list_all has_sizes (flat_map stream_in bs))) [
      | inl sized ↦ (let m = text_means known ledger bs s traced have surveys sized in let never : None ≡ Some m.0 = sym none ∙ m.1 in absurd cc)
      | inr not_all ↦ (let l = lacking (flat_map stream_in bs) not_all in record { stream = l.0; there = l.1; lacks = l.2 })
    ]
