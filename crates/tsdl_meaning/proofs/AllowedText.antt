-- What a text means is metadata that the rules allow: its streams, and all of it.
use Rattle.std.proofs.Common.{◌≡◌, ℕ, ◌<◌, true, false, IsTrue, List, ◌∷◌, map, All, Some, refl, sym, subst, arith, codes, nat_cmp, Less, ◌≤◌, ◌&&◌, length, []}
use Rattle.tsdl_meaning.proofs.TextWords.{AllByRecursion, Block, Denotes, EnvironmentEntry, Event, IsDistinct, IsEvent, IsIdentity, IsMagic, IsMetadata, IsMetadataName, IsStream, IsUnsigned, Item, Known, MAX_ENVIRONMENT, MemberType, NamedFact, NumbersRise, Stream, and_true, at_most_one, bind_some, block_and_semicolon, block_toks, braced, by_number, by_number-rises, bytes_eq, clock_names, each, environment_in, environment_meaning, event_context, event_header, event_in, event_meaning, events_of, fields_scope, flat_map, has_member, have_streams, header_meaning, insert_numbered, is_unsigned_of, is_uuid, items_toks, known_of, leb-true, list_any, mark, named_fact_meaning, named_fact_toks, nat_cmp_is, nat_le, no_two, only, or_parts, own_names, packet_context, packet_header, provided, provided_some, some_same, specific_context, stream_in, stream_meaning, streams_meaning, suits, suits_header, text_meta, text_toks, trace_in, with_events, ◌>>=◌}
use Rattle.std.specs.List.Sorted.{IsStrictlySortedBy}
use Rattle.std.proofs.lemmas.Bool.Decides.{nat_tests}
use Rattle.std.proofs.lemmas.List.Elements.{All-from_recursion}
use Rattle.tsdl_grammar.proofs.BlockParts.{says_stream, says_event}
use Rattle.tsdl_meaning.proofs.GoodAtoms.{AreGood, IsGood, all_front, good_atoms}
use Rattle.tsdl_meaning.proofs.AllowedTypes.{each_keeps, all_spelled, inside, scope_allowed, unsigned, each_has, at_name}
use Rattle.tsdl_meaning.proofs.MemberNames.{member_says}
use Rattle.ctf_types.specs.declared.Metadata.{Metadata}
use Rattle.tsdl_grammar.specs.declared.token.Mark.TheVariants as marks
use Rattle.tsdl_grammar.proofs.MeaningParts.{says_metadata}
use Rattle.tsdl_grammar.proofs.StreamParts.{streams_stand_by_number}

-- ---- in the order of numbers

insert_all : {A : Type 0} (P : A → Type 0) (number : A → ℕ) (x : A) (xs ys : List A) → P x → AllByRecursion P xs → insert_numbered number x xs ≡ Some ys → AllByRecursion P ys
insert_all P number x [] ys p all e = grind (arith, p, e)
insert_all P number x (y ∷ xs) ys p all e = grind (arith, insert_all P number x xs, p, all, e)

by_number_all : {A : Type 0} (P : A → Type 0) (number : A → ℕ) (xs ys : List A) → AllByRecursion P xs → by_number number xs ≡ Some ys → AllByRecursion P ys
by_number_all P number [] ys all e = grind (arith, e)
by_number_all P number (x ∷ xs) ys all e =
    let a = bind_some (by_number number xs) (λ zs. insert_numbered number x zs) ys e in
    insert_all P number x a.0 ys all.0 (by_number_all P number xs a.0 all.1 a.1) a.2

above_all : {A : Type 0} (number : A → ℕ) (n : ℕ) (x : A) (xs : List A) → n < number x → NumbersRise number (x ∷ xs)
    → AllByRecursion (λ k. nat_cmp n k ≡ Less) (map number (x ∷ xs))
above_all number n x [] h r = (sym (nat_cmp_is n (number x) Less h), tt)
above_all number n x (y ∷ xs) h r = (sym (nat_cmp_is n (number x) Less h), above_all number n y xs (omega (arith, r.0)) r.1)

-- numbers that rise are in order
pub sorted : {A : Type 0} (number : A → ℕ) (xs : List A) → NumbersRise number xs → IsStrictlySortedBy nat_cmp (map number xs)
unfolding IsStrictlySortedBy
sorted number [] r = tt
sorted number (x ∷ []) r = (tt, tt)
sorted number (x ∷ y ∷ xs) r = (above_all number (number x) y xs r.0 r.1, sorted number (y ∷ xs) r.1)

-- ---- events

event_allowed : (known : Known) (is : List Item) (e : ℕ × Event) → AreGood (items_toks is) → event_meaning known is ≡ Some e → IsEvent known.clocks e.1
event_allowed known is e g h =
    let says = says_event known is e h in
    record {
      specific = (scope_allowed known specific_context (λ m. true) is e.1.specific g says.specific).0;
      fields = (scope_allowed known fields_scope (λ m. true) is e.1.fields g says.fields).0;
    }

own_all : (P : Event → Type 0) (id : ℕ) (es : List (ℕ × Event)) → AllByRecursion (λ e. P e.1) es → AllByRecursion P (events_of id es)
own_all P id [] all = tt
own_all P id (e ∷ es) all = grind (arith, own_all P id es, all)

-- ---- streams

-- a stream that the rules allow with any events that they allow, in the order of their numbers
abbrev IsHead : List (List ℕ) → Stream → Type 0
IsHead clocks s =
    (es : List Event) → AllByRecursion (IsEvent clocks) es → NumbersRise (λ e. e.id) es → IsStream clocks (record s { events = es })

own_unsigned : (m : List ℕ × MemberType) → suits own_names m ≡ true → IsTrue (list_any (bytes_eq m.0) own_names) → IsUnsigned m.1
own_unsigned m h own = unsigned m.1 (grind (arith, h, own))

id_unsigned : (m : List ℕ × MemberType) → suits (codes "id" ∷ []) m ≡ true → bytes_eq m.0 (codes "id") ≡ true → IsUnsigned m.1
id_unsigned m h e = unsigned m.1 (at_name (suits (codes "id" ∷ [])) (codes "id") m h e)

head_allowed : (known : Known) (is : List Item) (s : Stream) → AreGood (items_toks is) → stream_meaning known is ≡ Some s → IsHead known.clocks s
head_allowed known is s g h = λ es all rise.
    let says = says_stream known is s h in
    let context = scope_allowed known packet_context (suits own_names) is s.context g says.context in
    let header = scope_allowed known event_header (suits (codes "id" ∷ [])) is s.event_header g says.header in
    let sizes = and_true (has_member (codes "packet_size") s.context.members) (has_member (codes "content_size") s.context.members) says.sizes in
    record {
      context = context.0;
      event_header = header.0;
      common = (scope_allowed known event_context (λ m. true) is s.common g says.common).0;
      events = All-from_recursion (IsEvent known.clocks) es all;
      event_numbers_rise = sorted (λ e. e.id) es rise;
      own_are_unsigned = each_has (suits own_names) (λ m. IsTrue (list_any (bytes_eq m.0) own_names) → IsUnsigned m.1) own_unsigned s.context.members context.1;
      packet_size = (member_says (codes "packet_size") s.context.members).0 sizes.0;
      content_size = (member_says (codes "content_size") s.context.members).0 sizes.1;
      id = each_has (suits (codes "id" ∷ [])) (λ m. bytes_eq m.0 (codes "id") ≡ true → IsUnsigned m.1) id_unsigned s.event_header.members header.1;
    }

stream_allowed : (clocks : List (List ℕ)) (events : List (ℕ × Event)) → AllByRecursion (λ e. IsEvent clocks e.1) events → (s t : Stream) → IsHead clocks s
    → with_events events s ≡ Some t → IsStream clocks t
stream_allowed clocks events all s t h e =
    let number : Event → ℕ = λ x. x.id in
    let a = bind_some (by_number number (events_of s.id events)) (λ es. Some (record s { events = es })) t e in
    let made : Stream = record s { events = a.0 } in
    let own = by_number_all (IsEvent clocks) number (events_of s.id events) a.0 (own_all (IsEvent clocks) s.id events all) a.1 in
    subst (IsStream clocks) (some_same made t (Some made) refl a.2) (h a.0 own (by_number-rises number (events_of s.id events) a.0 a.1))

pub streams_allowed : (known : Known) (bs : List Block) (streams : List Stream) → AllByRecursion (λ is. AreGood (items_toks is)) (flat_map stream_in bs)
    → AllByRecursion (λ is. AreGood (items_toks is)) (flat_map event_in bs) → streams_meaning known bs ≡ Some streams → AllByRecursion (IsStream known.clocks) streams
unfolding streams_meaning
streams_allowed known bs streams g k e =
    let a = bind_some (each (stream_meaning known) (flat_map stream_in bs)) (λ found. by_number (λ s. s.id) found >>= λ ss. each (event_meaning known) (flat_map event_in bs) >>= λ events. provided (have_streams ss events) (each (with_events events) ss)) streams e in
    let b = bind_some (by_number (λ s. s.id) a.0) (λ ss. each (event_meaning known) (flat_map event_in bs) >>= λ events. provided (have_streams ss events) (each (with_events events) ss)) streams a.2 in
    let c = bind_some (each (event_meaning known) (flat_map event_in bs)) (λ events. provided (have_streams b.0 events) (each (with_events events) b.0)) streams b.2 in
    let d = provided_some (have_streams b.0 c.0) (each (with_events c.0) b.0) streams c.2 in
    let heads = each_keeps (stream_meaning known) (λ (is : List Item). AreGood (items_toks is)) (IsHead known.clocks) (head_allowed known) (flat_map stream_in bs) a.0 g a.1 in
    let events = each_keeps (event_meaning known) (λ (is : List Item). AreGood (items_toks is)) (λ (x : ℕ × Event). IsEvent known.clocks x.1) (event_allowed known) (flat_map event_in bs) c.0 k c.1 in
    let by_numbers = by_number_all (IsHead known.clocks) (λ s. s.id) a.0 b.0 heads.0 b.1 in
    (each_keeps (with_events c.0) (IsHead known.clocks) (IsStream known.clocks) (stream_allowed known.clocks c.0 events.0) b.0 streams by_numbers d.1).0

-- ---- blocks

abbrev AllGood : List (List Item) → Type 0
AllGood iss = AllByRecursion (λ is. AreGood (items_toks is)) iss

abbrev FactsGood : List NamedFact → Type 0
FactsGood fs = AllByRecursion (λ f. AreGood (named_fact_toks f)) fs

facts_good : (fs : List NamedFact) → AreGood (braced (flat_map named_fact_toks fs)) → FactsGood fs
facts_good fs g = all_spelled named_fact_toks fs (inside (flat_map named_fact_toks fs) g)

-- what is looked for in blocks of good atoms
record BlocksGood (bs : List Block) : Type 0 where
  traces : AllGood (flat_map trace_in bs)
  streams : AllGood (flat_map stream_in bs)
  events : AllGood (flat_map event_in bs)
  environments : AllByRecursion FactsGood (flat_map environment_in bs)

blocks_good : (bs : List Block) → AllByRecursion (λ b. AreGood (block_and_semicolon b)) bs → BlocksGood bs
blocks_good [] g = record { traces = tt; streams = tt; events = tt; environments = tt }
blocks_good (b ∷ bs) g = grind (arith, all_front IsGood (block_toks b) (mark marks.Semicolon ∷ []) g.0, facts_good, blocks_good bs g.1)

only_good : {A : Type 0} (P : A → Type 0) (xs : List A) (x : A) → AllByRecursion P xs → only xs ≡ Some x → P x
only_good P xs x g e = grind (arith, g, e)

one_good : (xs : List (List NamedFact)) (fs : List NamedFact) → AllByRecursion FactsGood xs → at_most_one xs ≡ Some fs → FactsGood fs
one_good xs fs g e = grind (arith, g, e)

-- ---- names that differ

neither : (w : List ℕ) (xs : List (List ℕ)) → list_any (bytes_eq w) xs ≡ false → AllByRecursion (λ y. bytes_eq w y ≡ false) xs
neither w [] h = tt
neither w (x ∷ xs) h = let both = or_parts (bytes_eq w x) (list_any (bytes_eq w) xs) h in (both.0, neither w xs both.1)

distinct : (xs : List (List ℕ)) → no_two bytes_eq xs ≡ true → IsDistinct bytes_eq xs
unfolding IsDistinct
distinct [] h = tt
distinct (x ∷ xs) h = grind (arith, neither x xs, distinct xs, h)

-- ---- the environment

same_names : (fs : List NamedFact) (es : List EnvironmentEntry) → each named_fact_meaning fs ≡ Some es → map (λ e. e.name) es ≡ map (λ f. f.name) fs
same_names [] es h = grind (arith, h)
same_names (f ∷ fs) es h = grind (arith, same_names fs, h)

fact_names : (fs : List NamedFact) → FactsGood fs → AllByRecursion IsMetadataName (map (λ f. f.name) fs)
fact_names [] g = tt
fact_names (f ∷ fs) g = (g.0.0, fact_names fs g.1)

record AllowedEnvironment (es : List EnvironmentEntry) : Type 0 where
  names : All IsMetadataName (map (λ e. e.name) es)
  once : IsDistinct bytes_eq (map (λ e. e.name) es)
  few : length es ≤ MAX_ENVIRONMENT

environment_allowed : (fs : List NamedFact) (es : List EnvironmentEntry) → FactsGood fs → environment_meaning fs ≡ Some es → AllowedEnvironment es
unfolding environment_meaning
environment_allowed fs es g h =
    let p = provided_some (nat_le (length fs) MAX_ENVIRONMENT && no_two bytes_eq (map (λ f. f.name) fs)) (each named_fact_meaning fs) es h in
    let both = and_true (nat_le (length fs) MAX_ENVIRONMENT) (no_two bytes_eq (map (λ f. f.name) fs)) p.0 in
    let same = same_names fs es p.1 in
    let k = each_keeps named_fact_meaning (λ (f : NamedFact). AreGood (named_fact_toks f)) (λ (e : EnvironmentEntry). Unit {0}) (λ f e x y. tt) fs es g p.1 in
    record {
      names = subst (λ (ns : List (List ℕ)). All IsMetadataName ns) (sym same) (All-from_recursion IsMetadataName (map (λ f. f.name) fs) (fact_names fs g));
      once = subst (IsDistinct bytes_eq) (sym same) (distinct (map (λ f. f.name) fs) both.1);
      few = omega (arith, leb-true (length fs) MAX_ENVIRONMENT both.0, k.1);
    }

-- ---- the packet header

magic_of : (m : MemberType) → is_unsigned_of 32 m ≡ true → IsMagic m
magic_of m h = grind (arith, nat_tests, h)

identity_of : (m : MemberType) → is_uuid m ≡ true → IsIdentity m
identity_of m h = grind (arith, nat_tests, h)

-- ---- the whole

pub text_allowed : (bs : List Block) (m : Metadata) → AreGood (text_toks bs) → text_meta bs ≡ Some m → IsMetadata m
unfolding header_meaning
text_allowed bs m g h =
    let says = says_metadata bs m h in
    let known = known_of m.order m.clocks in
    let good = blocks_good bs (all_spelled block_and_semicolon bs g) in
    let a = bind_some (at_most_one (flat_map environment_in bs)) environment_meaning m.environment says.environment in
    let environment = environment_allowed a.0 m.environment (one_good (flat_map environment_in bs) a.0 good.environments a.1) a.2 in
    let trace_good = only_good (λ (is : List Item). AreGood (items_toks is)) (flat_map trace_in bs) says.trace good.traces says.one_trace in
    let header = scope_allowed known packet_header suits_header says.trace m.header trace_good says.header in
    record {
      environment_names = environment.names;
      environment_distinct = environment.once;
      environment_few = environment.few;
      clocks_distinct = distinct (clock_names m) says.clocks_once;
      header = header.0;
      magic = each_has suits_header (λ x. bytes_eq x.0 (codes "magic") ≡ true → IsMagic x.1) (λ x t e. magic_of x.1 (at_name suits_header (codes "magic") x t e)) m.header.members header.1;
      uuid = each_has suits_header (λ x. bytes_eq x.0 (codes "uuid") ≡ true → IsIdentity x.1) (λ x t e. identity_of x.1 (at_name suits_header (codes "uuid") x t e)) m.header.members header.1;
      stream_id = each_has suits_header (λ x. bytes_eq x.0 (codes "stream_id") ≡ true → IsUnsigned x.1) (λ x t e. unsigned x.1 (at_name suits_header (codes "stream_id") x t e)) m.header.members header.1;
      streams = All-from_recursion (IsStream (clock_names m)) m.streams (streams_allowed known bs m.streams good.streams good.events says.streams);
      stream_numbers_rise = sorted (λ s. s.id) m.streams (streams_stand_by_number known bs m.streams says.streams).0;
    }

pub denoted : (text : List ℕ) (m : Metadata) → Denotes text m → IsMetadata m
denoted text m d = text_allowed d.4.0 m (subst AreGood d.4.1 (good_atoms text d.1 d.2 d.3)) d.4.2
