-- The data stream types that a configuration says stand in byte order of their names, and so do the event record types of each, where the
-- names of each of its objects do.
use Rattle.std.proofs.Common.{◌≡◌, ℕ, List, [], ◌∷◌, ◌++◌, Option, Some, None, option_and_then, refl, sym, ap, subst, ◌∙◌, arith, codes}
use Rattle.std.specs.List.{AllByRecursion}
use Rattle.std.proofs.lemmas.List.{append-nil, append_assoc}
use Rattle.serde_json.specs.Data.{Data, object, Members, no_members, member}
use Rattle.serde_json.specs.Find.{as_object}
use Rattle.ctf_types.specs.declared.EnvironmentEntry.{EnvironmentEntry}
use Rattle.ctf_types.specs.declared.ContextFeatures.{ContextFeatures}
use Rattle.ctf_types.specs.declared.EventFeatures.{EventFeatures}
use Rattle.ctf_types.specs.declared.EventType.{EventType}
use Rattle.ctf_types.specs.declared.HeaderFeatures.{HeaderFeatures}
use Rattle.ctf_types.specs.declared.StreamType.{StreamType}
use Rattle.ctf_types.specs.declared.StructType.{StructType}
use Rattle.conf_tree.specs.Order.{AllAbove, Ascends, IsInOrder, MembersAscend}
use Rattle.conf_tree.specs.Reading.{optional}
use Rattle.conf_draft.specs.declared.draft.Draft.{Draft}
use Rattle.conf_draft.specs.Events.{event_with, event_type, event_types}
use Rattle.conf_draft.specs.Lookups.{object as object_at, properties, said_behind}
use Rattle.conf_draft.specs.Streams.{stream_with, stream_type, stream_types}
use Rattle.conf_draft.specs.Traces.{draft_with, draft_of, draft_of_type, draft_of_trace, draft_of_root}
use Rattle.conf_laws.specs.FlawOrder.{NameBefore}
use Rattle.conf_laws.proofs.Readings.{some_same, by_found, at_found}
use Rattle.conf_laws.proofs.Sound.{optional_there}

-- ---- names that ascend

abbrev pub AreAbove : {A : Type 0} → (A → List ℕ) → List ℕ → List A → Type 0
AreAbove named k xs = AllByRecursion (λ x. NameBefore k (named x)) xs

abbrev pub NamesAscend : {A : Type 0} → (A → List ℕ) → List A → Type 0
NamesAscend named [] = Unit {0}
NamesAscend named (x ∷ xs) = AreAbove named (named x) xs × NamesAscend named xs

-- ---- what the objects of a map say

module _ {A : Type 0} (named : A → List ℕ) (Good : A → Type 0) (of : List ℕ → Members → Option A)
    (says_name : (name : List ℕ) (ms : Members) (x : A) → of name ms ≡ Some x → named x ≡ name) (says_good : (name : List ℕ) (ms : Members) (x : A) → of name ms ≡ Some x → MembersAscend ms → Good x) where
  abbrev SaidOf : Members → List A → Type 0
  SaidOf no_members ys = ys ≡ []
  SaidOf (member name (object inner) rest) ys = (x : A) × (zs : List A) × (of name inner ≡ Some x) × (ys ≡ x ∷ zs) × SaidOf rest zs
  SaidOf (member name _ rest) ys = SaidOf rest ys

  said : (ms : Members) (done xs : List A) → said_behind of done ms ≡ Some xs → (ys : List A) × (done ++ ys ≡ xs) × SaidOf ms ys
  said no_members done xs e = ([], append-nil done ∙ some_same (Some done) done xs refl e, refl)
  said (member name (object inner) rest) done xs e =
      by_found (λ (o : Option A). of name inner ≡ o → option_and_then (λ x. said_behind of (done ++ x ∷ []) rest) o ≡ Some xs → (ys : List A) × (done ++ ys ≡ xs) × SaidOf (member name (object inner) rest) ys) (of name inner)
      (λ none is told. absurd cc)
      (λ x there is told. let (zs, joined, others) = said rest (done ++ x ∷ []) xs told in (x ∷ zs, sym (append_assoc done (x ∷ []) zs) ∙ joined, (x, zs, there, refl, others)))
      refl e
  said (member name d rest) done xs e = said rest done xs e

  above_said : (k : List ℕ) (ms : Members) (ys : List A) → AllAbove k ms → SaidOf ms ys → AreAbove named k ys
  above_said k no_members ys above is = subst (AreAbove named k) (sym is) tt
  above_said k (member name (object inner) rest) ys above (x, zs, told, is, others) = subst (AreAbove named k) (sym is) (subst (NameBefore k) (sym (says_name name inner x told)) above.0, above_said k rest zs above.1 others)
  above_said k (member name d rest) ys above others = above_said k rest ys above.1 others

  order_said : (ms : Members) (ys : List A) → IsInOrder ms → MembersAscend ms → SaidOf ms ys → NamesAscend named ys × AllByRecursion Good ys
  order_said no_members ys order ascend is = subst (λ zs. NamesAscend named zs × AllByRecursion Good zs) (sym is) (tt, tt)
  order_said (member name (object inner) rest) ys order ascend (x, zs, told, is, others) =
      let more = order_said rest zs order.1 ascend.1 others in
      let above = subst (λ n. AreAbove named n zs) (sym (says_name name inner x told)) (above_said name rest zs order.0 others) in
      subst (λ all. NamesAscend named all × AllByRecursion Good all) (sym is) ((above, more.0), (says_good name inner x told ascend.0.1, more.1))
  order_said (member name d rest) ys order ascend others = order_said rest ys order.1 ascend.1 others

  said_in_order : (ms : Members) (xs : List A) → IsInOrder ms → MembersAscend ms → said_behind of [] ms ≡ Some xs → NamesAscend named xs × AllByRecursion Good xs
  said_in_order ms xs order ascend e =
      let (ys, joined, all) = said ms [] xs e in
      subst (λ zs. NamesAscend named zs × AllByRecursion Good zs) joined (order_said ms ys order ascend all)

-- ---- properties that are objects

optional_ascends : (name : List ℕ) (ms : Members) (d : Data) → MembersAscend ms → optional name ms ≡ Some d → Ascends d
optional_ascends name ms d ascend e = at_found MembersAscend (λ n x. Ascends x) (λ n x rest h. h) name ms d ascend (optional_there name ms d e).0

object_ascends : (name : List ℕ) (ms inner : Members) → MembersAscend ms → object_at name ms ≡ Some inner → IsInOrder inner × MembersAscend inner
unfolding object_at
object_ascends name ms inner ascend e =
    by_found (λ (o : Option Data). optional name ms ≡ o → option_and_then as_object o ≡ Some inner → IsInOrder inner × MembersAscend inner) (optional name ms) (λ none is told. absurd cc) (λ d there is told. held d (optional_ascends name ms d ascend there) told) refl e
  where
    held : (d : Data) → Ascends d → as_object d ≡ Some inner → IsInOrder inner × MembersAscend inner
    held (object ns) h told = let same : ns ≡ inner = cc in subst (λ x. IsInOrder x × MembersAscend x) same h
    held _ h told = absurd cc

properties_ascend : (name : List ℕ) (ms : Members) → MembersAscend ms → IsInOrder (properties name ms) × MembersAscend (properties name ms)
unfolding properties
properties_ascend name ms ascend =
    by_found (λ (o : Option Members). object_at name ms ≡ o → IsInOrder (properties name ms) × MembersAscend (properties name ms)) (object_at name ms)
    (λ none is. rw none (tt, tt)) (λ inner there is. rw there (object_ascends name ms inner ascend there)) refl

-- ---- event record types and data stream types

event_named : (levels : Members) (name : List ℕ) (ms : Members) (e : EventType) → event_type levels name ms ≡ Some e → e.name ≡ name
unfolding event_type
event_named levels name ms e is = said_by _ _ _ is
  where
    said_by : (level : Option ℕ) (specific payload : Option StructType) → event_with name level specific payload ≡ Some e → e.name ≡ name
    said_by level (Some s) (Some p) is = let same : record { name = name; log_level = level; specific = s; payload = p } ≡ e = cc in sym (ap (λ (x : EventType). x.name) same)
    said_by level (Some s) None is = absurd cc
    said_by level None p is = absurd cc

abbrev pub EventsAscend : List EventType → Type 0
EventsAscend es = NamesAscend (λ (e : EventType). e.name) es

events_ascend : (levels ms : Members) (es : List EventType) → MembersAscend ms → event_types levels ms ≡ Some es → EventsAscend es
unfolding event_types
events_ascend levels ms es ascend e =
    let own = properties_ascend (codes "event-record-types") ms ascend in
    (said_in_order (λ (x : EventType). x.name) (λ x. Unit {0}) (event_type levels) (event_named levels) (λ name inner x told h. tt) (properties (codes "event-record-types") ms) es own.0 own.1 e).0

stream_parts : (name : List ℕ) (clock : Option (List ℕ)) (context : Option ContextFeatures) (extras : Option StructType) (header : Option EventFeatures) (common : Option StructType) (events : Option (List EventType)) (s : StreamType)
    → stream_with name clock context extras header common events ≡ Some s → (s.name ≡ name) × (events ≡ Some s.events)
stream_parts name clock context extras header common events s e = grind (arith, e)

abbrev pub StreamsAscend : List StreamType → Type 0
StreamsAscend ss = NamesAscend (λ (s : StreamType). s.name) ss × AllByRecursion (λ (s : StreamType). EventsAscend s.events) ss

streams_ascend : (ms : Members) (ss : List StreamType) → MembersAscend ms → stream_types ms ≡ Some ss → StreamsAscend ss
unfolding stream_types stream_type
streams_ascend ms ss ascend e =
    let levels = properties (codes "$log-level-aliases") ms in
    let own = properties_ascend (codes "data-stream-types") ms ascend in
    said_in_order (λ (s : StreamType). s.name) (λ (s : StreamType). EventsAscend s.events) (stream_type levels) (λ name inner s told. (stream_parts name _ _ _ _ _ _ s told).0) (λ name inner s told h. events_ascend levels inner s.events h (stream_parts name _ _ _ _ _ _ s told).1) (properties (codes "data-stream-types") ms) ss own.0 own.1 e

-- ---- a configuration

found_both : {A B : Type 0} (f : A → Option B) (o : Option A) (y : B) → option_and_then f o ≡ Some y → (x : A) × (o ≡ Some x) × (f x ≡ Some y)
found_both f (Some x) y e = (x, refl, e)
found_both f None y e = absurd cc

draft_streams : (number : Option (List ℕ)) (entries : List EnvironmentEntry) (ms : Members) (header : Option HeaderFeatures) (streams : Option (List StreamType)) (draft : Draft) → draft_with number entries ms header streams ≡ Some draft → streams ≡ Some draft.config.streams
draft_streams number entries ms header streams draft e = grind (arith, e)

pub draft_ascends : (number : Option (List ℕ)) (d : Data) (draft : Draft) → Ascends d → draft_of number d ≡ Some draft → StreamsAscend draft.config.streams
unfolding draft_of_root draft_of_trace draft_of_type
draft_ascends number (object ms) draft h e =
    let (trace, there, of_trace) = found_both (draft_of_trace number) (object_at (codes "trace") ms) draft e in
    let (type, told, of_type) = found_both (draft_of_type number _) (object_at (codes "type") trace) draft of_trace in
    let in_trace = object_ascends (codes "trace") ms trace h.1 there in
    let in_type = object_ascends (codes "type") trace type in_trace.1 told in
    streams_ascend type draft.config.streams in_type.1 (draft_streams number _ type _ (stream_types type) draft of_type)
draft_ascends number _ draft h e = absurd cc
