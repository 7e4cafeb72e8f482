-- What a text says as a script is what it is read as, and its first fault is what it is refused for.
use Rattle.std.proofs.Common.{◌≡◌, ℕ, suc, Option, Some, None, Result, Ok, Err, List, [], ◌∷◌, ◌++◌, refl, ap, ◌∙◌, sym, subst, ◌⊎◌, inl, inr, IfOk, IfErr, append_assoc, append-nil}
use Rattle.std.specs.Result.{result_err}
use Rattle.serde_json.specs.Data.{Data, Items, no_items, item}
use Rattle.ctf_types.specs.declared.Config.{Config}
use Rattle.conf_tree.specs.Walk.{Reads}
use Rattle.trace_stack.specs.declared.event.Event.{Event}
use Rattle.trace_text.specs.declared.script.Script.{Script}
use Rattle.trace_text.specs.declared.script.ScriptStream.{ScriptStream}
use Rattle.trace_text.specs.declared.script_fault.ScriptFault.{ScriptFault}
use Rattle.trace_text.specs.declared.script_lists.FaultyList.TheVariants.{Streams, Events}
use Rattle.trace_text.specs.declared.script_fault.ScriptFaultKind.{ScriptFaultKind}
use Rattle.trace_text.specs.declared.script_fault.ScriptFaultKind.TheVariants.{Shape}
use Rattle.trace_text.specs.Script.{SayAll, SaysScript, IsScriptOf, lists_in}
use Rattle.trace_text.specs.ScriptEntries.{SaysStream, SaysEvent}
use Rattle.trace_text.specs.ScriptFaults.{stream_fault, event_fault, entry_fault, first_fault, LiesIn, IsScriptFault, IsFirstFault}
use Rattle.trace_text.specs.ScriptReading.{◌>>=◌, wanted, at_entry, entries_from, entry_reading, stream_reading, event_reading, script_reading, GivesAll, IsMemory}
use Rattle.trace_text.proofs.StepLaws.{same_ok, bound}
use Rattle.trace_text.proofs.StreamLaws.{stream_says, stream_only, stream_judged}
use Rattle.trace_text.proofs.EventLaws.{event_says, event_only, event_judged}

-- ---- entries one after the other

read_there : {A : Type 0} (i : ℕ) (r : Result A ScriptFaultKind) (x : A) → at_entry i r ≡ Ok x → r ≡ Ok x
read_there i (Ok y) x h = let same : y ≡ x = same_ok y x h in ap Ok same
read_there i (Err kind) x h = absurd cc

entries_say : {A : Type 0} (reads : Data → Result A ScriptFaultKind) (S : Data → A → Type 0) → ((d : Data) (x : A) → reads d ≡ Ok x → S d x)
    → (before : List A) (i : ℕ) (ds : Items) (xs : List A) → entries_from reads before i ds ≡ Ok xs → (ys : List A) × (xs ≡ before ++ ys) × SayAll S ds ys
entries_say reads S says before i no_items xs h = ([], sym (same_ok before xs h) ∙ sym (append-nil before), tt)
entries_say reads S says before i (item d ds) xs h =
    let first = bound (at_entry i (reads d)) (λ x. entries_from reads (before ++ x ∷ []) (suc i) ds) xs h in
    let rest = entries_say reads S says (before ++ first.0 ∷ []) (suc i) ds xs first.2 in
    (first.0 ∷ rest.0, rest.1 ∙ append_assoc before (first.0 ∷ []) rest.0, (says d first.0 (read_there i (reads d) first.0 first.1), rest.2))

entries_only : {A : Type 0} (reads : Data → Result A ScriptFaultKind) (S : Data → A → Type 0) → ((d : Data) (x : A) → S d x → reads d ≡ Ok x)
    → (before : List A) (i : ℕ) (ds : Items) (ys : List A) → SayAll S ds ys → entries_from reads before i ds ≡ Ok (before ++ ys)
entries_only reads S only before i no_items [] p = ap Ok (sym (append-nil before))
entries_only reads S only before i no_items (y ∷ ys) p = absurd p
entries_only reads S only before i (item d ds) [] p = absurd p
entries_only reads S only before i (item d ds) (y ∷ ys) p =
    ap (λ (r : Result _ _). at_entry i r >>= (λ x. entries_from reads (before ++ x ∷ []) (suc i) ds)) (only d y p.0)
    ∙ entries_only reads S only (before ++ y ∷ []) (suc i) ds ys p.1
    ∙ ap Ok (append_assoc before (y ∷ []) ys)

one_judged : {A B : Type 0} (i : ℕ) (r : Result A ScriptFaultKind) (o : Option ScriptFaultKind) (f : A → Result B ScriptFault) (later : Option ScriptFault)
    → o ≡ result_err r → ((x : A) → later ≡ result_err (f x)) → entry_fault i o later ≡ result_err (at_entry i r >>= f)
one_judged i (Ok x) o f later is after = ap (λ (p : Option ScriptFaultKind). entry_fault i p later) is ∙ after x
one_judged i (Err kind) o f later is after = ap (λ (p : Option ScriptFaultKind). entry_fault i p later) is

entries_judged : {A : Type 0} (reads : Data → Result A ScriptFaultKind) (F : Data → Option ScriptFaultKind) → ((d : Data) → F d ≡ result_err (reads d))
    → (before : List A) (i : ℕ) (ds : Items) → first_fault F i ds ≡ result_err (entries_from reads before i ds)
entries_judged reads F judges before i no_items = refl
entries_judged reads F judges before i (item d ds) =
    one_judged i (reads d) (F d) _ (first_fault F (suc i) ds) (judges d) (λ x. entries_judged reads F judges (before ++ x ∷ []) (suc i) ds)

-- ---- a script

found : {A : Type 0} (o : Option A) (x : A) → wanted Shape o ≡ Ok x → o ≡ Some x
found None x h = absurd cc
found (Some y) x h = let same : y ≡ x = same_ok y x h in ap Some same

abbrev made_of : List ScriptStream → List Event → Result Script ScriptFault
made_of ss es = Ok (record { streams = ss; events = es })

abbrev more : Config → Items → List ScriptStream → Result Script ScriptFault
more c entries streams = entries_from (entry_reading (event_reading c streams)) [] 0 entries >>= made_of streams

abbrev rest : Config → Items × Items → Result Script ScriptFault
rest c lists = entries_from (entry_reading (stream_reading c)) [] 0 lists.0 >>= more c lists.1

pub script_says : (c : Config) (d : Data) (s : Script) → script_reading c d ≡ Ok s → SaysScript c d s
unfolding script_reading
script_says c d s h =
    let lists = bound (at_entry 0 (wanted Shape (lists_in d))) _ s h in
    let form = found (lists_in d) lists.0 (read_there 0 (wanted Shape (lists_in d)) lists.0 lists.1) in
    let streams = bound (entries_from (entry_reading (stream_reading c)) [] 0 lists.0.0) _ s lists.2 in
    let events = bound (entries_from (entry_reading (event_reading c streams.0)) [] 0 lists.0.1) _ s streams.2 in
    let made = same_ok _ s events.2 in
    let all_streams = entries_say (entry_reading (stream_reading c)) (SaysStream c) (stream_says c) [] 0 lists.0.0 streams.0 streams.1 in
    let all_events = entries_say (entry_reading (event_reading c streams.0)) (SaysEvent c streams.0) (event_says c streams.0) [] 0 lists.0.1 events.0 events.1 in
    subst (SaysScript c d) made
    (record {
      stream_entries = lists.0.0;
      event_entries = lists.0.1;
      form = form;
      streams = subst (SayAll (SaysStream c) lists.0.0) (sym all_streams.1) all_streams.2;
      events = subst (SayAll (SaysEvent c streams.0) lists.0.1) (sym all_events.1) all_events.2;
    })

pub script_only : (c : Config) (d : Data) (s : Script) → SaysScript c d s → script_reading c d ≡ Ok s
unfolding script_reading
script_only c d s p =
    ap (λ (o : Option (Items × Items)). at_entry 0 (wanted Shape o) >>= rest c) p.form
    ∙ ap (λ (r : Result (List ScriptStream) ScriptFault). r >>= more c p.event_entries) (entries_only (entry_reading (stream_reading c)) (SaysStream c) (stream_only c) [] 0 p.stream_entries s.streams p.streams)
    ∙ ap (λ (r : Result (List Event) ScriptFault). r >>= made_of s.streams)
    (entries_only (entry_reading (event_reading c s.streams)) (SaysEvent c s.streams) (event_only c s.streams) [] 0 p.event_entries s.events p.events)

none_later : {A : Type 0} (reads : Data → Result A ScriptFaultKind) (F : Data → Option ScriptFaultKind) → ((d : Data) → F d ≡ result_err (reads d))
    → (ds : Items) (r : Result (List A) ScriptFault) (fault : ScriptFault) → entries_from reads [] 0 ds ≡ r → r ≡ Err fault → first_fault F 0 ds ≡ Some fault
none_later reads F judges ds r fault is refused =
    entries_judged reads F judges [] 0 ds ∙ ap result_err (is ∙ refused)

refused_events : (c : Config) (d : Data) (fault : ScriptFault) (streams events : Items) (ss : List ScriptStream) (r : Result (List Event) ScriptFault)
    → lists_in d ≡ Some (streams, events) → SayAll (SaysStream c) streams ss
    → entries_from (entry_reading (event_reading c ss)) [] 0 events ≡ r → (r >>= made_of ss) ≡ Err fault → IsScriptFault c d fault
refused_events c d fault streams events ss (Ok es) form said is h = absurd cc
refused_events c d fault streams events ss (Err other) form said is h =
    let same : other ≡ fault = cc in
    inr (inr (streams, events, ss, form, said, none_later (entry_reading (event_reading c ss)) (event_fault c ss) (event_judged c ss) events (Err other) fault is (ap Err same)))

refused_streams : (c : Config) (d : Data) (fault : ScriptFault) (streams events : Items) (r : Result (List ScriptStream) ScriptFault)
    → lists_in d ≡ Some (streams, events)
    → entries_from (entry_reading (stream_reading c)) [] 0 streams ≡ r → (r >>= more c events) ≡ Err fault → IsScriptFault c d fault
refused_streams c d fault streams events (Ok ss) form is h =
    let all = entries_say (entry_reading (stream_reading c)) (SaysStream c) (stream_says c) [] 0 streams ss is in
    refused_events c d fault streams events ss (entries_from (entry_reading (event_reading c ss)) [] 0 events) form (subst (SayAll (SaysStream c) streams) (sym all.1) all.2) refl h
refused_streams c d fault streams events (Err other) form is h =
    let same : other ≡ fault = cc in
    inr (inl (streams, events, form, none_later (entry_reading (stream_reading c)) (stream_fault c) (stream_judged c) streams (Err other) fault is (ap Err same)))

refused_lists : (c : Config) (d : Data) (fault : ScriptFault) (o : Option (Items × Items)) → lists_in d ≡ o
    → (at_entry 0 (wanted Shape o) >>= rest c) ≡ Err fault → IsScriptFault c d fault
refused_lists c d fault None form h = inl (form, cc)
refused_lists c d fault (Some lists) form h =
    refused_streams c d fault lists.0 lists.1 (entries_from (entry_reading (stream_reading c)) [] 0 lists.0) form refl h

-- what is refused, refused by its form, by its streams or by its events
pub script_refused : (c : Config) (d : Data) (fault : ScriptFault) → script_reading c d ≡ Err fault → IsScriptFault c d fault
unfolding script_reading
script_refused c d fault h = refused_lists c d fault (lists_in d) refl h

-- ---- the list of the first fault

-- of two the one that is left
pub other_one : {M R : Type 0} → M ⊎ R → (M → ⊥) → R
other_one (inl m) never = absurd (never m)
other_one (inr r) never = r

judged_streams : (c : Config) (ds : Items) → first_fault (stream_fault c) 0 ds ≡ result_err (entries_from (entry_reading (stream_reading c)) [] 0 ds)
judged_streams c ds = entries_judged (entry_reading (stream_reading c)) (stream_fault c) (stream_judged c) [] 0 ds

same_streams : (d : Data) (streams events others more : Items) → wanted Shape (lists_in d) ≡ Ok (streams, events) → lists_in d ≡ Some (others, more) → others ≡ streams
same_streams d streams events others more form other =
    let same : (others, more) ≡ (streams, events) = let k : Some (others, more) ≡ Some (streams, events) = sym other ∙ found (lists_in d) (streams, events) form in cc in
    ap (λ (l : Items × Items). l.0) same

there : {X : Type 0} (o : Option X) (x : X) → wanted Shape o ≡ Ok x → o ≡ None → ⊥
there o x h none = let k : None ≡ Some x = sym none ∙ found o x h in cc

-- where all streams are read, it is an event's
pub in_events : (c : Config) (d : Data) (streams events : Items) (ss : List ScriptStream) → wanted Shape (lists_in d) ≡ Ok (streams, events)
    → entries_from (entry_reading (stream_reading c)) [] 0 streams ≡ Ok ss → (fault : ScriptFault) → IsScriptFault c d fault → LiesIn c d Events fault
in_events c d streams events ss form read fault (inl p) = absurd (there (lists_in d) (streams, events) form p.0)
in_events c d streams events ss form read fault (inr (inl p)) =
    let same = same_streams d streams events p.0 p.1 form p.2 in
    let read_so = ap (λ l. entries_from (entry_reading (stream_reading c)) [] 0 l) same ∙ read in
    absurd (let k : Some fault ≡ None = sym p.3 ∙ judged_streams c p.0 ∙ ap result_err read_so in cc)
in_events c d streams events ss form read fault (inr (inr p)) = p

-- and else a stream's
pub in_streams : (c : Config) (d : Data) (streams events : Items) (refusal : ScriptFault) → wanted Shape (lists_in d) ≡ Ok (streams, events)
    → entries_from (entry_reading (stream_reading c)) [] 0 streams ≡ Err refusal → (fault : ScriptFault) → IsScriptFault c d fault → LiesIn c d Streams fault
in_streams c d streams events refusal form read fault (inl p) = absurd (there (lists_in d) (streams, events) form p.0)
in_streams c d streams events refusal form read fault (inr (inl p)) = p
in_streams c d streams events refusal form read fault (inr (inr p)) =
    let same = same_streams d streams events p.0 p.1 form p.3 in
    let all = entries_only (entry_reading (stream_reading c)) (SaysStream c) (stream_only c) [] 0 p.0 p.2 p.4 in
    absurd (let k : Ok p.2 ≡ Err refusal = sym all ∙ ap (λ l. entries_from (entry_reading (stream_reading c)) [] 0 l) same ∙ read in cc)

-- ---- a text

same_some : {A : Type 0} (x y : A) → Some x ≡ Some y → x ≡ y
same_some x y h = cc

-- a text is one value
pub one_value : (text : List ℕ) (d e : Data) → Reads text d → Reads text e → d ≡ e
one_value text d e p q = same_some d e (sym p.1 ∙ q.1)

-- the first fault of a text is that of its value
pub of_value : (c : Config) (text : List ℕ) (d : Data) (fault : ScriptFault) → Reads text d → IsFirstFault c text fault → IsScriptFault c d fault
of_value c text d fault reads (inl p) = absurd (p.0 d reads)
of_value c text d fault reads (inr p) = subst (λ (e : Data). IsScriptFault c e fault) (one_value text p.0 d p.1 reads) p.2

-- a text of a value that says a script is that script's, and no other's
pub text_only : (c : Config) (text : List ℕ) (d : Data) (s : Script) → Reads text d → IsScriptOf c text s → script_reading c d ≡ Ok s
text_only c text d s reads p = script_only c d s (subst (λ (e : Data). SaysScript c e s) (one_value text p.value d p.read reads) p.says)

-- ---- what the reading of a text's value answers

pub says_script : (c : Config) (text : List ℕ) (d : Data) (r : Result Script ScriptFault) → Reads text d → GivesAll (λ (s : Script). s) r (script_reading c d)
    → IfOk r (IsScriptOf c text)
says_script c text d (Ok s) reads h = record { value = d; read = reads; says = script_says c d s h }
says_script c text d (Err fault) reads h = tt

pub tells_first : (c : Config) (text : List ℕ) (d : Data) (r : Result Script ScriptFault) → Reads text d → GivesAll (λ (s : Script). s) r (script_reading c d)
    → IfErr r (λ fault. IsMemory fault ⊎ IsFirstFault c text fault)
tells_first c text d (Ok s) reads h = tt
tells_first c text d (Err fault) reads (inl memory) = inl memory
tells_first c text d (Err fault) reads (inr is) = inr (inr (d, reads, script_refused c d fault is))

pub no_other : (c : Config) (text : List ℕ) (d : Data) (r : Result Script ScriptFault) → Reads text d → GivesAll (λ (s : Script). s) r (script_reading c d)
    → (s : Script) → IsScriptOf c text s → IfOk r (λ x. x ≡ s)
no_other c text d (Ok x) reads h s said = same_ok x s (sym h ∙ text_only c text d s reads said)
no_other c text d (Err fault) reads h s said = tt

apart : (fault : ScriptFault) (s : Script) (r : Result Script ScriptFault) → r ≡ Err fault → r ≡ Ok s → ⊥
apart fault s r p q = cc

pub no_refusal : (c : Config) (text : List ℕ) (d : Data) (r : Result Script ScriptFault) → Reads text d → GivesAll (λ (s : Script). s) r (script_reading c d)
    → (s : Script) → IsScriptOf c text s → IfErr r IsMemory
no_refusal c text d (Ok x) reads h s said = tt
no_refusal c text d (Err fault) reads (inl memory) s said = memory
no_refusal c text d (Err fault) reads (inr is) s said = absurd (apart fault s (script_reading c d) is (text_only c text d s reads said))

-- ---- a text has one first fault at most, and none where it says a script

refused_with : {A E : Type 0} (r : Result A E) (e : E) → result_err r ≡ Some e → r ≡ Err e
refused_with (Ok x) e h = absurd cc
refused_with (Err other) e h = let same : other ≡ e = cc in ap Err same

pub fault_read : (c : Config) (d : Data) (fault : ScriptFault) → IsScriptFault c d fault → script_reading c d ≡ Err fault
unfolding script_reading
fault_read c d fault (inl p) = ap (λ (o : Option (Items × Items)). at_entry 0 (wanted Shape o) >>= rest c) p.0 ∙ ap Err (sym p.1)
fault_read c d fault (inr (inl p)) =
    ap (λ (o : Option (Items × Items)). at_entry 0 (wanted Shape o) >>= rest c) p.2
    ∙ ap (λ (r : Result (List ScriptStream) ScriptFault). r >>= more c p.1)
    (refused_with (entries_from (entry_reading (stream_reading c)) [] 0 p.0) fault (sym (entries_judged (entry_reading (stream_reading c)) (stream_fault c) (stream_judged c) [] 0 p.0) ∙ p.3))
fault_read c d fault (inr (inr p)) =
    ap (λ (o : Option (Items × Items)). at_entry 0 (wanted Shape o) >>= rest c) p.3
    ∙ ap (λ (r : Result (List ScriptStream) ScriptFault). r >>= more c p.1) (entries_only (entry_reading (stream_reading c)) (SaysStream c) (stream_only c) [] 0 p.0 p.2 p.4)
    ∙ ap (λ (r : Result (List Event) ScriptFault). r >>= made_of p.2)
    (refused_with (entries_from (entry_reading (event_reading c p.2)) [] 0 p.1) fault (sym (entries_judged (entry_reading (event_reading c p.2)) (event_fault c p.2) (event_judged c p.2) [] 0 p.1) ∙ p.5))

same_refusal : (r : Result Script ScriptFault) (e f : ScriptFault) → r ≡ Err e → r ≡ Err f → e ≡ f
same_refusal r e f p q = cc

value_fault : (c : Config) (text : List ℕ) (d e : Data) (fault : ScriptFault) → Reads text d → Reads text e → IsScriptFault c e fault → script_reading c d ≡ Err fault
value_fault c text d e fault p q h = fault_read c d fault (subst (λ (x : Data). IsScriptFault c x fault) (one_value text e d q p) h)

pub one_first : (c : Config) (text : List ℕ) (e f : ScriptFault) → IsFirstFault c text e → IsFirstFault c text f → e ≡ f
one_first c text e f (inl p) (inl q) = p.1 ∙ sym q.1
one_first c text e f (inl p) (inr q) = absurd (p.0 q.0 q.1)
one_first c text e f (inr p) (inl q) = absurd (q.0 p.0 p.1)
one_first c text e f (inr p) (inr q) = same_refusal (script_reading c p.0) e f (fault_read c p.0 e p.2) (value_fault c text p.0 q.0 f p.1 q.1 q.2)

pub no_fault : (c : Config) (text : List ℕ) (s : Script) (fault : ScriptFault) → IsScriptOf c text s → IsFirstFault c text fault → ⊥
no_fault c text s fault p (inl q) = q.0 p.value p.read
no_fault c text s fault p (inr q) = apart fault s (script_reading c q.0) (fault_read c q.0 fault q.2) (text_only c text q.0 s q.1 p)

pub one_script : (c : Config) (text : List ℕ) (s t : Script) → IsScriptOf c text s → IsScriptOf c text t → s ≡ t
one_script c text s t p q = same_ok s t (sym (text_only c text p.value s p.read p) ∙ text_only c text p.value t p.read q)
