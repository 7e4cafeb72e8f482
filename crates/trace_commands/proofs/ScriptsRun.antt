-- A text that says a script says one that can be run: readings never fall, and events are of streams that are there.
use Rattle.std.proofs.Common.{◌≡◌, ◌≤◌, ◌<◌, ℕ, ◌+◌, Bool, true, false, List, [], ◌∷◌, ◌++◌, Option, None, Some, length, refl, sym, subst, ap, arith, inl, inr}
use Rattle.std.proofs.lemmas.Bool.Decides.{nat_tests}
use Rattle.std.proofs.lemmas.List.Elements.{All-cons, All-nil}
use Rattle.std.specs.Prelude.{option_and_then, codes, nat_le, if◌then◌else◌}
use Rattle.std.specs.Str.{bytes_eq}
use Rattle.std.specs.List.{All}
use Rattle.serde_json.specs.Data.{Data, Items, no_items, item}
use Rattle.ctf_types.specs.declared.Config.{Config}
use Rattle.ctf_types.specs.Packets.{NeverFall, last_of}
use Rattle.packet_reader.proofs.ClockLaws.{never_fall-append}
use Rattle.trace_stack.specs.declared.event.Event.{Event}
use Rattle.trace_text.specs.declared.script.Script.{Script}
use Rattle.trace_text.specs.declared.script.ScriptStream.{ScriptStream}
use Rattle.trace_text.specs.Script.{SayAll, IsScriptOf}
use Rattle.trace_text.specs.ScriptEntries.{SaysStream, SaysEvent, list_in, natural, readings_from, readings_of, script_stream_named}
use Rattle.trace_commands.specs.ListSessions.{IsRunnable}

-- what is found behind a step
behind : {A B : Type 0} (f : A → Option B) (o : Option A) (y : B) → option_and_then f o ≡ Some y → (x : A) × (o ≡ Some x) × (f x ≡ Some y)
behind f None y h = absurd (let k : None ≡ Some y = h in cc)
behind f (Some x) y h = (x, refl, h)

same_some : {A : Type 0} (x y : A) → Some x ≡ Some y → x ≡ y
same_some x y e = cc

-- ---- readings

last_pushed : (a : ℕ) (xs : List ℕ) (n : ℕ) → last_of a (xs ++ n ∷ []) ≡ n
last_pushed a [] n = refl
last_pushed a (x ∷ xs) n = last_pushed x xs n

readings_rise : (floor : ℕ) (before : List ℕ) (ds : Items) (xs : List ℕ) → last_of 0 before ≡ floor → NeverFall 0 before → readings_from floor before ds ≡ Some xs → NeverFall 0 xs
unfolding NeverFall
readings_rise floor before no_items xs last rise h = subst (NeverFall 0) (same_some before xs h) rise
readings_rise floor before (item d ds) xs last rise h =
    let step = behind (λ (n : ℕ). if nat_le floor n then readings_from n (before ++ n ∷ []) ds else None) (natural d) xs h in
    go step.0 (nat_le floor step.0) refl step.2
    (λ above e. readings_rise step.0 (before ++ step.0 ∷ []) ds xs (last_pushed 0 before step.0) (never_fall-append 0 before (step.0 ∷ []) rise (subst (λ m. m ≤ step.0) (sym last) above, tt)) e)
  where
    go : (n : ℕ) (b : Bool) → nat_le floor n ≡ b → (if b then readings_from n (before ++ n ∷ []) ds else None) ≡ Some xs
        → (floor ≤ n → readings_from n (before ++ n ∷ []) ds ≡ Some xs → NeverFall 0 xs) → NeverFall 0 xs
    go n true is h rest = rest (grind (arith, nat_tests)) h
    go n false is h rest = absurd (let k : None ≡ Some xs = h in cc)

stream_rises : (c : Config) (d : Data) (s : ScriptStream) → SaysStream c d s → NeverFall 0 s.clock
unfolding NeverFall
stream_rises c d s p =
    let found = behind readings_of (list_in (codes "clock") p.properties) s.clock p.clock in
    readings_rise 0 [] found.0 s.clock refl tt found.2

streams_rise : (c : Config) (ds : Items) (ss : List ScriptStream) → SayAll (SaysStream c) ds ss → All (λ (s : ScriptStream). NeverFall 0 s.clock) ss
streams_rise c no_items [] h = All-nil (λ (x : ScriptStream). NeverFall 0 x.clock)
streams_rise c no_items (s ∷ ss) h = absurd h
streams_rise c (item d ds) [] h = absurd h
streams_rise c (item d ds) (s ∷ ss) h = All-cons (λ (x : ScriptStream). NeverFall 0 x.clock) s ss (stream_rises c d s h.0) (streams_rise c ds ss h.1)

-- ---- events

numbered_there : (name : List ℕ) (n : ℕ) (ss : List ScriptStream) (i : ℕ) (s : ScriptStream) → script_stream_named name n ss ≡ Some (i, s) → i < n + length ss
numbered_there name n [] i s h = absurd (let k : None ≡ Some (i, s) = h in cc)
numbered_there name n (t ∷ ss) i s h = go (bytes_eq t.name name) h (λ e. numbered_there name (n + 1) ss i s e)
  where
    go : (b : Bool) → (if b then Some (n, t) else script_stream_named name (n + 1) ss) ≡ Some (i, s)
        → (script_stream_named name (n + 1) ss ≡ Some (i, s) → i < (n + 1) + length ss) → i < n + length (t ∷ ss)
    go true h rest = let same : n ≡ i = ap (λ (p : ℕ × ScriptStream). p.0) (same_some (n, t) (i, s) h) in omega (arith, same)
    go false h rest = let below = rest h in omega (arith, below)

event_there : (c : Config) (ss : List ScriptStream) (d : Data) (e : Event) → SaysEvent c ss d e → e.stream < length ss
event_there c ss d e p = elim p.said [
  | inl q ↦ (let below = numbered_there q.name 0 ss e.stream q.stream q.there in omega (arith, below))
  | inr q ↦ (let below = numbered_there q.name 0 ss e.stream q.stream q.stream_there in omega (arith, below))
]

events_there : (c : Config) (ss : List ScriptStream) (ds : Items) (es : List Event) → SayAll (SaysEvent c ss) ds es → All (λ (e : Event). e.stream < length ss) es
events_there c ss no_items [] h = All-nil (λ (e : Event). e.stream < length ss)
events_there c ss no_items (e ∷ es) h = absurd h
events_there c ss (item d ds) [] h = absurd h
events_there c ss (item d ds) (e ∷ es) h = All-cons (λ (x : Event). x.stream < length ss) e es (event_there c ss d e h.0) (events_there c ss ds es h.1)

pub script_runs : (c : Config) (text : List ℕ) (s : Script) → IsScriptOf c text s → IsRunnable s
script_runs c text s p = record { clocks = streams_rise c p.says.stream_entries s.streams p.says.streams; events = events_there c s.streams p.says.event_entries s.events p.says.events }
