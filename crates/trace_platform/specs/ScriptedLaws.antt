-- The scripted platforms keep the laws of a clock, of a back end that is its own source, and of a sink.
use Rattle.std.specs.Prelude.{◌≡◌, ℕ, ◌<◌, ◌≤◌, Bool, true, false, List, [], ◌∷◌, ◌++◌, length, take, min, Option, None, Some, IsSome, Result, Ok, Err}
use Rattle.std.proofs.Common.{ap, ◌∙◌, arith, inl, inr}
use Rattle.std.specs.Prelude.{◌⊎◌}
use Rattle.packet_writer.specs.declared.packet.Packet.{Packet}
use Rattle.trace_platform.specs.declared.clock.ClockSpent.{ClockSpent}
use Rattle.trace_platform.specs.declared.sink.SinkFault.{SinkFault}
use Rattle.trace_platform.specs.declared.script.Turn.{Turn}
use Rattle.trace_platform.specs.declared.script.Turn.TheVariants.{Works, Fails}
use Rattle.trace_platform.specs.declared.scripted_clock.ScriptedClock.{ScriptedClock}
use Rattle.trace_platform.specs.declared.scripted_back_end.ScriptedBackEnd.{ScriptedBackEnd}
use Rattle.trace_platform.specs.declared.scripted_sink.ScriptedSink.{ScriptedSink}
use Rattle.trace_platform.specs.Appending.{Memory, Fills}
use Rattle.trace_platform.specs.AppendingLaws as memory
use Rattle.trace_platform.specs.Count.{next_count}
use Rattle.trace_platform.specs.Queue.{Queue}
use Rattle.trace_platform.specs.QueueLaws as list
use Rattle.trace_platform.specs.Readings.{Readings, Reads}
use Rattle.trace_platform.specs.Readings as readings
use Rattle.trace_platform.specs.Turns.{first_turn, MatchTurn}
use Rattle.trace_platform.specs.Scripted.{ClockReads, BackEndLooks, BackEndLends, BackEndHands, BackEndTakes, BackEndRegains, SinkAppends}

either : (t : Turn) {P Q : Type 0} → MatchTurn t P Q → P ⊎ Q
either Works h = inl h
either Fails h = inr h

-- ---- the clock

pub rises : (a b : ScriptedClock) (n : ℕ) → ClockReads a (Ok n) b → (a.clock.floor ≤ n) × (n ≤ b.clock.floor) × (b.spent ≡ a.spent)
rises a b n h = let r = readings.rises a.clock b.clock n h.1 in (r.0, r.1, h.3)

pub refuses : (a b : ScriptedClock) (e : ClockSpent) → ClockReads a (Err e) b → (a.clock.floor ≤ b.clock.floor) × (b.spent ≡ next_count a.spent)
refuses a b e h = (
  elim (either (first_turn a.script) h.0) [
    | inl r ↦ (readings.refuses a.clock b.clock e r).0
    | inr r ↦ omega (arith, ap (λ (c : Readings). c.floor) r)
  ],
  h.2,
)

-- ---- the back end

same_list : (a b : Queue) → b ≡ a → (b.waiting ≡ a.waiting) × (b.bytes ≡ a.bytes)
same_list a b e = (ap (λ (q : Queue). q.waiting) e, ap (λ (q : Queue). q.bytes) e)

pub looks_full : (a b : ScriptedBackEnd) → BackEndLooks a true b → b.full ≡ next_count a.full
looks_full a b h = h.3

pub looks_ready : (a b : ScriptedBackEnd) → BackEndLooks a false b → (b.full ≡ a.full) × (0 < length b.back_end.spares)
looks_ready a b h = (h.4, (list.looks_ready a.back_end b.back_end h.1).1)

pub looks_keeps : (a b : ScriptedBackEnd) (full : Bool) → BackEndLooks a full b → (b.back_end.waiting ≡ a.back_end.waiting) × (b.back_end.bytes ≡ a.back_end.bytes)
looks_keeps a b true h =
    elim (either (first_turn a.looking) h.0) [ inl r ↦ list.looks_keeps a.back_end b.back_end true r | inr r ↦ same_list a.back_end b.back_end r ]
looks_keeps a b false h = list.looks_keeps a.back_end b.back_end false h.1

pub lends_one : (a b : ScriptedBackEnd) (answer : Option (List ℕ)) → BackEndLends a answer b → 0 < length a.back_end.spares → IsSome answer
lends_one a b answer h some = list.lends_one a.back_end b.back_end answer h.0 some

pub lends_size : (a b : ScriptedBackEnd) (buffer : List ℕ) → BackEndLends a (Some buffer) b → length buffer ≡ a.back_end.bytes
lends_size a b buffer h = h.0.0

pub lends_keeps : (a b : ScriptedBackEnd) (answer : Option (List ℕ)) → BackEndLends a answer b
    → (b.back_end.waiting ≡ a.back_end.waiting) × (b.back_end.bytes ≡ a.back_end.bytes) × (b.full ≡ a.full)
lends_keeps a b answer h = let k = list.lends_keeps a.back_end b.back_end answer h.0 in (k.0, k.1, h.1.2)

pub queues : (a b : ScriptedBackEnd) (p : Packet) → BackEndHands a p (Ok tt) b
    → (b.back_end.waiting ≡ a.back_end.waiting ++ p ∷ []) × (b.back_end.bytes ≡ a.back_end.bytes) × (b.full ≡ a.full)
queues a b p h = let k = list.queues a.back_end b.back_end p h.1 in (k.0, k.1, h.4)

pub hands_back : (a b : ScriptedBackEnd) (p q : Packet) → BackEndHands a p (Err q) b
    → (q ≡ p) × (b.back_end.waiting ≡ a.back_end.waiting) × (b.back_end.bytes ≡ a.back_end.bytes) × (b.full ≡ next_count a.full)
hands_back a b p q h =
    let same : (q ≡ p) × (b.back_end.waiting ≡ a.back_end.waiting) × (b.back_end.bytes ≡ a.back_end.bytes) =
    elim (either (first_turn a.handing) h.0) [
      | inl r ↦ (let k = list.hands_back a.back_end b.back_end p q r in (k.0, k.1, k.2))
      | inr r ↦ (let k = same_list a.back_end b.back_end r.1 in (r.0, k.0, k.1))
    ] in
    (same.0, same.1, same.2, h.3)

-- ---- the source

pub takes_first : (a b : ScriptedBackEnd) (p : Packet) (ps : List Packet) → BackEndTakes a (Some p) b → Some a.back_end.waiting ≡ Some ps
    → (qs : List Packet) × (ps ≡ p ∷ qs) × (Some b.back_end.waiting ≡ Some qs)
takes_first a b p ps h e = list.takes_first a.back_end b.back_end p ps h.0 e

pub takes_none : (a b : ScriptedBackEnd) (ps : List Packet) → BackEndTakes a None b → Some a.back_end.waiting ≡ Some ps → (ps ≡ []) × (Some b.back_end.waiting ≡ Some [])
takes_none a b ps h e = list.takes_none a.back_end b.back_end ps h.0 e

pub takes_keeps : (a b : ScriptedBackEnd) (answer : Option Packet) → BackEndTakes a answer b → (b.back_end.bytes ≡ a.back_end.bytes) × (b.full ≡ a.full)
takes_keeps a b answer h = ((list.takes_keeps a.back_end b.back_end answer h.0).0, h.1.2)

pub regains_rest : (a b : ScriptedBackEnd) (buffer : List ℕ) → BackEndRegains a buffer b → Some b.back_end.waiting ≡ Some a.back_end.waiting
regains_rest a b buffer h = list.regains_rest a.back_end b.back_end buffer h.0

pub regains_keeps : (a b : ScriptedBackEnd) (buffer : List ℕ) → BackEndRegains a buffer b → (b.back_end.bytes ≡ a.back_end.bytes) × (b.full ≡ a.full)
regains_keeps a b buffer h = ((list.regains_keeps a.back_end b.back_end buffer h.0).0, h.1.2)

pub settles_keeps : (a b : ScriptedBackEnd) (done : Unit {0}) (answer : Bool) (ps : List Packet) → (answer ≡ true) × (b ≡ a)
    → Some a.back_end.waiting ≡ Some ps → Some b.back_end.waiting ≡ Some ps
settles_keeps a b done answer ps h e = ap (λ (k : ScriptedBackEnd). Some k.back_end.waiting) h.1 ∙ e

-- ---- the sink

pub adds_all : (a b : ScriptedSink) (xs : List ℕ) → SinkAppends a xs (Ok tt) b → (b.sink.bytes ≡ a.sink.bytes ++ xs) × (b.faults ≡ a.faults)
adds_all a b xs h = ((memory.fills_all a.sink b.sink xs h.1).0, h.4)

abbrev Part : Memory → List ℕ → Memory → Type 0
Part a xs b = (n : ℕ) × (n ≤ length xs) × (b.bytes ≡ a.bytes ++ take n xs)

part_of : (a b : Memory) (xs : List ℕ) (m : ℕ) (r : Result (Unit {0}) SinkFault) → m ≤ length xs → Fills a (take m xs) r b → Part a xs b
part_of a b xs m (Ok u) le h = (m, le, ap (λ (k : Memory). k.bytes) h)
part_of a b xs m (Err e) le h = let k = memory.fills_part a b xs e h in k.0

pub adds_part : (a b : ScriptedSink) (xs : List ℕ) (e : SinkFault) → SinkAppends a xs (Err e) b
    → ((n : ℕ) × (n ≤ length xs) × (b.sink.bytes ≡ a.sink.bytes ++ take n xs)) × (b.faults ≡ next_count a.faults)
adds_part a b xs e h = (
  elim (either (first_turn a.script) h.0) [
    | inl r ↦ (memory.fills_part a.sink b.sink xs e r).0
    | inr r ↦ part_of a.sink b.sink xs (min a.part (length xs)) r.0 (omega arith) r.1
  ],
  h.3,
)
