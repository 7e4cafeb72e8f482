-- The scripted platforms: a list platform below, and turns of calls that fail whatever it would answer. Only the answers count.
use Rattle.std.specs.Prelude.{◌≡◌, ℕ, Bool, true, false, List, length, take, min, Option, Result, Ok, Err}
use Rattle.packet_writer.specs.declared.packet.Packet.{Packet}
use Rattle.trace_platform.specs.declared.clock.ClockSpent.{ClockSpent}
use Rattle.trace_platform.specs.declared.sink.SinkFault.{SinkFault}
use Rattle.trace_platform.specs.declared.script.Turn.TheVariants.{Works}
use Rattle.trace_platform.specs.declared.scripted_clock.ScriptedClock.{ScriptedClock}
use Rattle.trace_platform.specs.declared.scripted_back_end.ScriptedBackEnd.{ScriptedBackEnd}
use Rattle.trace_platform.specs.declared.scripted_sink.ScriptedSink.{ScriptedSink}
use Rattle.trace_platform.specs.Appending.{Memory, Fills}
use Rattle.trace_platform.specs.Count.{next_count}
use Rattle.trace_platform.specs.Queue.{Looks, Lends, Hands, Takes, Regains}
use Rattle.trace_platform.specs.Readings.{Reads}
use Rattle.trace_platform.specs.Turns.{first_turn, later_turns, MatchTurn}

abbrev pub ClockReads : ScriptedClock → Result ℕ ClockSpent → ScriptedClock → Type 0
ClockReads a (Ok n) b =
    (first_turn a.script ≡ Works) × Reads a.clock (Ok n) b.clock × (b.script ≡ later_turns a.script) × (b.spent ≡ a.spent)
ClockReads a (Err e) b =
    MatchTurn (first_turn a.script) (Reads a.clock (Err e) b.clock) (b.clock ≡ a.clock)
    × (b.script ≡ later_turns a.script) × (b.spent ≡ next_count a.spent)

abbrev pub BackEndLooks : ScriptedBackEnd → Bool → ScriptedBackEnd → Type 0
BackEndLooks a true b =
    MatchTurn (first_turn a.looking) (Looks a.back_end true b.back_end) (b.back_end ≡ a.back_end)
    × (b.looking ≡ later_turns a.looking) × (b.handing ≡ a.handing) × (b.full ≡ next_count a.full)
BackEndLooks a false b =
    (first_turn a.looking ≡ Works) × Looks a.back_end false b.back_end × (b.looking ≡ later_turns a.looking) × (b.handing ≡ a.handing) × (b.full ≡ a.full)

-- a call that no script rules
abbrev pub KeepsScripts : ScriptedBackEnd → ScriptedBackEnd → Type 0
KeepsScripts a b = (b.looking ≡ a.looking) × (b.handing ≡ a.handing) × (b.full ≡ a.full)

abbrev pub BackEndLends : ScriptedBackEnd → Option (List ℕ) → ScriptedBackEnd → Type 0
BackEndLends a answer b = Lends a.back_end answer b.back_end × KeepsScripts a b

abbrev pub BackEndHands : ScriptedBackEnd → Packet → Result (Unit {0}) Packet → ScriptedBackEnd → Type 0
BackEndHands a p (Ok u) b =
    (first_turn a.handing ≡ Works) × Hands a.back_end p (Ok u) b.back_end × (b.looking ≡ a.looking) × (b.handing ≡ later_turns a.handing) × (b.full ≡ a.full)
BackEndHands a p (Err q) b =
    MatchTurn (first_turn a.handing) (Hands a.back_end p (Err q) b.back_end) ((q ≡ p) × (b.back_end ≡ a.back_end))
    × (b.looking ≡ a.looking) × (b.handing ≡ later_turns a.handing) × (b.full ≡ next_count a.full)

abbrev pub BackEndTakes : ScriptedBackEnd → Option Packet → ScriptedBackEnd → Type 0
BackEndTakes a answer b = Takes a.back_end answer b.back_end × KeepsScripts a b

abbrev pub BackEndRegains : ScriptedBackEnd → List ℕ → ScriptedBackEnd → Type 0
BackEndRegains a buffer b = Regains a.back_end buffer b.back_end × KeepsScripts a b

-- the part of the bytes that a failing turn appends, unless memory is wanting
abbrev pub Appended : Memory → List ℕ → Memory → Type 0
Appended a xs b = (r : Result (Unit {0}) SinkFault) × Fills a xs r b

abbrev pub SinkAppends : ScriptedSink → List ℕ → Result (Unit {0}) SinkFault → ScriptedSink → Type 0
SinkAppends a xs (Ok u) b =
    (first_turn a.script ≡ Works) × Fills a.sink xs (Ok u) b.sink × (b.script ≡ later_turns a.script) × (b.part ≡ a.part) × (b.faults ≡ a.faults)
SinkAppends a xs (Err e) b =
    MatchTurn (first_turn a.script) (Fills a.sink xs (Err e) b.sink) (Appended a.sink (take (min a.part (length xs)) xs) b.sink)
    × (b.script ≡ later_turns a.script) × (b.part ≡ a.part) × (b.faults ≡ next_count a.faults)
