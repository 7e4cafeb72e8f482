-- What `trace --workers` runs: a worker for each stream of the script, in a thread of its own, with the acts of its stream but for collections, since the
-- calling thread collects all the time. All workers read one clock, which has a quota for each of them, and whose numbers begin at 0, or, where a trace goes
-- on, at the largest floor of its points; the readings of the script are not used. Each worker has a ring of as many places as a stream keeps packets, and
-- a sink over its file.
use Rattle.std.specs.Prelude.{◌≡◌, ◌+◌, ◌*◌, ℕ, suc, Bool, true, false, ◌&&◌, nat_eq, if◌then◌else◌, List, [], ◌∷◌, ◌++◌, Option, None, Some, codes}
use Rattle.std.specs.Global.{Vec}
use Rattle.packet_ring.specs.Opening.{HasBuffers, HasPlaces, IsUnused}
use Rattle.trace_clock.specs.declared.tick_clock.TickClock.{TickClock}
use Rattle.trace_clock.specs.declared.tick_seat.TickSeat.{TickSeat}
use Rattle.trace_clock.specs.Seats.{IsNew, bounds_of, left, rest}
use Rattle.trace_platform.specs.declared.writer_sink.WriterSink.{WriterSink}
use Rattle.trace_stack.specs.declared.answer.Answer.{Answer}
use Rattle.trace_stack.specs.declared.event.Act.{Act}
use Rattle.trace_stack.specs.declared.event.Act.TheVariants.{Trace, OpenPacket, ClosePacket, Collect, Enable, Extras}
use Rattle.trace_stack.specs.declared.event.Event.{Event}
use Rattle.trace_stack.specs.declared.worker.Worker.{Worker}
use Rattle.trace_text.specs.declared.script.ScriptStream.{ScriptStream}
use Rattle.command_words.specs.declared.quota.Quota.{Quota}
use Rattle.trace_commands.specs.declared.recording.Sizes.{Sizes}
use Rattle.trace_commands.specs.declared.shared_clock.SharedClock.{SharedClock}
use Rattle.trace_commands.specs.AnswerLines.{answer_line}
use Rattle.trace_commands.specs.Begun.{Begun}

-- ---- what a worker does

abbrev pub is_of_stream : Act → Bool
is_of_stream (Trace event args) = true
is_of_stream OpenPacket = true
is_of_stream ClosePacket = true
is_of_stream Collect = false
is_of_stream (Enable enabled) = true
is_of_stream (Extras extras) = true

-- the acts of the stream of this number, in their order, but for collections
abbrev pub acts_of : ℕ → List Event → List Act
acts_of number [] = []
acts_of number (e ∷ es) = if nat_eq e.stream number && is_of_stream e.act then e.act ∷ acts_of number es else acts_of number es

-- ---- the clock

-- a clock that nobody read, which has numbers from the start on, the quota for each of so many workers
pub record IsSharedBy (quota : Quota) (workers start : ℕ) (clock : TickClock) : Type 0 where
  pub numbers : bounds_of (rest clock) ≡ record { start = start; total = quota.readings * workers }
  pub all_left : left clock ≡ quota.readings * workers

-- where workers are asked for, there is one for them
abbrev pub HasClock : Option Quota → ℕ → ℕ → Option SharedClock → Type 0
HasClock asked workers start None = asked ≡ None
HasClock asked workers start (Some shared) = (asked ≡ Some shared.quota) × IsSharedBy shared.quota workers start shared.clock

-- ---- workers

-- the worker of this stream of the script, which is its stream of this number, behind its point
pub record IsWorkerOf {File : Type 0} (z : Sizes) (events : List Event) (number : ℕ) (s : Begun) (w : Worker (WriterSink File)) : Type 0 where
  pub type_name : w.type_name ≡ s.0.type_name
  pub start : w.start ≡ s.1
  pub extras : w.extras ≡ s.0.extras
  pub acts : w.acts.items ≡ acts_of number events
  pub unused : IsUnused w.back_end w.ring_end
  pub places : HasPlaces z.buffers z.bytes w.back_end w.ring_end
  pub buffers : HasBuffers (z.buffers + 1) z.bytes w.back_end w.ring_end
  pub no_faults : w.sink.faults ≡ 0

-- one for each of these streams, the first of which has this number; each has a new seat of the one clock
abbrev pub AreWorkers : {File : Type 0} → TickSeat → ℕ → Sizes → List Event → ℕ → List Begun → List (Worker (WriterSink File)) → Type 0
AreWorkers clock quota z events number [] [] = Unit {0}
AreWorkers clock quota z events number [] (w ∷ ws) = ⊥
AreWorkers clock quota z events number (s ∷ ss) [] = ⊥
AreWorkers clock quota z events number (s ∷ ss) (w ∷ ws) =
    IsNew clock quota w.seat × IsWorkerOf z events number s w × AreWorkers clock quota z events (suc number) ss ws

-- ---- what is printed

-- each line of a stream's answers begins with its name
abbrev pub named_line : List ℕ → ℕ → Answer → List ℕ
named_line name number answer = name ++ codes " " ++ answer_line number answer

abbrev pub named_lines : List ℕ → ℕ → List Answer → List ℕ
named_lines name number [] = []
named_lines name number (answer ∷ answers) = named_line name number answer ++ named_lines name (suc number) answers

-- the answers that are there, or none
abbrev pub answers_at : Option (Vec Answer) → List Answer
answers_at None = []
answers_at (Some answers) = answers.items

-- the lines of all streams, in the script's order of streams
abbrev pub stream_lines : List ScriptStream → List (Vec Answer) → List ℕ
stream_lines [] answers = []
stream_lines (s ∷ ss) [] = []
stream_lines (s ∷ ss) (r ∷ rs) = named_lines s.name 0 r.items ++ stream_lines ss rs
