-- The sessions of the program, on one thread: each stream has a clock that gives the readings of its script, or its floor where they are below it, a back
-- end of lists with so many buffers of so many bytes, and a sink over a file. Its floor is that of the point behind which it goes on, or 0. What these do is what the platform of lists and the sink over a writer say of themselves; of a file its
-- writer's contents are known, where they are.
use Rattle.std.specs.Prelude.{◌≡◌, ◌<◌, ◌≤◌, ◌^◌, ℕ, max, List, [], ◌∷◌, ◌++◌, Option, None, Some, true, length, replicate}
use Rattle.std.specs.List.{All, AllZip}
use Rattle.ctf_types.specs.declared.Config.{Config}
use Rattle.ctf_types.specs.Packets.{NeverFall}
use Rattle.packet_collector.specs.declared.finish_answer.FinishAnswer.{FinishAnswer}
use Rattle.packet_collector.specs.Outlets.{Calls}
use Rattle.thread_stream.specs.Platform.{Platform}
use Rattle.packet_reader.specs.declared.resuming.ResumePoint.{ResumePoint}
use Rattle.trace_clock.specs.declared.floor_clock.FloorClock.{FloorClock}
use Rattle.trace_clock.specs.Floors as floors
use Rattle.trace_platform.specs.declared.writer_sink.WriterSink.{WriterSink}
use Rattle.trace_platform.specs.Appending.{Writes}
use Rattle.trace_platform.specs.Queue.{Queue, Looks, Lends, Hands, Takes, Regains}
use Rattle.trace_platform.specs.Readings.{Readings, Reads}
use Rattle.trace_stack.specs.declared.answer.Answer.{Answer}
use Rattle.trace_stack.specs.declared.event.Event.{Event}
use Rattle.trace_stack.specs.Adding.{Adds, Resumes}
use Rattle.trace_stack.specs.Kept.{Known}
use Rattle.trace_stack.specs.Lanes.{LanesFinish}
use Rattle.trace_stack.specs.Recorded.{Deed, AddsStream, ResumesStream, RunsEvents, Reaches, no_streams}
use Rattle.trace_stack.specs.Sessions.{Lanes}
use Rattle.trace_text.specs.declared.script.Script.{Script}
use Rattle.trace_text.specs.declared.script.ScriptStream.{ScriptStream}
use Rattle.trace_commands.specs.declared.recording.Sizes.{Sizes}
use Rattle.trace_commands.specs.Begun.{Begun, begun}

-- sizes that a session can have
pub record AreSizes (z : Sizes) : Type 0 where
  pub some_bytes : 0 < z.bytes
  pub most_bytes : z.bytes ≤ 2 ^ 20
  pub some_buffers : 0 < z.buffers
  pub most_buffers : z.buffers ≤ 1024

-- a script whose readings never fall, and whose events are of its own streams
pub record IsRunnable (s : Script) : Type 0 where
  pub clocks : All (λ (x : ScriptStream). NeverFall 0 x.clock) s.streams
  pub events : All (λ (e : Event). e.stream < length s.streams) s.events

-- ---- what a stream is made from

-- over a list's clock, with a floor
abbrev pub Clock : Type 0
Clock = FloorClock Readings

abbrev pub clock_of : List ℕ → ℕ → Clock
clock_of readings floor = record { clock = record { left = readings; floor = 0; spent = 0 }; floor = floor }

-- nothing waits, and all buffers are spare
abbrev pub back_end_of : Sizes → Queue
back_end_of z = record { waiting = []; spares = replicate z.buffers (replicate z.bytes 0); bytes = z.bytes; buffers = z.buffers; fulls = 0 }

abbrev pub sink_over : {File : Type 0} → File → WriterSink File
sink_over file = record { writer = file; faults = 0 }

-- ---- what clock, back end and sink do

abbrev pub lists : Platform Clock Queue Queue
lists = record { reads = λ a answer b. floors.Reads Reads a.clock a.floor answer b.clock b.floor; looks = Looks; lends = Lends; hands = Hands; ends = λ a b. b ≡ a; bytes = λ b. b.bytes }

module _ {File : Type 0} (contents : File → Option (List ℕ)) where
  abbrev pub file_calls : Calls (WriterSink File) Queue (Unit {0})
  file_calls = record {
    appends = λ a xs answer b. Writes (contents a.writer) a.faults xs answer (contents b.writer) b.faults;
    takes = Takes;
    regains = Regains;
    settles = λ a done answer b. (answer ≡ true) × (b ≡ a);
  }

  abbrev pub file_known : Known Clock Queue (WriterSink File)
  file_known = record { floor = λ c. max c.clock.floor c.floor; queue = λ b. b.waiting; held = λ s. contents s.writer }

  -- ---- sessions

  abbrev pub Session : Type 0
  Session = Lanes Clock Queue (WriterSink File)

  abbrev pub Doing : Type 0
  Doing = Deed Clock Queue (WriterSink File)

  -- the stream of the script is added, over a file, or it is resumed from its point
  abbrev pub adding : Sizes → ScriptStream → Option ResumePoint → File → Doing
  adding z s None file = AddsStream s.name s.type_name (clock_of s.clock 0) (back_end_of z) (sink_over file) s.extras
  adding z s (Some p) file = ResumesStream s.name s.type_name (clock_of s.clock p.floor) (back_end_of z) (sink_over file) s.extras p

  abbrev pub IsAdding : Sizes → Begun → Doing → Type 0
  IsAdding z s d = (file : File) × (d ≡ adding z s.0 s.1 file)

  -- to a session it is added, or resumed, and it becomes another
  abbrev pub AddsTo : Sizes → Session → ScriptStream → Option ResumePoint → File → ℕ → Session → Type 0
  AddsTo z a s None file i b =
      Adds lists file_known a s.name s.type_name (clock_of s.clock 0) (back_end_of z) (sink_over file) s.extras i b
  AddsTo z a s (Some p) file i b =
      Resumes lists file_known a s.name s.type_name (clock_of s.clock p.floor) (back_end_of z) (sink_over file) s.extras p i b

  abbrev pub AddsOver : Sizes → Session → Begun → Session → Type 0
  AddsOver z a s b = (file : File) × (i : ℕ) × AddsTo z a s.0 s.1 file i b

  -- so a session without streams comes to have these, in their order
  pub record HasAdded (c : Config) (z : Sizes) (streams : List Begun) (b : Session) : Type 0 where
    pub deeds : List Doing
    pub each : AllZip (IsAdding z) streams deeds
    pub reached : Reaches lists file_calls file_known (no_streams c) deeds b

  -- the streams of the script are added, those that go on behind their points; its events are run with these answers, and each stream is finished with its end
  pub record IsRecording (c : Config) (z : Sizes) (s : Script) (points : List (Option ResumePoint)) (answers : List Answer) (ends : List FinishAnswer) : Type 0 where
    pub deeds : List Doing
    pub each : AllZip (IsAdding z) (begun s points) deeds
    pub last : Session
    pub reached : Reaches lists file_calls file_known (no_streams c) (deeds ++ RunsEvents s.events answers ∷ []) last
    pub sinks : List (WriterSink File)
    pub finished : LanesFinish lists file_calls file_known last.config last.lanes ends sinks
