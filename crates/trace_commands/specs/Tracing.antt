-- What `trace` answers to the texts of a configuration's and of a script's file. The configuration is judged before the script is read, the script before the
-- names of its streams, and these before the folder of the trace is made. Then there is the metadata, whole, in its file, and a file for each stream;
-- the streams are added in the order of the script, and its events are run. Files are known by what their writers took.
-- Where the trace is to go on in a folder, its metadata is read in place of that, and then, in the order of the script, each file that is there of the script's
-- streams; these are known by what their readers had to give. Which path a file was opened under, that no file is there, and what becomes of a file
-- that is not opened, no reader and no writer tells.
use Rattle.std.specs.Prelude.{◌≡◌, ◌⊎◌, ℕ, true, List, [], ◌∷◌, ◌++◌, Option, None, Some, codes, length, map}
use Rattle.std.specs.List.{All}
use Rattle.std.specs.Io.KnownBytes.{Appends}
use Rattle.ctf_types.specs.declared.Config.{Config}
use Rattle.ctf_types.specs.MetadataOf.{metadata_of}
use Rattle.conf_check.specs.Configuration.{Configures}
use Rattle.packet_collector.specs.declared.finish_answer.FinishAnswer.{FinishAnswer}
use Rattle.packet_reader.specs.declared.resuming.ResumePoint.{ResumePoint}
use Rattle.trace_clock.specs.declared.tick_clock.TickClock.{TickClock}
use Rattle.trace_clock.specs.Seats.{rest}
use Rattle.trace_platform.specs.declared.writer_sink.WriterSink.{WriterSink}
use Rattle.trace_platform.specs.Appending.{Writes}
use Rattle.trace_stack.specs.declared.adding.AddFault.{AddFault}
use Rattle.trace_stack.specs.declared.answer.Answer.{Answer}
use Rattle.trace_stack.specs.declared.names.NameFault.{NameFault}
use Rattle.trace_stack.specs.declared.worker.ThreadsFault.{ThreadsFault}
use Rattle.trace_stack.specs.declared.worker.ThreadsRun.{ThreadsRun}
use Rattle.trace_stack.specs.declared.worker.Worker.{Worker}
use Rattle.trace_stack.specs.FaultWords.{name_words, threads_words}
use Rattle.trace_stack.specs.Workers.{ThreadsRan}
use Rattle.trace_text.specs.declared.script.Script.{Script}
use Rattle.trace_text.specs.declared.script.ScriptStream.{ScriptStream}
use Rattle.trace_text.specs.Names.{first_refused}
use Rattle.trace_text.specs.Script.{IsScriptOf}
use Rattle.tsdl_grammar.specs.Denotes.{Denotes}
use Rattle.tsdl_writer.specs.Written.{written}
use Rattle.command_words.specs.declared.commands.Resuming.{Resuming}
use Rattle.command_words.specs.declared.commands.Resuming.TheVariants.{Anew, Behind}
use Rattle.command_words.specs.declared.commands.TraceCommand.{TraceCommand}
use Rattle.command_words.specs.declared.quota.Quota.{Quota}
use Rattle.trace_commands.specs.declared.recording.NotRecorded.{NotRecorded}
use Rattle.trace_commands.specs.declared.recording.NotRecorded.TheVariants.{Stream, OutOfMemory}
use Rattle.trace_commands.specs.declared.recording.Sizes.{Sizes}
use Rattle.trace_commands.specs.AnswerLines.{answer_lines}
use Rattle.trace_commands.specs.Begun.{AreRight, Begun, HasRoom, all_anew, begun, fault_of, largest_floor}
use Rattle.trace_commands.specs.Checking.{IsConfigurationFault}
use Rattle.trace_commands.specs.ListSessions.{IsRecording}
use Rattle.trace_commands.specs.Reading.{IsPathIn}
use Rattle.trace_commands.specs.Resuming.{HasBroken, HasMetadata, HasOtherMetadata, HasPoint}
use Rattle.trace_commands.specs.ScriptLines.{IsBadScript, IsStreamLine, begin_words}
use Rattle.trace_commands.specs.Settling.{SaysSettling}
use Rattle.trace_commands.specs.FaultLines.{fault_line}
use Rattle.trace_commands.specs.Telling.{IsToldWith, WasGiven}
use Rattle.trace_commands.specs.Workers.{AreWorkers, IsSharedBy, stream_lines}

abbrev pub sizes_of : TraceCommand → Sizes
sizes_of t = record { bytes = t.packet_bytes; buffers = t.buffers }

-- a path of the command: its configuration, its script, its folder, or a file in that
abbrev pub IsTracePath : TraceCommand → List ℕ → Type 0
IsTracePath t path = (path ≡ t.config.now) ⊎ (path ≡ t.script.now) ⊎ IsPathIn t.folder.now path

-- ---- refusals: nothing is printed, one line says the fault, and the status is 1

abbrev pub IsSaidOfStream : List ℕ → Script → ℕ → List ℕ → List ℕ → List ℕ → ℕ → Type 0
IsSaidOfStream file s number words output errors status = (output ≡ []) × IsStreamLine file s number words errors × (status ≡ 1)

abbrev pub stream_names : Script → List (List ℕ)
stream_names s = map (λ (x : ScriptStream). x.name) s.streams

-- the names that a session can have
abbrev pub AreFree : Script → Type 0
AreFree s = first_refused [] 0 (stream_names s) ≡ None

-- the stream of this number is the first that a session refuses by its name, for this
abbrev pub IsBadName : Script → ℕ → NameFault → Type 0
IsBadName s number fault = first_refused [] 0 (stream_names s) ≡ Some (number, fault)

-- the stream of this number is the first that is not begun, for this: its type, its extra members, the size of packets, or earlier packets of another type
pub record IsBadStream (c : Config) (bytes : ℕ) (streams : List Begun) (number : ℕ) (fault : AddFault) : Type 0 where
  pub before : List Begun
  pub stream : Begun
  pub behind : List Begun
  pub there : streams ≡ before ++ stream ∷ behind
  pub place : length before ≡ number
  pub none_before : AreRight c bytes before
  pub first : fault_of c bytes stream ≡ Some fault

-- for a session the stream of this number has this fault, or memory was wanting
abbrev pub IsNotAdded : ℕ → Option AddFault → NotRecorded → Type 0
IsNotAdded place first (Stream number fault) = (number ≡ place) × (first ≡ Some fault)
IsNotAdded place first OutOfMemory = Unit {0}

abbrev pub Refuses : Config → ℕ → ℕ → Begun → NotRecorded → Type 0
Refuses c bytes place s r = IsNotAdded place (fault_of c bytes s) r

-- one of these streams, the first of them, has a fault, or memory was wanting
abbrev pub RefusesOne : Config → ℕ → List Begun → NotRecorded → Type 0
RefusesOne c bytes streams (Stream number fault) = IsBadStream c bytes streams number fault
RefusesOne c bytes streams OutOfMemory = Unit {0}

-- a line of the script speaks of the first stream that is not begun
abbrev pub TellsBadStream : TraceCommand → Config → Script → List (Option ResumePoint) → List ℕ → List ℕ → ℕ → Type 0
TellsBadStream t c s points output errors status =
    (number : ℕ) × (fault : AddFault) × IsBadStream c t.packet_bytes (begun s points) number fault × IsSaidOfStream t.script.now s number (begin_words fault) output errors status

-- that the clock has not all numbers that the workers may read
abbrev pub no_room_line : List ℕ → List ℕ
no_room_line folder = fault_line folder (codes "the readings of all workers pass the clock's last number")

-- ---- a run

-- nothing where all streams settled, else the line of the first that did not
abbrev pub EndsTold : List ℕ → List ScriptStream → List FinishAnswer → List ℕ → ℕ → Type 0
EndsTold folder streams ends errors status = (line : Option (List ℕ)) × SaysSettling folder streams ends line × IsToldWith line errors status

-- nothing where all workers made all their calls and their streams settled; else a line of the folder, that says what kept workers from their calls, or that of
-- the first stream that did not settle
abbrev pub SaysRun : List ℕ → List ScriptStream → Option ThreadsFault → List FinishAnswer → Option (List ℕ) → Type 0
SaysRun folder streams None ends line = SaysSettling folder streams ends line
SaysRun folder streams (Some fault) ends None = ⊥
SaysRun folder streams (Some fault) ends (Some line) = line ≡ fault_line folder (threads_words fault)

abbrev pub RunTold : {W : Type 0} → List ℕ → List ScriptStream → ThreadsRun W → List ℕ → ℕ → Type 0
RunTold folder streams run errors status = (line : Option (List ℕ)) × SaysRun folder streams run.fault run.ends.items line × IsToldWith line errors status

module _ {File : Type 0} (contents : File → Option (List ℕ)) where
  -- the writer of a file took these bytes from first to last
  pub record WereTaken (bytes : List ℕ) : Type 0 where
    pub made : File
    pub left : File
    pub took : Appends (contents made) (contents left) bytes

  -- the metadata is written: the text denotes that of the configuration
  abbrev pub HoldsMetadata : Config → Type 0
  HoldsMetadata c = WereTaken (written c) × Denotes (written c) (metadata_of c)

  -- the session ran, and this is told of it
  pub record IsRun (t : TraceCommand) (c : Config) (s : Script) (points : List (Option ResumePoint)) (output errors : List ℕ) (status : ℕ) : Type 0 where
    pub answers : List Answer
    pub ends : List FinishAnswer
    pub recording : IsRecording contents c (sizes_of t) s points answers ends
    pub printed : output ≡ answer_lines 0 answers
    pub ended : EndsTold t.folder.now s.streams ends errors status

  -- a stream is refused, or the session ran
  abbrev pub TellsSession : TraceCommand → Config → Script → List (Option ResumePoint) → List ℕ → List ℕ → ℕ → Type 0
  TellsSession t c s points output errors status =
      TellsBadStream t c s points output errors status
      ⊎ IsRun t c s points output errors status

  -- a worker for each stream ran, all by one clock, and this is told of them: each has its answers under its stream's name
  pub record IsWorkersRun (quota : Quota) (t : TraceCommand) (c : Config) (s : Script) (points : List (Option ResumePoint)) (output errors : List ℕ) (status : ℕ) : Type 0 where
    pub clock : TickClock
    pub shared : IsSharedBy quota (length s.streams) (largest_floor points) clock
    pub workers : List (Worker (WriterSink File))
    pub each : AreWorkers (rest clock) quota.readings (sizes_of t) s.events 0 (begun s points) workers
    pub run : ThreadsRun (WriterSink File)
    pub ran : ThreadsRan (λ (a : WriterSink File) (bytes : List ℕ) answer (b : WriterSink File). Writes (contents a.writer) a.faults bytes answer (contents b.writer) b.faults)
        (λ (k : WriterSink File). contents k.writer) (λ (k : WriterSink File). k.faults) true c workers run
    pub printed : output ≡ stream_lines s.streams run.answers.items
    pub ended : RunTold t.folder.now s.streams run errors status

  -- a stream is refused, or the workers ran
  abbrev pub TellsWorkers : Quota → TraceCommand → Config → Script → List (Option ResumePoint) → List ℕ → List ℕ → ℕ → Type 0
  TellsWorkers quota t c s points output errors status =
      TellsBadStream t c s points output errors status
      ⊎ IsWorkersRun quota t c s points output errors status

  -- by workers where they are asked for, else by a session
  abbrev pub TellsStreams : Option Quota → TraceCommand → Config → Script → List (Option ResumePoint) → List ℕ → List ℕ → ℕ → Type 0
  TellsStreams None t c s points output errors status = TellsSession t c s points output errors status
  TellsStreams (Some quota) t c s points output errors status = TellsWorkers quota t c s points output errors status

  -- the folder is made, and its metadata is written
  pub record IsTraced (t : TraceCommand) (c : Config) (s : Script) (output errors : List ℕ) (status : ℕ) : Type 0 where
    pub metadata : HoldsMetadata c
    pub streams : TellsStreams t.workers t c s (all_anew s) output errors status

  module _ (remaining : File → Option (List ℕ)) where
    -- ---- in a folder that is there

    -- the trace does not go on, which a line says: by its metadata, or by one of its files
    abbrev pub IsNotResumed : Config → Script → List ℕ → List ℕ → Type 0
    IsNotResumed c s folder errors =
        HasOtherMetadata remaining folder (written c) errors ⊎ HasBroken remaining (metadata_of c) s.streams folder errors

    -- it has the configuration's metadata, and a point behind each file that is there; the workers' clock would pass its last number, or the streams are begun,
    -- those with points behind them
    pub record IsResumed (t : TraceCommand) (c : Config) (s : Script) (output errors : List ℕ) (status : ℕ) : Type 0 where
      pub metadata : HasMetadata remaining c
      pub points : List (Option ResumePoint)
      pub one_each : length points ≡ length s.streams
      pub each : All (HasPoint remaining (metadata_of c)) points
      pub streams : ((HasRoom t.workers (length s.streams) (largest_floor points) → ⊥) × (output ≡ []) × (errors ≡ no_room_line t.folder.now) × (status ≡ 1))
          ⊎ TellsStreams t.workers t c s points output errors status

    abbrev pub TellsFolder : Resuming → TraceCommand → Config → Script → List ℕ → List ℕ → ℕ → Type 0
    TellsFolder Anew t c s output errors status = IsTraced t c s output errors status
    TellsFolder Behind t c s output errors status =
        (IsNotResumed c s t.folder.now errors × (output ≡ []) × (status ≡ 1))
        ⊎ IsResumed t c s output errors status

    -- ---- in their order

    -- of a script: its names, and then its folder and its streams
    abbrev pub TellsScript : TraceCommand → Config → Script → List ℕ → List ℕ → ℕ → Type 0
    TellsScript t c s output errors status =
        ((number : ℕ) × (fault : NameFault) × IsBadName s number fault × IsSaidOfStream t.script.now s number (name_words fault) output errors status)
        ⊎ (AreFree s × TellsFolder t.resume t c s output errors status)

    -- of the text of a script's file
    abbrev pub TellsText : TraceCommand → Config → List ℕ → List ℕ → List ℕ → ℕ → Type 0
    TellsText t c text output errors status =
        (IsBadScript t.script.now c text errors × (output ≡ []) × (status ≡ 1))
        ⊎ ((s : Script) × IsScriptOf c text s × TellsScript t c s output errors status)

    -- of a configuration: the script's file is read
    abbrev pub TellsConfig : TraceCommand → Config → List ℕ → List ℕ → ℕ → Type 0
    TellsConfig t c output errors status = (text : List ℕ) × WasGiven remaining text × TellsText t c text output errors status

    -- of the text of a configuration's file
    abbrev pub TellsFirst : TraceCommand → List ℕ → List ℕ → List ℕ → ℕ → Type 0
    TellsFirst t text output errors status =
        IsConfigurationFault t.config.now text t.uuid output errors status
        ⊎ ((c : Config) × Configures text t.uuid c × TellsConfig t c output errors status)

    -- of the command: the configuration's file is read
    abbrev pub TellsTrace : TraceCommand → List ℕ → List ℕ → ℕ → Type 0
    TellsTrace t output errors status = (text : List ℕ) × WasGiven remaining text × TellsFirst t text output errors status
