-- What is said where streams did not settle: one line, of the file of the first of them.
use Rattle.std.specs.Prelude.{◌≡◌, ◌≢◌, ℕ, List, Option, None, Some, codes, slice_get, take}
use Rattle.std.specs.List.{All}
use Rattle.packet_collector.specs.declared.finish_answer.FinishAnswer.{FinishAnswer}
use Rattle.packet_collector.specs.declared.finish_answer.FinishAnswer.TheVariants.{Settled}
use Rattle.trace_text.specs.declared.script.ScriptStream.{ScriptStream}
use Rattle.trace_commands.specs.Ends.{path_in}
use Rattle.trace_commands.specs.FaultLines.{fault_line}

-- all streams settled: the sink of each took all its packets
abbrev pub AllSettled : List FinishAnswer → Type 0
AllSettled ends = All (λ (r : FinishAnswer). r ≡ Settled) ends

-- the stream of this number did not settle, and all before it did
pub record IsFirstUnsettled (ends : List FinishAnswer) (number : ℕ) : Type 0 where
  pub before : AllSettled (take number ends)
  pub end : FinishAnswer
  pub there : slice_get ends number ≡ Some end
  pub unsettled : end ≢ Settled

-- the line that the file of a stream took no more
abbrev pub stopped_line : List ℕ → List ℕ → List ℕ
stopped_line folder name = fault_line (path_in folder name) (codes "a write failed")

-- that line of the first of these streams that did not settle
pub record SaysUnsettled (folder : List ℕ) (streams : List ScriptStream) (ends : List FinishAnswer) (line : List ℕ) : Type 0 where
  pub number : ℕ
  pub first : IsFirstUnsettled ends number
  pub stream : ScriptStream
  pub there : slice_get streams number ≡ Some stream
  pub said : line ≡ stopped_line folder stream.name

-- nothing exactly where all settled
abbrev pub SaysSettling : List ℕ → List ScriptStream → List FinishAnswer → Option (List ℕ) → Type 0
SaysSettling folder streams ends None = AllSettled ends
SaysSettling folder streams ends (Some line) = SaysUnsettled folder streams ends line
