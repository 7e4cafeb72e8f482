-- The streams of a script, each with where it begins: behind the packets of its file, or, where no file of it is there, anew.
use Rattle.std.specs.Prelude.{◌≡◌, ◌<◌, ◌+◌, ◌*◌, ◌^◌, ℕ, max, List, Option, None, Some, fold, length, map, replicate, unwrap_or, zip}
use Rattle.std.specs.List.{All}
use Rattle.ctf_types.specs.declared.Config.{Config}
use Rattle.packet_reader.specs.declared.resuming.ResumePoint.{ResumePoint}
use Rattle.trace_stack.specs.declared.adding.AddFault.{AddFault}
use Rattle.trace_stack.specs.Adding.{begin_fault}
use Rattle.trace_stack.specs.Points.{no_point}
use Rattle.trace_text.specs.declared.script.Script.{Script}
use Rattle.trace_text.specs.declared.script.ScriptStream.{ScriptStream}
use Rattle.command_words.specs.declared.quota.Quota.{Quota}

-- a stream, and the point behind the packets of its file, if one is there
abbrev pub Begun : Type 0
Begun = ScriptStream × Option ResumePoint

abbrev pub begun : Script → List (Option ResumePoint) → List Begun
begun s points = zip s.streams points

-- no file is there
abbrev pub all_anew : Script → List (Option ResumePoint)
all_anew s = replicate (length s.streams) None

-- ---- clock values

-- where the stream begins: behind the packets of its file, or before all packets
abbrev pub point_of : Option ResumePoint → ResumePoint
point_of point = unwrap_or point no_point

-- what no clock value of the stream is below
abbrev pub floor_at : Option ResumePoint → ℕ
floor_at point = (point_of point).floor

-- the largest of these, 0 without a point
abbrev pub largest_floor : List (Option ResumePoint) → ℕ
largest_floor points = fold max 0 (map floor_at points)

-- for so many workers, where they are asked for, with so many readings each, numbers from the start on have 64 bits
abbrev pub HasRoom : Option Quota → ℕ → ℕ → Type 0
HasRoom None workers start = Unit {0}
HasRoom (Some quota) workers start = start + quota.readings * workers < 2 ^ 64

-- ---- faults

-- why the stream is not begun, memory aside
abbrev pub fault_of : Config → ℕ → Begun → Option AddFault
fault_of c bytes b = begin_fault c b.0.type_name bytes b.0.extras (point_of b.1)

-- none of them has such a fault
abbrev pub AreRight : Config → ℕ → List Begun → Type 0
AreRight c bytes ss = All (λ (s : Begun). fault_of c bytes s ≡ None) ss
