-- A source that does not know what is to come before the end of its back end was given to it: a list platform below, and the mark that it settled.
use Rattle.std.specs.Prelude.{◌≡◌, ℕ, Bool, List, Option, None, Some, if◌then◌else◌, ◌||◌}
use Rattle.packet_writer.specs.declared.packet.Packet.{Packet}
use Rattle.trace_platform.specs.declared.scripted_source.ScriptedSource.{ScriptedSource}
use Rattle.trace_platform.specs.Queue.{Takes, Regains}

-- what is to come, where that is known
abbrev pub rest_of : Bool → List Packet → Option (List Packet)
rest_of settled waiting = if settled then Some waiting else None

abbrev pub SourceTakes : ScriptedSource → Option Packet → ScriptedSource → Type 0
SourceTakes a answer b = Takes a.back_end answer b.back_end × (b.settled ≡ a.settled)

abbrev pub SourceRegains : ScriptedSource → List ℕ → ScriptedSource → Type 0
SourceRegains a buffer b = Regains a.back_end buffer b.back_end × (b.settled ≡ a.settled)

-- the end says whether it is given
abbrev pub SourceSettles : ScriptedSource → Bool → Bool → ScriptedSource → Type 0
SourceSettles a done answer b = (answer ≡ done) × (b.back_end ≡ a.back_end) × (b.settled ≡ (a.settled || done))
