-- Where judging a whole text stops.
use Rattle.std.specs.Prelude.{◌≡◌, ◌≤◌, ◌⊎◌, List, [], length}
use Rattle.tsdl_grammar.specs.declared.atom.Atom.{Atom}
use Rattle.tsdl_grammar.specs.declared.fault.MetaFaultKind.{MetaFaultKind}
use Rattle.tsdl_grammar.specs.declared.fault.MetaFaultKind.TheVariants as faults
use Rattle.tsdl_flaw.specs.declared.flaw.Fault.{Fault}
use Rattle.tsdl_flaw.specs.declared.flaw.Stop.{Stop}
use Rattle.tsdl_flaw.specs.declared.flaw.Stop.TheVariants as stops
use Rattle.tsdl_flaw.specs.Lengths.{most}
use Rattle.tsdl_flaw.specs.Unfinished.{IsUnfinished}
use Rattle.tsdl_flaw.specs.Stopping.{kind_of, StandsIn}

-- what is missed where the atoms end: the sizes of a stream's packets, a trace block, or the stream of an event
abbrev pub IsMissed : List Atom → MetaFaultKind → Type 0
IsMissed toks kind = (kind ≡ faults.NoPacketSize) ⊎ ((kind ≡ faults.Syntax) × IsUnfinished toks)

-- a fault of a whole text: among its atoms, or something is missed where it ends
abbrev pub IsTextFault : List Atom → Fault → Type 0
IsTextFault toks fault =
    StandsIn [] 0 toks fault ⊎ (IsMissed toks (kind_of fault.flaw) × (fault.at ≡ length toks) × (fault.end ≡ length toks))

-- judging a whole text stops at a fault of it, where each of its atoms has an index
abbrev pub StopsText : List Atom → Stop → Type 0
StopsText toks (stops.Fault fault) = length toks ≤ most → IsTextFault toks fault
StopsText toks stops.NoMemory = Unit {0}

-- what holds where judging stops at a fault
abbrev pub IfFault : Stop → Type 0 → Type 0
IfFault (stops.Fault fault) P = P
IfFault stops.NoMemory P = Unit {0}
