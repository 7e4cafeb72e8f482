-- Where judging stops: at a fault, unless memory ran out.
use Rattle.std.specs.Prelude.{◌≡◌, ℕ, ◌+◌, ◌≤◌, List, length}
use Rattle.tsdl_grammar.specs.declared.atom.Atom.{Atom}
use Rattle.tsdl_grammar.specs.declared.fault.MetaFaultKind.{MetaFaultKind}
use Rattle.tsdl_grammar.specs.declared.fault.MetaFaultKind.TheVariants as faults
use Rattle.tsdl_flaw.specs.declared.flaw.Flaw.{Flaw}
use Rattle.tsdl_flaw.specs.declared.flaw.Flaw.TheVariants as flaws
use Rattle.tsdl_flaw.specs.declared.flaw.Fault.{Fault}
use Rattle.tsdl_flaw.specs.declared.flaw.Stop.{Stop}
use Rattle.tsdl_flaw.specs.declared.flaw.Stop.TheVariants as stops
use Rattle.tsdl_flaw.specs.Lengths.{most}
use Rattle.tsdl_flaw.specs.Flaws.{IsFlaw}

-- the kind of a flaw
abbrev pub kind_of : Flaw → MetaFaultKind
kind_of (flaws.Syntax expected) = faults.Syntax
kind_of flaws.TypeDefinition = faults.Syntax
kind_of (flaws.NamedType expected) = faults.Syntax
kind_of flaws.LabelWithoutValue = faults.Syntax
kind_of (flaws.NoClock clocks) = faults.Syntax
kind_of (flaws.NoStream orphan) = faults.Syntax
kind_of (flaws.Unsupported name remedy) = faults.Unsupported name
kind_of flaws.Duplicate = faults.Duplicate
kind_of (flaws.NumberTwice numbered) = faults.Duplicate
kind_of flaws.NoPacketSize = faults.NoPacketSize
kind_of (flaws.NoSize sizeless) = faults.NoPacketSize
kind_of flaws.BadLength = faults.BadLength
kind_of (flaws.Limit limit) = faults.Limit

-- the fault stands among these atoms, of which the first has this index and stands behind a front
pub record StandsIn (front : List Atom) (at : ℕ) (toks : List Atom) (fault : Fault) : Type 0 where
  pub from : ℕ
  pub to : ℕ
  pub begins : fault.at ≡ at + from
  pub ends : fault.end ≡ at + to
  pub flaw : IsFlaw front toks from to (kind_of fault.flaw)

-- the same, where each of the atoms has an index
abbrev pub StopsIn : List Atom → ℕ → List Atom → Stop → Type 0
StopsIn front at toks (stops.Fault fault) = at + length toks ≤ most → StandsIn front at toks fault
StopsIn front at toks stops.NoMemory = Unit {0}
