-- A fault of a configuration, as contracts see it: the path from the outermost value to the place, outermost step
-- first, and what is wrong there. A name is its bytes. Want of memory is no flaw of the configuration.
use Rattle.std.specs.Prelude.{◌≡◌, ℕ, List, [], ◌∷◌, map, string_bytes, decimal}
use Rattle.conf_tree.specs.declared.fault_kind.FaultKind.{FaultKind}
use Rattle.conf_tree.specs.declared.fault_kind.FaultKind.TheVariants.{OutOfMemory}
use Rattle.conf_tree.specs.declared.step.Step.{Step}
use Rattle.conf_tree.specs.declared.step.Step.TheVariants.{Key, Index}
use Rattle.conf_tree.specs.declared.fault.ConfFault.{ConfFault}
use Rattle.conf_tree.specs.OneLine.{shown}

-- one step: to the property of a name, or to the item at an index
pub data Place : Type 0 where
  key : List ℕ → Place
  index : ℕ → Place

pub record Flaw : Type 0 where
  pub path : List Place
  pub kind : FaultKind

abbrev pub place_of : Step → Place
place_of (Key name) = key (string_bytes name)
place_of (Index i) = index i

-- how a step is printed: a name on one line, an index in decimal digits
abbrev pub text_of_place : Place → List ℕ
text_of_place (key name) = shown name
text_of_place (index i) = decimal i

-- the flaw that a fault tells of
abbrev pub flaw_of : ConfFault → Flaw
flaw_of fault = record { path = map place_of fault.path; kind = fault.kind }

-- a flaw of the value itself
abbrev pub here : FaultKind → Flaw
here kind = record { path = []; kind = kind }

-- the same flaw, seen from the value around it
abbrev pub within : Place → Flaw → Flaw
within place flaw = record { path = place ∷ flaw.path; kind = flaw.kind }

-- memory ran out, which has no place
abbrev pub IsMemory : ConfFault → Type 0
IsMemory fault = flaw_of fault ≡ here OutOfMemory
