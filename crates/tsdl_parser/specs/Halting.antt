-- What is said of a text that stops spelling blocks: that it does, and where. No clause says what was expected there, or what is
-- missing.
use Rattle.std.specs.Prelude.{◌≡◌, ℕ, ◌+◌, List, length, Result, Ok, Err}
use Rattle.tsdl_grammar.specs.{declared.atom.Atom.Atom, Halts.IsHalt}
use Rattle.tsdl_parser.specs.declared.{halt.Halt.Halt, halt.Unread.Unread}
use Rattle.tsdl_parser.specs.declared.halt.Unread.TheVariants as unread

-- said of a text that stops, and not where memory ran out
abbrev pub IfHalted : Unread → Type 0 → Type 0
IfHalted unread.Memory said = Unit {0}
IfHalted (unread.Halted s) said = said

-- the atoms stop spelling blocks at the place from which so many are left
abbrev pub HaltsAmong : List Atom → Unread → Type 0
HaltsAmong toks unread.Memory = Unit {0}
HaltsAmong toks (unread.Halted h) = (at : ℕ) × (at + h.left ≡ length toks) × IsHalt toks at

-- what was found is what is answered, and where nothing was found, both say the same reason and the same place
abbrev pub Alike : {X : Type 0} → Result X Unread → Result X Unread → Type 0
Alike found (Ok x) = found ≡ Ok x
Alike found (Err unread.Memory) = found ≡ Err unread.Memory
Alike found (Err (unread.Halted s)) = (t : Halt) × (found ≡ Err (unread.Halted t)) × (t.left ≡ s.left)
