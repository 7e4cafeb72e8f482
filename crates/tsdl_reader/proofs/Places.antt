-- A fault where something else is expected, and where the sizes of packets are missed.
use Rattle.std.proofs.Common.{◌≡◌, ℕ, List, [], Option, slice_get, Result, Ok, Err, IfErr, ◌≤◌, length, refl, inl, sym, subst}
use Rattle.std.proofs.lemmas.List.{append-nil}
use Rattle.tsdl_grammar.specs.declared.atom.Atom.{Atom}
use Rattle.tsdl_grammar.specs.declared.tree.Block.{Block}
use Rattle.tsdl_grammar.specs.declared.fault.MetaFaultKind.TheVariants as faults
use Rattle.tsdl_flaw.specs.declared.flaw.Flaw.{Flaw}
use Rattle.tsdl_flaw.specs.declared.flaw.Flaw.TheVariants as flaws
use Rattle.tsdl_flaw.specs.declared.flaw.Stop.{Stop}
use Rattle.tsdl_flaw.specs.declared.flaw.Stop.TheVariants as stops
use Rattle.tsdl_grammar.specs.Spelling.{text_toks}
use Rattle.tsdl_grammar.specs.Halts.{IsHalt}
use Rattle.tsdl_flaw.specs.Lengths.{most}
use Rattle.tsdl_flaw.specs.TextStops.{IsTextFault, StopsText}
use Rattle.tsdl_flaw.specs.Flaws.{FaultStands}
use Rattle.tsdl_flaw.specs.Stopping.{kind_of}
use Rattle.tsdl_flaw.proofs.Texts.{word_stands}
use Rattle.tsdl_flaw.proofs.TextStops.{text_stands}
use Rattle.tsdl_meaning.specs.PacketSizes.{IfSizesMissed, MissesSizes}
use Rattle.tsdl_reader.specs.Reading.{IsFlawOf, IsFaultOf, LackSizes}

-- the flaw of what stands where the atoms stop spelling blocks
pub placed : (text : List Atom) (at : ℕ) (flaw : Flaw) → IsHalt text at → IsFlawOf (slice_get text at) flaw → FaultStands text at (kind_of flaw)
placed text at (flaws.Syntax expected) halt h = inl halt
placed text at flaws.TypeDefinition halt h = inl halt
placed text at (flaws.NamedType expected) halt h = inl halt
placed text at flaws.LabelWithoutValue halt h = inl halt
placed text at (flaws.NoClock clocks) halt h = absurd h
placed text at (flaws.NoStream orphan) halt h = absurd h
placed text at (flaws.Unsupported name remedy) halt h =
    word_stands text at _ (faults.Unsupported name) h (λ front. inl (record { words = record { first = _; rest = [] }; behind = []; here = refl; same = sym (append-nil _) }))
placed text at flaws.Duplicate halt h = absurd h
placed text at (flaws.NumberTwice numbered) halt h = absurd h
placed text at flaws.NoPacketSize halt h = absurd h
placed text at (flaws.NoSize sizeless) halt h = absurd h
placed text at flaws.BadLength halt h = absurd h
placed text at (flaws.Limit expected) halt h = absurd h

-- a fault of a whole text, wherever it is answered
pub whole_stands : {A : Type 0} (text whole : List Atom) (answer : Result A Stop) → whole ≡ text → length text ≤ most → IfErr answer (StopsText whole) → IfErr answer (IsFaultOf text)
whole_stands text whole (Ok x) same bound h = tt
whole_stands text whole (Err (stops.Fault fault)) same bound h = text_stands text fault (subst (λ (l : List Atom). length l ≤ most → IsTextFault l fault) same h bound)
whole_stands text whole (Err stops.NoMemory) same bound h = tt

-- where something else is expected, no sizes are missed
pub misses_none : (found : Option Atom) (flaw : Flaw) → IsFlawOf found flaw → kind_of flaw ≡ faults.NoPacketSize → ⊥
misses_none found (flaws.Syntax expected) h e = absurd cc
misses_none found flaws.TypeDefinition h e = absurd cc
misses_none found (flaws.NamedType expected) h e = absurd cc
misses_none found flaws.LabelWithoutValue h e = absurd cc
misses_none found (flaws.NoClock clocks) h e = absurd h
misses_none found (flaws.NoStream orphan) h e = absurd h
misses_none found (flaws.Unsupported name remedy) h e = absurd cc
misses_none found flaws.Duplicate h e = absurd h
misses_none found (flaws.NumberTwice numbered) h e = absurd h
misses_none found flaws.NoPacketSize h e = absurd h
misses_none found (flaws.NoSize sizeless) h e = absurd h
misses_none found flaws.BadLength h e = absurd h
misses_none found (flaws.Limit expected) h e = absurd h

-- where blocks miss sizes, the atoms of the text that they spell do
pub misses : {A : Type 0} (text : List Atom) (bs : List Block) (answer : Result A Stop) → text_toks bs ≡ text → length text ≤ most → IfErr answer (MissesSizes bs)
    → IfErr answer (λ stop. IfSizesMissed stop (LackSizes text))
misses text bs (Ok x) same bound h = tt
misses text bs (Err (stops.Fault fault)) same bound h = λ e. (bs, sym same, h (subst (λ (l : List Atom). length l ≤ most) (sym same) bound) e)
misses text bs (Err stops.NoMemory) same bound h = tt
