-- What a reader of metadata answers: the metadata that the text denotes, or a fault that says why it denotes none.
use Rattle.std.specs.Prelude.{◌≡◌, ℕ, true, ◌⊎◌, List, length, Option, Some, slice_get, string_bytes, Result, Ok, Err}
use Rattle.std.specs.List.{list_all}
use Rattle.ctf_types.specs.declared.Metadata.{Metadata}
use Rattle.tsdl_grammar.specs.declared.token.Token.{Token}
use Rattle.tsdl_grammar.specs.declared.atom.Atom.{Atom}
use Rattle.tsdl_grammar.specs.declared.atom.Atom.TheVariants as atoms
use Rattle.tsdl_grammar.specs.declared.tree.Block.{Block}
use Rattle.tsdl_grammar.specs.declared.fault.MetaFault.{MetaFault}
use Rattle.tsdl_grammar.specs.declared.fault.MetaFaultKind.{MetaFaultKind}
use Rattle.tsdl_grammar.specs.declared.fault.MetaFaultKind.TheVariants as faults
use Rattle.tsdl_grammar.specs.Tokens.{HasMagicLine, Tokenizes, StopsAt, start_of}
use Rattle.tsdl_grammar.specs.Atoms.{atoms_of}
use Rattle.tsdl_grammar.specs.Spelling.{text_toks}
use Rattle.tsdl_grammar.specs.Denotes.{is_read, text_meta, Denotes}
use Rattle.tsdl_flaw.specs.declared.flaw.Flaw.{Flaw}
use Rattle.tsdl_flaw.specs.declared.flaw.Flaw.TheVariants as flaws
use Rattle.tsdl_flaw.specs.declared.flaw.Stop.{Stop}
use Rattle.tsdl_flaw.specs.declared.flaw.Stop.TheVariants as stops
use Rattle.tsdl_flaw.specs.Flaws.{FaultStands}
use Rattle.tsdl_flaw.specs.Stopping.{kind_of}
use Rattle.tsdl_meaning.specs.PacketSizes.{LacksSizes}

-- the atoms of a text mean the metadata: the part of `Denotes` behind the tokens
abbrev pub Means : List Atom → Metadata → Type 0
Means meant m = (list_all is_read meant ≡ true) × ((bs : List Block) × (meant ≡ text_toks bs) × (text_meta bs ≡ Some m))

-- the text begins with its magic line and has these tokens, which mean these atoms
pub record HasAtoms (text : List ℕ) (tokens : List Token) (meant : List Atom) : Type 0 where
  pub magic : HasMagicLine text
  pub split : Tokenizes text tokens
  pub atoms : meant ≡ atoms_of text tokens

-- this metadata, unless memory ran out
abbrev pub GivesMetadata : Result Metadata MetaFault → Metadata → Type 0
GivesMetadata (Ok found) m = found ≡ m
GivesMetadata (Err fault) m = fault.kind ≡ faults.OutOfMemory

-- a fault of this kind, unless memory ran out
abbrev pub GivesKind : Result Metadata MetaFault → MetaFaultKind → Type 0
GivesKind (Ok found) kind = ⊥
GivesKind (Err fault) kind = (fault.kind ≡ kind) ⊎ (fault.kind ≡ faults.OutOfMemory)

-- the atoms of a text mean nothing
abbrev pub MeansNothing : List Atom → Type 0
MeansNothing meant = (m : Metadata) → Means meant m → ⊥

-- these atoms spell blocks, and a stream block of them lacks one of the sizes of its packets
abbrev pub LackSizes : List Atom → Type 0
LackSizes meant = (bs : List Block) × (meant ≡ text_toks bs) × LacksSizes bs

-- a fault stands among the atoms of a text, or at their end
abbrev pub IsFaultOf : List Atom → Stop → Type 0
IsFaultOf meant (stops.Fault fault) = FaultStands meant fault.at (kind_of fault.flaw)
IsFaultOf meant stops.NoMemory = Unit {0}

-- a flaw of one atom, or of the end of the text: a construct that is not read is named by the word that stands there
abbrev pub IsFlawOf : Option Atom → Flaw → Type 0
IsFlawOf found (flaws.Syntax expected) = Unit {0}
IsFlawOf found flaws.TypeDefinition = Unit {0}
IsFlawOf found (flaws.NamedType expected) = Unit {0}
IsFlawOf found flaws.LabelWithoutValue = Unit {0}
IsFlawOf found (flaws.NoClock clocks) = ⊥
IsFlawOf found (flaws.NoStream orphan) = ⊥
IsFlawOf found (flaws.Unsupported name remedy) = found ≡ Some (atoms.Word (string_bytes name))
IsFlawOf found flaws.Duplicate = ⊥
IsFlawOf found (flaws.NumberTwice numbered) = ⊥
IsFlawOf found flaws.NoPacketSize = ⊥
IsFlawOf found (flaws.NoSize sizeless) = ⊥
IsFlawOf found flaws.BadLength = ⊥
IsFlawOf found (flaws.Limit expected) = ⊥

-- a fault is where a token begins or at the end of the text, and such a fault stands there among the atoms
abbrev pub IsPlaced : List Token → List Atom → ℕ → MetaFault → Type 0
IsPlaced tokens meant end fault = (index : ℕ) × (fault.place ≡ start_of (slice_get tokens index) end) × FaultStands meant index fault.kind

-- the text has tokens, and the place is where one of them begins or the end of the text, where a fault of this kind stands; the text denotes nothing
pub record IsRefused (text : List ℕ) (at : ℕ) (kind : MetaFaultKind) : Type 0 where
  pub magic : HasMagicLine text
  pub tokens : List Token
  pub split : Tokenizes text tokens
  pub index : ℕ
  pub place : at ≡ start_of (slice_get tokens index) (length text)
  pub fault : FaultStands (atoms_of text tokens) index kind
  pub nothing : (m : Metadata) → Denotes text m → ⊥

-- the text's tokens spell blocks, and a stream block of them lacks one of the sizes of its packets (CTF 1.8.3, section 5.2)
pub record IsWithoutSizes (text : List ℕ) : Type 0 where
  pub tokens : List Token
  pub split : Tokenizes text tokens
  pub lack : LackSizes (atoms_of text tokens)

-- what a fault says of the text, by its kind and place: the sizes of a stream's packets are missed where the text ends
abbrev pub FaultHolds : List ℕ → MetaFaultKind → ℕ → Type 0
FaultHolds text faults.NoMagicLine at = (at ≡ 0) × (HasMagicLine text → ⊥)
FaultHolds text faults.Token at = HasMagicLine text × StopsAt text at
FaultHolds text faults.Syntax at = IsRefused text at faults.Syntax
FaultHolds text (faults.Unsupported name) at = IsRefused text at (faults.Unsupported name)
FaultHolds text faults.Duplicate at = IsRefused text at faults.Duplicate
FaultHolds text faults.NoPacketSize at = IsRefused text at faults.NoPacketSize × (at ≡ length text) × IsWithoutSizes text
FaultHolds text faults.BadLength at = IsRefused text at faults.BadLength
FaultHolds text faults.Limit at = IsRefused text at faults.Limit
FaultHolds text faults.OutOfMemory at = Unit {0}
