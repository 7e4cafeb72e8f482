-- A fault of a metadata text, explained: where it stands, what stands there, and what is wrong.
use Rattle.std.specs.Prelude.{◌≡◌, ℕ, ◌⊎◌, Bool, true, false, List, ◌++◌, length, min, codes}
use Rattle.tsdl_grammar.specs.declared.fault.MetaFault.{MetaFault}
use Rattle.tsdl_grammar.specs.declared.fault.MetaFaultKind.{MetaFaultKind}
use Rattle.tsdl_grammar.specs.declared.fault.MetaFaultKind.TheVariants as faults
use Rattle.tsdl_grammar.specs.FaultWords.{kind_words, IsFoundAt}
use Rattle.tsdl_flaw.specs.FlawWords.{twice_words, sizeless_words}
use Rattle.tsdl_flaw.specs.declared.flaw.Numbered.{Numbered}
use Rattle.tsdl_flaw.specs.declared.flaw.Sizeless.{Sizeless}

-- the words tell the numbers that stand twice, or the stream that lacks a size and which one it is
abbrev pub TellsNumbers : MetaFaultKind → List ℕ → Type 0
TellsNumbers faults.NoMagicLine words = ⊥
TellsNumbers faults.Token words = ⊥
TellsNumbers faults.Syntax words = ⊥
TellsNumbers (faults.Unsupported name) words = ⊥
TellsNumbers faults.Duplicate words = (numbered : Numbered) × (words ≡ twice_words numbered)
TellsNumbers faults.NoPacketSize words = (sizeless : Sizeless) × (words ≡ sizeless_words sizeless)
TellsNumbers faults.BadLength words = ⊥
TellsNumbers faults.Limit words = ⊥
TellsNumbers faults.OutOfMemory words = ⊥

-- what is wrong, in the words of its kind or with the numbers
abbrev pub IsSaid : MetaFaultKind → List ℕ → Type 0
IsSaid kind words = (words ≡ kind_words kind) ⊎ TellsNumbers kind words

-- the kinds whose own words say all that is wrong but for numbers; of the others the text tells more
abbrev pub says_all : MetaFaultKind → Bool
says_all faults.NoMagicLine = false
says_all faults.Token = false
says_all faults.Syntax = false
says_all (faults.Unsupported name) = false
says_all faults.Duplicate = true
says_all faults.NoPacketSize = true
says_all faults.BadLength = true
says_all faults.Limit = false
says_all faults.OutOfMemory = true

-- the fault in words: its place in the text, or the text's end where the text has no such place, and what is wrong
pub record IsExplained (text : List ℕ) (fault : MetaFault) (said : List ℕ) : Type 0 where
  pub place : List ℕ
  pub words : List ℕ
  pub said_is : said ≡ place ++ codes ": " ++ words
  pub place_is : IsFoundAt text (min fault.place (length text)) place
  pub words_are : says_all fault.kind ≡ true → IsSaid fault.kind words
