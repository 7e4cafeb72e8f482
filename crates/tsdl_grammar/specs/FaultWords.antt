-- Faults of a metadata text in words: where they stand, what stands there, and what is wrong.
use Rattle.std.specs.Prelude.{◌≡◌, ◌≤◌, ◌<◌, ℕ, List, [], ◌++◌, length, take, drop, None, codes, IfSome, string_bytes, decimal}
use Rattle.tsdl_grammar.specs.declared.fault.MetaFaultKind.{MetaFaultKind}
use Rattle.tsdl_grammar.specs.declared.fault.MetaFaultKind.TheVariants as faults
use Rattle.tsdl_grammar.specs.declared.position.TheConstants.{LONGEST_SHOWN}
use Rattle.tsdl_grammar.specs.{Pieces.piece_at, Positions.{line_after, column_after}, WrongCharacters.{IsQuoted, IsWrongCharacter}}

-- what is wrong, by the kind of the fault
abbrev pub kind_words : MetaFaultKind → List ℕ
kind_words faults.NoMagicLine = codes "expected the line `/* CTF 1.8 */`"
kind_words faults.Token = codes "no token of TSDL starts here"
kind_words faults.Syntax = codes "this is not allowed here"
kind_words (faults.Unsupported name) = codes "`" ++ string_bytes name ++ codes "` is not supported here"
kind_words faults.Duplicate = codes "this is given twice"
kind_words faults.NoPacketSize = codes "a stream's packet context has no `packet_size` or no `content_size`"
kind_words faults.BadLength = codes "expected the name of an unsigned integer member that stands before"
kind_words faults.Limit = codes "this passes a limit"
kind_words faults.OutOfMemory = codes "out of memory"

-- what is said to stand at the front of some bytes: the end of the text where there are none, and else their first piece, all of it where it has at
-- most 40 bytes, or the character at which none begins
pub record IsSaidOf (bytes found : List ℕ) : Type 0 where
  pub ending : bytes ≡ [] → found ≡ codes "the end of the text"
  pub piece : IfSome (piece_at bytes) (λ cut. cut.len ≤ LONGEST_SHOWN → IsQuoted (take cut.len bytes) found)
  pub wrong : 0 < length bytes → piece_at bytes ≡ None → IsWrongCharacter bytes found

-- what is said of a byte of a text, or of its end: its number, its line and its column, and what stands there
pub record IsFoundAt (text : List ℕ) (at : ℕ) (said : List ℕ) : Type 0 where
  pub found : List ℕ
  pub stands : IsSaidOf (drop at text) found
  pub words : said ≡ codes "byte " ++ decimal at ++ codes ", line " ++ decimal (line_after (take at text)) ++ codes ", column " ++ decimal (column_after (take at text)) ++ codes ": found " ++ found
