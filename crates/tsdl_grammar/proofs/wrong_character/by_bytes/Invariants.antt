use Rattle.std.proofs.Common.{◌≡◌, ◌++◌, take, string_bytes, codes}
use Rattle.std.specs.List.{flat_map}
use Rattle.tsdl_grammar.specs.WrongCharacters.{escaped_byte}
use Rattle.tsdl_grammar.proofs.wrong_character.by_bytes.Given as goal

abbrev pub invariant-loop-byte : goal.invariant-loop-byte
invariant-loop-byte l = string_bytes l.found ≡ codes "\"" ++ flat_map escaped_byte (take l.byte-index l.bytes)
