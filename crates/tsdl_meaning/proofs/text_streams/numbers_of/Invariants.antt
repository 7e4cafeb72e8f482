use Rattle.std.proofs.Common.{take}
use Rattle.tsdl_meaning.specs.Groups.{HasNumbers}
use Rattle.tsdl_meaning.proofs.text_streams.numbers_of.Given as goal

abbrev pub invariant-loop-stream : goal.invariant-loop-stream
invariant-loop-stream l = HasNumbers (take l.stream-index l.streams) l.numbers
