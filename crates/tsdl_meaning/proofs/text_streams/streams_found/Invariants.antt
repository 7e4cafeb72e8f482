use Rattle.std.proofs.Common.{◌≡◌, length}
use Rattle.tsdl_meaning.proofs.TextWords.{each, flat_map, stream_in, stream_meaning, with_front}
use Rattle.tsdl_meaning.proofs.text_streams.streams_found.Given as goal

abbrev pub invariant-loop-rest : goal.invariant-loop-rest
invariant-loop-rest l = with_front l.streams (each (stream_meaning l.known) (flat_map stream_in l.rest)) ≡ each (stream_meaning l.known) (flat_map stream_in l.blocks)

abbrev pub decreases-loop-rest : goal.decreases-loop-rest
decreases-loop-rest l = length l.rest
