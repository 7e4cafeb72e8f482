use Rattle.std.proofs.Common.{◌≡◌, length}
use Rattle.tsdl_meaning.proofs.TextWords.{each, event_in, event_meaning, flat_map, with_front}
use Rattle.tsdl_meaning.proofs.text_streams.events_found.Given as goal

abbrev pub invariant-loop-rest : goal.invariant-loop-rest
invariant-loop-rest l = with_front l.events (each (event_meaning l.known) (flat_map event_in l.rest)) ≡ each (event_meaning l.known) (flat_map event_in l.blocks)

abbrev pub decreases-loop-rest : goal.decreases-loop-rest
decreases-loop-rest l = length l.rest
