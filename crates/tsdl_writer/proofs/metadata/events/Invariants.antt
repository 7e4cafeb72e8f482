use Rattle.tsdl_writer.proofs.Printing.{drop, event_blocks, text_toks, Leaves}
use Rattle.tsdl_writer.proofs.metadata.events.Given as goal

abbrev pub invariant-loop-id : goal.invariant-loop-id
invariant-loop-id l = Leaves l.initial.out l.out (text_toks (event_blocks l.stream_id 0 l.events)) (text_toks (event_blocks l.stream_id l.id (drop l.id l.events)))
