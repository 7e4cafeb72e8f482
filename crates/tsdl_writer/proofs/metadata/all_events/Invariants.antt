use Rattle.tsdl_writer.proofs.Printing.{all_event_blocks, drop, text_toks, Leaves}
use Rattle.tsdl_writer.proofs.metadata.all_events.Given as goal

abbrev pub invariant-loop-id : goal.invariant-loop-id
invariant-loop-id l = Leaves l.initial.out l.out (text_toks (all_event_blocks 0 l.streams)) (text_toks (all_event_blocks l.id (drop l.id l.streams)))
