use Rattle.tsdl_writer.proofs.Printing.{drop, stream_blocks, text_toks, Leaves}
use Rattle.tsdl_writer.proofs.metadata.streams.Given as goal

abbrev pub invariant-loop-id : goal.invariant-loop-id
invariant-loop-id l = Leaves l.initial.out l.out (text_toks (stream_blocks 0 l.streams)) (text_toks (stream_blocks l.id (drop l.id l.streams)))
