use Rattle.std.proofs.Common.{take, subst}
use Rattle.trace_platform.specs.Appending.{Fills}
use Rattle.trace_platform.proofs.scripted_sink.append_part.Goals as goal

pub returns : goal.returns
returns c =
    (c.append-part.result, subst (λ n. Fills c.args.sink.now (take n c.args.bytes.now) c.append-part.result c.append-part.new.self) c.min-end.ensures c.append-part.ensures)
