use Rattle.tsdl_flaw.proofs.Stops.{spelled}
use Rattle.tsdl_flaw.proofs.flaw.Stop.unsupported.Goals as goal

pub returns-in-Ok : goal.returns-in-Ok
returns-in-Ok c = λ front behind. c.at.ensures front behind (spelled front c.args.name.now c.in-Ok.written c.in-Ok.ensures)
