use Rattle.std.proofs.Common.{inr, codes, refl}
use Rattle.trace_commands.specs.Telling.{IsFileLine}
use Rattle.trace_commands.proofs.TellingLaws.{failed}
use Rattle.trace_commands.proofs.first_command.first_path.Goals as goal

pub returns : goal.returns
returns g c = λ text given.
    let old = g.E.Write.contents c.args.errors.now in
    let new = g.E.Write.contents c.fail.new.errors in
    inr (c.fail.ensures.status, failed (IsFileLine (codes "standard input")) (g.W.Write.contents c.args.output.now) old new (_, inr refl, c.fail.ensures.said))
