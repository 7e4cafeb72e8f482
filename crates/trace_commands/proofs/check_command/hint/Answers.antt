use Rattle.std.proofs.Common.{◌∙◌}
use Rattle.std.proofs.lemmas.Result.{IfOk-weaker}
use Rattle.trace_commands.proofs.CheckingLaws.{no_hint, some_hint}
use Rattle.trace_commands.proofs.check_command.hint.Goals as goal

pub returns-in-Some : goal.returns-in-Some
returns-in-Some c = c.new.ensures.items ∙ no_hint c.args.path.now c.args.config.now c.in-Some.field-0 c.in-Some.is

pub returns-in-None : goal.returns-in-None
returns-in-None c =
    IfOk-weaker c.fault_line.result _ _ (λ line e. e ∙ some_hint c.args.path.now c.args.config.now c.in-None.is) c.fault_line.ensures
