use Rattle.std.proofs.Common.{◌∙◌, ◌++◌, ℕ, List, ap, ap₂, codes, length}
use Rattle.std.specs.Fmt.{decimal}
use Rattle.std.proofs.lemmas.Result.{IfOk-weaker}
use Rattle.ctf_types.specs.declared.StreamType.{StreamType}
use Rattle.trace_commands.specs.Checking.{events_in}
use Rattle.trace_commands.proofs.CheckingLaws.{joined_five}
use Rattle.trace_commands.proofs.check_command.counted.Goals as goal

pub returns : goal.returns
returns c =
    let joined = joined_five (codes "ok: ") (decimal (length c.as_slice.result.now)) (codes " stream types, ") (decimal c.in_ok-events.events) (codes " event types\n") in
    let said = ap₂ (λ (streams : List StreamType) (events : ℕ). codes "ok: " ++ decimal (length streams) ++ codes " stream types, " ++ decimal events ++ codes " event types\n")
    c.as_slice.ensures (c.in_ok-events.ensures ∙ ap events_in c.as_slice-2.ensures) in
    IfOk-weaker c.format.result _ _ (λ text e. e ∙ joined ∙ said) c.format.ensures.ok
