use Rattle.serde_json.specs.View.{view}
use Rattle.std.proofs.lemmas.Result.{err_from_is_err_and}
use Rattle.conf_tree.specs.declared.limits.TheConstants.{MAX_LEVELS}
use Rattle.conf_tree.proofs.Flaws.{flawless, read_holds, accepted}
use Rattle.conf_tree.proofs.read.read_tree.Goals as goal

pub returns-in_err-check_value-clause-holds : goal.returns-in_err-check_value-clause-holds
returns-in_err-check_value-clause-holds c =
    let p = err_from_is_err_and c.from_residual.result c.from_residual.ensures.1 in
    rw (p.1, p.2) (read_holds _ _ c.in_err-check_value.field-0.0 c.in-Ok.ensures.ok.1 c.in_err-check_value.ensures.first)

pub invariant_of-result : goal.invariant_of-result
invariant_of-result c =
    let sound = flawless (view c.in-Ok.value) MAX_LEVELS (accepted _ c.in_ok-check_value.ensures.first) in
    record { nested = sound.0; whole = sound.1; ordered = c.in_ok-check_value.ensures.ordered }
