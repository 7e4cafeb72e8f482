use Rattle.std.proofs.Common.{◌*◌, ◌<◌, ◌^◌, List, length, sym, subst, arith}
use Rattle.trace_text.specs.declared.script.ScriptStream.{ScriptStream}
use Rattle.trace_commands.proofs.shared_clock.readings_of_all.Goals as goal

pub overflow_mul-result : goal.overflow_mul-result
overflow_mul-result c =
    let low = subst (λ (l : List ScriptStream). c.args.quota.readings * length l < 2 ^ 64) (sym c.as_slice.ensures) c.requires in
    omega (arith, low)
