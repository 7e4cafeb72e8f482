use Rattle.std.proofs.Common.{[], ◌++◌, ◌∙◌, take, refl}
use Rattle.trace_text.proofs.Escaping.{run_said, run_whole}
use Rattle.trace_text.proofs.Saying.{nothing, more, said}
use Rattle.trace_text.proofs.printing_texts.say_text.Goals as goal

pub loop-rest-init : goal.loop-rest-init
loop-rest-init g c = ([], refl, nothing _ _)

pub loop-rest-preserved : goal.loop-rest-preserved
loop-rest-preserved g c =
    let before = c.loop-rest.invariant in
    let rest = c.loop-rest.rest.now in
    let plain = c.split_at.result.0.now in
    let others = c.split_at.result.1.now in
    let parts = c.split_at.ensures in
    let first = c.say_first-rest in (
      (before.0 ++ plain) ++ take 1 others,
      run_whole before.0 rest plain others first.result.now c.plain_len.result parts.front parts.back first.ensures.behind ∙ before.1,
      said _ (run_said c.args.form before.0 rest plain others c.plain_len.result c.plain_len.ensures.plain parts.front) (more (more before.2 c.say_bytes.ensures) first.ensures.says),
    )
