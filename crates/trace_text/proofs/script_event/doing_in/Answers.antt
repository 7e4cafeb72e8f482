use Rattle.std.proofs.Common.{◌∙◌}
use Rattle.trace_text.proofs.DoingLaws.{no_doing}
use Rattle.trace_text.proofs.script_event.doing_in.Goals as goal

pub returns-then-len-ne1 : goal.returns-then-len-ne1
returns-then-len-ne1 c = no_doing c.args.members.now.entries (λ one. c.if-len-ne1.true (c.len.ensures.len ∙ one))
