-- How many calls of a worker were accepted, by its answers.
use Rattle.std.specs.Prelude.{ℕ, Bool, true, false, List}
use Rattle.std.specs.List.{count_by}
use Rattle.thread_stream.specs.declared.verdict.Verdict.TheVariants.{Accepted}
use Rattle.trace_stack.specs.declared.answer.Answer.{Answer}
use Rattle.trace_stack.specs.declared.answer.Answer.TheVariants.{Traced}

abbrev pub is_accepted : Answer → Bool
is_accepted (Traced (Accepted reading)) = true
is_accepted _ = false

abbrev pub accepted : List Answer → ℕ
accepted answers = count_by is_accepted answers
