use Rattle.std.proofs.Common.{◌∙◌, ℕ, Option, ap, length}
use Rattle.std.specs.Prelude.{unwrap_or}
use Rattle.trace_text.proofs.Escaping.{escape_or_end}
use Rattle.trace_text.proofs.printing_texts.plain_len.Goals as goal

pub returns-clause-plain : goal.returns-clause-plain
returns-clause-plain c =
    c.unwrap_or.ensures ∙ ap (λ (o : Option ℕ). unwrap_or o (length c.args.bytes.now)) c.first_escape.ensures ∙ escape_or_end c.args.form c.args.bytes.now
