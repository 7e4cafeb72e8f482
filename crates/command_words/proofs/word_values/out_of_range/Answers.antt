use Rattle.std.proofs.Common.{◌∙◌, subst, sym}
use Rattle.clap.specs.Words.{Text}
use Rattle.command_words.specs.LineFaults.{Expects}
use Rattle.command_words.proofs.word_values.out_of_range.Goals as goal

pub bad_value-requires : goal.bad_value-requires
bad_value-requires c = subst (λ (t : Text). Expects c.args.option.now t) (sym (c.as_str.ensures.value ∙ c.in-Ok.ensures.ok)) c.requires
