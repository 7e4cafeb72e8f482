use Rattle.std.proofs.Common.{rules}
use Rattle.command_words.proofs.word_values.bad_value.Goals as goal

pub returns-in-Ok : goal.returns-in-Ok
returns-in-Ok c = (c.args.expected.now, c.requires, search rules)
