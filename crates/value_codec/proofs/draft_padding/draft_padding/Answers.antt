use Rattle.std.proofs.Common.{arith}
use Rattle.ctf_types.proofs.Ends.{up-lt}
use Rattle.value_codec.proofs.draft_padding.draft_padding.Goals as goal

pub aligned-requires-clause-position : goal.aligned-requires-clause-position
aligned-requires-clause-position c = omega (arith, up-lt c.args.at c.args.align c.requires.align.0, c.requires.within.0, c.requires.within.1)
