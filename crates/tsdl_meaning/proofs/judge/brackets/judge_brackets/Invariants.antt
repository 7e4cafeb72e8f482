use Rattle.std.proofs.Common.{take}
use Rattle.tsdl_meaning.proofs.TextWords.{AreBrackets, StandsBehind, bracket_toks, flat_map}
use Rattle.tsdl_meaning.proofs.judge.brackets.judge_brackets.Given as goal

-- the brackets so far stand before the place, and have these lengths
abbrev pub invariant-loop-bracket : goal.invariant-loop-bracket
invariant-loop-bracket l = record { stands : StandsBehind l.at (flat_map bracket_toks (take l.bracket-index l.brackets)) l.next; brackets : AreBrackets l.before (take l.bracket-index l.brackets) l.lengths }
