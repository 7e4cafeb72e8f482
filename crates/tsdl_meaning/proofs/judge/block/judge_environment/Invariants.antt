use Rattle.std.proofs.Common.{◌∷◌, ◌++◌, take, codes, []}
use Rattle.tsdl_meaning.proofs.TextWords.{StandsBehind, flat_map, mark, named_fact_toks, word}
use Rattle.tsdl_grammar.specs.declared.token.Mark.TheVariants as marks
use Rattle.tsdl_meaning.proofs.FlawlessFacts.{Facts}
use Rattle.tsdl_meaning.proofs.judge.block.judge_environment.Given as goal

abbrev pub invariant-loop-index : goal.invariant-loop-index
invariant-loop-index l =
    record { place : StandsBehind l.at ((word (codes "env") ∷ mark marks.OpenBrace ∷ []) ++ flat_map named_fact_toks (take l.index l.facts)) l.next; facts : Facts (take l.index l.facts) }
