use Rattle.std.proofs.Common.{◌≡◌, drop}
use Rattle.tsdl_meaning.proofs.TextWords.{each, named_fact_meaning, with_front}
use Rattle.tsdl_meaning.proofs.environment.entries_of.Given as goal

abbrev pub invariant-loop-fact : goal.invariant-loop-fact
invariant-loop-fact l = with_front l.entries (each named_fact_meaning (drop l.fact-index l.facts)) ≡ each named_fact_meaning l.facts
