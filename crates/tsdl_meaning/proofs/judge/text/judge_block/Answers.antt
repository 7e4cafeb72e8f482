use Rattle.std.proofs.Common.{◌++◌, refl, sym, subst, inl, inr, codes}
use Rattle.tsdl_meaning.proofs.TextWords.{Block, StopsIn, block_toks, braced, flat_map, items_toks, named_fact_toks, word}
use Rattle.tsdl_meaning.proofs.judge.text.judge_block.Goals as goal

pub returns-in-Trace-clause-fault : goal.returns-in-Trace-clause-fault
returns-in-Trace-clause-fault c = λ front behind n.
    subst (λ (b : Block). StopsIn front c.args.at (block_toks b ++ behind) c.at_atom.result) (sym c.in-Trace.is)
    (c.at_atom.ensures front (items_toks c.in-Trace.field-0 ++ behind) (word (codes "trace")) (inr (inr (inr (inr (inr (inl (n.trace c.if-ledger.true, refl))))))))

pub returns-in-Environment-clause-fault : goal.returns-in-Environment-clause-fault
returns-in-Environment-clause-fault c = λ front behind n.
    subst (λ (b : Block). StopsIn front c.args.at (block_toks b ++ behind) c.at_atom-in-Environment.result) (sym c.in-Environment.is)
    (c.at_atom-in-Environment.ensures front (braced (flat_map named_fact_toks c.in-Environment.field-0) ++ behind) (word (codes "env"))
    (inr (inr (inr (inr (inr (inr (n.environment c.if-ledger-2.true, refl))))))))
