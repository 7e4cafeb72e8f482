use Rattle.std.proofs.Common.{arith, ◌∷◌, ◌++◌, take, refl, subst, codes, []}
use Rattle.tsdl_meaning.proofs.TextWords.{StopsAmong, behind_item, braced, flat_map, mark, named_fact_toks, take_all, word}
use Rattle.tsdl_grammar.specs.declared.token.Mark.TheVariants as marks
use Rattle.tsdl_meaning.proofs.FlawlessFacts.{Facts, fact_more, no_facts, facts_mean}
use Rattle.tsdl_meaning.proofs.JudgedParts.{handed, in_item}
use Rattle.tsdl_meaning.proofs.Fronts.{next_item}
use Rattle.tsdl_meaning.proofs.judge.block.judge_environment.Goals as goal

pub returns-in_err-judge_entry-clause-fault : goal.returns-in_err-judge_entry-clause-fault
returns-in_err-judge_entry-clause-fault c =
    let facts = c.args.facts.now in
    let i = c.loop-index.index in
    let toks = word (codes "env") ∷ braced (flat_map named_fact_toks facts) in
    let opening = word (codes "env") ∷ mark marks.OpenBrace ∷ [] in
    let before = flat_map named_fact_toks (take i facts) in
    let stop = c.in_err-judge_entry.field-0.0 in
    handed c.from_residual.result stop (StopsAmong c.args.at toks) c.from_residual.ensures.1
    (λ front behind.
    in_item named_fact_toks facts i c.index-facts-index.result toks opening (mark marks.CloseBrace ∷ []) front behind c.args.at c.loop-index.next stop (omega arith) c.index-facts-index.is refl
    c.loop-index.invariant.place
    (λ after. c.in_err-judge_entry.ensures.fault (front ++ (opening ++ before)) after (front, refl)))

pub loop-index-preserved : goal.loop-index-preserved
loop-index-preserved c =
    let opening = word (codes "env") ∷ mark marks.OpenBrace ∷ [] in
    record {
      place =
          behind_item named_fact_toks c.args.facts.now c.loop-index.index c.index-facts-index.result opening c.args.at c.loop-index.next c.length.result _ (omega arith) c.index-facts-index.is
          c.loop-index.invariant.place c.length.ensures c.saturating_add-next-in-loop-index.ensures;
      facts =
          next_item Facts c.args.facts.now c.loop-index.index c.index-facts-index.result (omega arith) c.index-facts-index.is
          (fact_more (take c.loop-index.index c.args.facts.now) c.index-facts-index.result c.loop-index.invariant.facts c.in_ok-judge_entry.ensures.flawless);
    }

pub returns-clause-flawless : goal.returns-clause-flawless
returns-clause-flawless c = facts_mean c.args.facts.now (subst Facts (take_all c.loop-index.index c.args.facts.now (omega arith)) c.loop-index.invariant.facts)

pub loop-index-init : goal.loop-index-init
loop-index-init c = record { place = λ fits. omega (arith, c.saturating_add-next.ensures); facts = no_facts }
