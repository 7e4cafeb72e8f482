use Rattle.tsdl_writer.proofs.Printing.{EnvironmentEntry, IsHeldValue, List, ap, drop, drop_all, false≢true, flat_map, length, map, named_fact_toks, named_fact_tree, sym, ◌+◌, ◌==◌, ◌∙◌, last, one_more, all_printed, item, environment_stands, all_more, all_met}
use Rattle.tsdl_writer.proofs.blocks.environment.Goals as goal

pub loop-entry-preserved : goal.loop-entry-preserved
loop-entry-preserved c =
    let x = c.entry-item.result in let xs = c.args.entries.now in let i = c.loop-entry.entry-index in
    record {
      prints = one_more (named_fact_toks (named_fact_tree x)) (flat_map named_fact_toks (map named_fact_tree (drop (i + 1) xs))) c.loop-entry.invariant.prints
          (ap (λ (es : List EnvironmentEntry). flat_map named_fact_toks (map named_fact_tree es)) (item xs i x c.loop-entry-test.true c.entry-item.is)) c.in_ok-fact.ensures.prints;
      held = all_more (λ (e : EnvironmentEntry). IsHeldValue e.value) xs i x c.loop-entry-test.true c.entry-item.is c.loop-entry.invariant.held c.in_ok-fact.ensures.held;
    }

pub returns : goal.returns
returns c =
    let xs = c.args.entries.now in let i = c.loop-entry.entry-index in
    let all = all_printed c.loop-entry.invariant.prints (ap (λ (es : List EnvironmentEntry). flat_map named_fact_toks (map named_fact_tree es)) (drop_all i xs c.loop-entry-test.false)) in
    record {
      prints = last c.print-2.result c.print-2.ensures (λ one rest text e.
          environment_stands xs rest (λ h. absurd (false≢true (sym c.if-is_empty.false ∙ c.is_empty.ensures ∙ ap (λ (es : List EnvironmentEntry). length es == 0) h))) (c.in_ok-print.ensures _ text (all _ text (one rest text e))));
      held = last c.print-2.result c.print-2.ensures (λ one. all_met (λ (e : EnvironmentEntry). IsHeldValue e.value) xs i c.loop-entry-test.false c.loop-entry.invariant.held);
    }
