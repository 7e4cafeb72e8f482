use Rattle.std.proofs.Common.{◌∙◌, refl, subst, sym}
use Rattle.std.proofs.lemmas.List.{drop_all}
use Rattle.conf_fault.specs.Found.{Leads, end_of}
use Rattle.conf_fault.proofs.EndLemmas.{one_further}
use Rattle.conf_fault.proofs.source.Source.find.Goals as goal

pub loop-index-preserved : goal.loop-index-preserved
loop-index-preserved c =
    let so_far = c.loop-index.invariant in
    record {
      leads = λ end rest. so_far.leads end (one_further c.args.self.now.text.now c.args.path.now c.loop-index.index c.index-path-index.result _ (end_of c.loop-index.found) (end_of c.step.new.found) end
          c.loop-index-test.true c.index-path-index.is c.get.ensures.lookup.0 c.in_ok-step.ensures.next rest);
      source = c.in_ok-step.ensures.source ∙ so_far.source;
    }

pub returns : goal.returns
returns c =
    let text = c.args.self.now.text.now in
    let end = end_of c.loop-index.found in
    record {
      ends = c.loop-index.invariant.leads end (subst (λ steps. Leads text end steps end) (sym (drop_all c.loop-index.index c.args.path.now c.loop-index-test.false)) refl);
      source = c.loop-index.invariant.source;
    }
