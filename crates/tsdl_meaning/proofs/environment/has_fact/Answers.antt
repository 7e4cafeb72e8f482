use Rattle.std.proofs.Common.{◌∙◌, sym, rules, tests}
use Rattle.tsdl_meaning.proofs.TextWords.{YieldsList-from_slice, any_from_yields_List, bytes_eq}
use Rattle.tsdl_meaning.proofs.Fronts.{any_mapped}
use Rattle.tsdl_meaning.proofs.environment.has_fact.Goals as goal

pub returns : goal.returns
returns c =
    any_from_yields_List (λ f. bytes_eq c.args.name.now f.name) _ _ _ c.any.ensures.ran (YieldsList-from_slice c.args.facts.now cc) (λ x b q k. search (rules, tests))
    ∙ sym (any_mapped (bytes_eq c.args.name.now) (λ f. f.name) c.args.facts.now)
