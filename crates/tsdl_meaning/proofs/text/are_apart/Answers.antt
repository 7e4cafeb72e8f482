use Rattle.std.proofs.Common.{◌≡◌, Bool, IfOk, subst, arith, ◌∙◌}
use Rattle.std.proofs.lemmas.List.{take_all}
use Rattle.tsdl_meaning.proofs.DistinctKeys.{distinct_texts}
use Rattle.tsdl_meaning.proofs.text.are_apart.Goals as goal

pub returns : goal.returns
returns c =
    subst (λ (b : Bool). IfOk c.are_distinct.result (λ apart. apart ≡ b))
    (distinct_texts c.loop-text.words.items c.args.texts.now (c.loop-text.invariant ∙ take_all c.loop-text.text-index c.args.texts.now (omega arith))) c.are_distinct.ensures
