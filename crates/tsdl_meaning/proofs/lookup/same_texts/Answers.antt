use Rattle.std.proofs.Common.{◌∙◌, ap, arith, rules, tests}
use Rattle.tsdl_meaning.proofs.TextWords.{YieldsList-from_slice, YieldsList-from_zip, all_from_yields_List, bytes_eq, map-id, same_words}
use Rattle.tsdl_meaning.proofs.Fronts.{same_zipped}
use Rattle.tsdl_meaning.proofs.lookup.same_texts.Goals as goal

pub returns-then-left-right : goal.returns-then-left-right
returns-then-left-right c =
    let left = c.args.left.now in
    let right = c.args.right.now in
    all_from_yields_List (λ p. bytes_eq p.0 p.1) c.all.new.self _ _ c.all.ensures.ran (YieldsList-from_zip (YieldsList-from_slice left cc) (YieldsList-from_slice right cc)) (λ x b q k. search (rules, tests))
    ∙ same_zipped (λ x. x) left right (omega arith) ∙ ap (same_words left) (map-id right)
