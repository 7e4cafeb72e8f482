use Rattle.std.proofs.Common.{◌∙◌, arith, rules, tests}
use Rattle.tsdl_meaning.proofs.TextWords.{YieldsList-from_slice, YieldsList-from_zip, all_from_yields_List, bytes_eq}
use Rattle.tsdl_meaning.proofs.Fronts.{same_zipped}
use Rattle.tsdl_meaning.proofs.lookup.are_words.Goals as goal

pub returns-then-texts-words : goal.returns-then-texts-words
returns-then-texts-words c =
    let texts = c.args.texts.now in
    let words = c.args.words.now in
    all_from_yields_List (λ p. bytes_eq p.0 p.1.now) c.all.new.self _ _ c.all.ensures.ran (YieldsList-from_zip (YieldsList-from_slice texts cc) (YieldsList-from_slice words cc)) (λ x b q k. search (rules, tests))
    ∙ same_zipped (λ w. w.now) texts words (omega arith)
