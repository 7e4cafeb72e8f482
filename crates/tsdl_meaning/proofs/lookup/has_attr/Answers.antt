use Rattle.std.proofs.Common.{◌∙◌, sym, rules, tests}
use Rattle.tsdl_meaning.proofs.TextWords.{YieldsList-from_slice, any_from_yields_List, same_words, words_of}
use Rattle.tsdl_meaning.proofs.Fronts.{any_mapped}
use Rattle.tsdl_meaning.proofs.lookup.has_attr.Goals as goal

pub returns : goal.returns
returns c =
    any_from_yields_List (λ a. same_words (words_of c.args.name.now) (words_of a.name)) _ _ _ c.any.ensures.ran (YieldsList-from_slice c.args.attributes.now cc) (λ x b q k. search (rules, tests))
    ∙ sym (any_mapped (same_words (words_of c.args.name.now)) (λ a. words_of a.name) c.args.attributes.now)
