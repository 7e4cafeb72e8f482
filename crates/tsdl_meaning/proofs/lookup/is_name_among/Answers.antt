use Rattle.std.proofs.Common.{◌∙◌, sym, rules, tests}
use Rattle.tsdl_meaning.proofs.TextWords.{YieldsList-from_slice, any_from_yields_List, same_words, texts_of, words_of}
use Rattle.tsdl_meaning.proofs.Fronts.{any_mapped}
use Rattle.tsdl_meaning.proofs.lookup.is_name_among.Goals as goal

pub returns : goal.returns
returns c =
    any_from_yields_List (λ n. same_words (words_of c.args.name.now) (texts_of n.now)) _ _ _ c.any.ensures.ran (YieldsList-from_slice c.args.names.now cc) (λ x b q k. search (rules, tests))
    ∙ sym (any_mapped (same_words (words_of c.args.name.now)) (λ n. texts_of n.now) c.args.names.now)
