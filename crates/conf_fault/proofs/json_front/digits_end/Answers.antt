use Rattle.std.proofs.Common.{◌≡◌, ◌∙◌, ap, arith, drop, rules, tests}
use Rattle.std.specs.Char.{is_ascii_digit}
use Rattle.std.specs.List.{prefix_len}
use Rattle.std.proofs.lemmas.Iterator.{YieldsList-from_slice}
use Rattle.std.proofs.lemmas.Iterator.Consumers.{count_from_yields_List}
use Rattle.std.proofs.lemmas.Iterator.Search.{YieldsList-from_take_while}
use Rattle.std.proofs.lemmas.List.Folds.{length-prefix_len}
use Rattle.conf_fault.proofs.StopLemmas.{digits_stand, digits_within}
use Rattle.conf_fault.proofs.json_front.digits_end.Goals as goal

pub returns-clause-digit : goal.returns-clause-digit
returns-clause-digit c =
    let text = c.args.text.now in
    let from = c.args.from in
    let rest = c.rest_of.result.now in
    let count : c.count-count.result ≡ prefix_len is_ascii_digit (drop from text) =
    count_from_yields_List c.take_while.result _ c.count-count.ensures.ran (YieldsList-from_take_while _ is_ascii_digit (YieldsList-from_slice rest cc) c.take_while.ensures.closure c.take_while.ensures.done (λ x b q k. search (rules, tests)))
    ∙ length-prefix_len is_ascii_digit rest ∙ ap (prefix_len is_ascii_digit) c.rest_of.ensures in
    digits_stand text from c.count-count.result c.saturating_add.result count c.if-count-eq0.false (let within = digits_within text from c.count-count.result count c.if-count-eq0.false in omega (arith, c.saturating_add.ensures, within))
