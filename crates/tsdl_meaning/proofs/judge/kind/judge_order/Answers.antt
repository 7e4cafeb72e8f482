use Rattle.std.proofs.Common.{◌≡◌, ℕ, true, List, Some, None, cond, ap, subst, sym, ◌∙◌, arith}
use Rattle.tsdl_meaning.specs.OfferedWords.{words_by}
use Rattle.tsdl_meaning.proofs.TextWords.{bytes_eq, list_any}
use Rattle.tsdl_meaning.proofs.FlawlessTypes.{order_meant}
use Rattle.tsdl_meaning.proofs.Misfits.{any_order_unread}
use Rattle.tsdl_meaning.proofs.judge.kind.judge_order.Goals as goal

pub returns-in-Some-clause-fit : goal.returns-in-Some-clause-fit
returns-in-Some-clause-fit c =
    let survey = c.args.judging.now.survey.now in
    let w = c.as_str.result.now in
    let chosen : c.then_some-trace.result ≡ cond survey.has_order (Some survey.known.order) None = grind (arith, c.then_some-trace.ensures, c.order.ensures) in
    let among = subst (λ (ws : List (List ℕ)). list_any (bytes_eq w) ws ≡ true) (c.order_words.ensures ∙ ap words_by chosen) (sym (c.if-is_among.ensures {u = tt})) in
    order_meant survey.has_order survey.known.order c.args.value.now (rw (← c.word_value.ensures, c.in-Some.is, ← c.as_str.ensures) among)

pub returns-in_default-clause-fault : goal.returns-in_default-clause-fault
returns-in_default-clause-fault c = any_order_unread c.args.value.now c.args.at c.unread_order.result c.unread_order.ensures
