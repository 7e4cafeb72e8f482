use Rattle.std.proofs.Common.{◌≡◌, ℕ, ◌+◌, take, not, ◌∙◌, ap, arith, rules, tests}
use Rattle.std.specs.Prelude.{reverse}
use Rattle.std.specs.List.{count_by, suffix_len}
use Rattle.std.proofs.lemmas.Iterator.Consumers.{count_from_yields_List}
use Rattle.std.proofs.lemmas.Iterator.Adapters.{YieldsList-from_rev_slice}
use Rattle.std.proofs.lemmas.Iterator.Search.{YieldsList-from_take_while}
use Rattle.std.proofs.lemmas.List.{take_min}
use Rattle.std.proofs.lemmas.List.Folds.{length-prefix_len}
use Rattle.conf_fault.specs.LineColumn.{is_newline, line_behind, column_behind}
use Rattle.conf_fault.proofs.line_column.line_column.Goals as goal

pub returns : goal.returns
unfolding line_behind column_behind
returns c =
    let text = c.args.text.now in
    let before = take c.min.result text in
    let other = λ (b : ℕ). not (is_newline b) in
    let newlines : c.count.result ≡ count_by is_newline before = search (rules, tests) in
    let last : c.count-column.result ≡ suffix_len other before =
    count_from_yields_List c.take_while.result _ c.count-column.ensures.ran (YieldsList-from_take_while _ other (YieldsList-from_rev_slice before cc) c.take_while.ensures.closure c.take_while.ensures.done (λ x b q k. search (rules, tests)))
    ∙ length-prefix_len other (reverse before) in
    let same = ap (λ n. take n text) c.min.ensures ∙ take_min c.args.at text in
    record {
      line = ap (λ n. 1 + n) newlines ∙ ap line_behind same;
      column = ap (λ n. 1 + n) last ∙ ap column_behind same;
      lies = (c.min.result, (omega (arith, c.min.ensures), ap (λ n. 1 + n) newlines, ap (λ n. 1 + n) last));
    }
