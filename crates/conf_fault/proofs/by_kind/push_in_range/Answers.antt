use Rattle.std.proofs.Common.{◌∙◌, ap}
use Rattle.std.specs.Prelude.{Some}
use Rattle.std.proofs.lemmas.Result.{on_ok_weaker}
use Rattle.conf_table.specs.declared.row.Content.{Content}
use Rattle.conf_fault.proofs.WantedLemmas.{in_class, in_word, texts}
use Rattle.conf_fault.proofs.by_kind.push_in_range.Goals as goal

pub returns-in-Some-Word : goal.returns-in-Some-Word
returns-in-Some-Word c =
    let word = rw c.in-Some-Word.is at c.in-Some-Word.field-0-is in
    on_ok_weaker c.push_choice.result
    (in_word c.args.found.now.source.text.now _ _ _ c.args.found.now.position _ _ _ (c.in-Some-Word.is ∙ ap (λ (content : Content). Some content) word) c.words_in.ensures) c.push_choice.ensures

pub returns-in_ok-classes_at-in-Some-Class : goal.returns-in_ok-classes_at-in-Some-Class
returns-in_ok-classes_at-in-Some-Class c =
    let class = rw c.in-Some-Class.is at c.in-Some-Class.field-0-is in
    on_ok_weaker c.push_choice-in-Some-Class.result
    (in_class c.args.found.now.source.text.now _ _ c.args.found.now.position _ _ _ (c.in-Some-Class.is ∙ ap (λ (content : Content). Some content) class)
    (ap texts c.as_slice.ensures.value ∙ c.in_ok-classes_at-in-Some-Class.ensures)) c.push_choice-in-Some-Class.ensures
