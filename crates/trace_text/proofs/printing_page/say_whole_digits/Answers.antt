use Rattle.std.proofs.Common.{◌++◌, ◌∙◌, ℕ, List, [], ap, append-nil, refl, sym, string_bytes}
use Rattle.trace_text.proofs.Saying.{more, put_there, written_all}
use Rattle.trace_text.proofs.printing_page.say_whole_digits.Goals as goal

pub returns-then-not-put-2 : goal.returns-then-not-put-2
returns-then-not-put-2 g c =
    let past = c.write_past.ensures in
    let page = c.args.page.now in
    let text = string_bytes page.digits in
    more (put_there _ page _ [] ((c.if-not-put.ensures {u = tt}).stays refl ∙ sym (append-nil page.bytes)) refl)
    (more c.turn.ensures.says
    (written_all _ _ c.turn.new.page _ text _ (c.as_bytes-then-not-put-2.ensures.value ∙ ap string_bytes c.turn.ensures.digits ∙ ap (λ (l : List ℕ). l ++ text) (sym c.turn.ensures.empty))
    past.written past.front past.less past.stays ((c.if-not-put-2.ensures {u = tt}).stays refl ∙ c.turn.ensures.empty)))
