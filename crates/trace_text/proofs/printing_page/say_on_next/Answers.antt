use Rattle.std.proofs.Common.{◌++◌, ◌∙◌, ℕ, List, ap, refl, sym}
use Rattle.trace_text.proofs.Saying.{more, put_there, written_all}
use Rattle.trace_text.proofs.printing_page.say_on_next.Goals as goal

pub returns-then-not-put : goal.returns-then-not-put
returns-then-not-put g c =
    let past = c.write_past.ensures in
    let text = c.args.text.now in
    more c.turn.ensures.says
    (written_all _ _ c.turn.new.page _ text text (ap (λ (l : List ℕ). l ++ text) (sym c.turn.ensures.empty)) past.written past.front past.less past.stays
    ((c.if-not-put.ensures {u = tt}).stays refl ∙ c.turn.ensures.empty))

pub returns-else-not-put : goal.returns-else-not-put
returns-else-not-put g c = more c.turn.ensures.says (put_there _ c.turn.new.page _ c.args.text.now ((c.if-not-put.ensures {u = tt}).put refl) refl)
