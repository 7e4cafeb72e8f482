use Rattle.std.proofs.Common.{◌∙◌, ◌++◌, ℕ, List, ap, sym}
use Rattle.std.specs.Prelude.{codes}
use Rattle.std.proofs.lemmas.Bool.{false≢true}
use Rattle.trace_text.specs.PrintedTexts.{listed}
use Rattle.trace_text.specs.PrintedValues.{member_texts}
use Rattle.trace_text.proofs.Listing.{structure_lines}
use Rattle.trace_text.proofs.Saying.{more, said}
use Rattle.trace_text.proofs.printing_values.say_structure.Goals as goal

pub returns : goal.returns
returns g c = λ name h.
    let members = c.args.structure.now.members in
    let values = c.args.values.now in
    said _
    (ap (λ (w : List ℕ). w ++ listed (member_texts members values) ++ codes "}") h
    ∙ structure_lines name members values (λ e. absurd (false≢true (sym c.if-is_empty.false ∙ c.is_empty.ensures.1 e))))
    (more (more c.say.ensures c.say_members.ensures) c.say-2.ensures)
