use Rattle.std.proofs.Common.{◌∷◌, ◌+◌, take, sym, ap, ◌∙◌}
use Rattle.std.proofs.lemmas.List.{take_rest}
use Rattle.number_packets.specs.Lines.{is_newline, lines_of}
use Rattle.number_packets.proofs.LineLemmas.{lines_of-first, lines_of-last, position-none}
use Rattle.number_packets.proofs.lines.first_line.Goals as goal

pub returns-in-Some-clause-first : goal.returns-in-Some-clause-first
returns-in-Some-clause-first c =
    let text = c.args.text.now in
    let end = c.in-Some.end in
    lines_of-first text end (sym c.in-Some.ensures) ∙ ap (λ l. take end text ∷ lines_of l) (sym (take_rest text (end + 1)))

pub returns-in-None-clause-first : goal.returns-in-None-clause-first
returns-in-None-clause-first c = lines_of-last c.args.text.now c.requires (position-none is_newline c.args.text.now (sym c.newline_at.ensures ∙ c.in-None.is))
