use Rattle.std.proofs.Common.{◌∙◌, ap, sym}
use Rattle.std.proofs.Output.{has_written_of_eq}
use Rattle.conf_tree.specs.OneLine.{shown_character}
use Rattle.conf_tree.proofs.OneLineLemmas.{shown_plain, shown_steering}
use Rattle.conf_tree.proofs.one_line.write_character.Goals as goal

pub returns-then-character-eq10 : goal.returns-then-character-eq10
unfolding shown_character
returns-then-character-eq10 g c = λ plain ok.
    has_written_of_eq _ _ _ _ _ (sym (ap shown_character c.if-character-eq10.true)) (c.write_str.ensures.writes plain ok)

pub returns-then-character-eq9 : goal.returns-then-character-eq9
unfolding shown_character
returns-then-character-eq9 g c = λ plain ok.
    has_written_of_eq _ _ _ _ _ (sym (ap shown_character c.if-character-eq9.true)) (c.write_str-then-character-eq9.ensures.writes plain ok)

pub returns-then-steers : goal.returns-then-steers
returns-then-steers g c = λ plain ok.
    has_written_of_eq _ _ _ _ _ (sym (shown_steering c.args.character c.if-character-eq10.false c.if-character-eq9.false (sym c.steers.ensures ∙ c.if-steers.true)))
    (c.write_escaped.ensures plain ok)

pub returns : goal.returns
returns g c = λ plain ok.
    has_written_of_eq _ _ _ _ _ (sym (shown_plain c.args.character c.if-character-eq10.false c.if-character-eq9.false (sym c.steers.ensures ∙ c.if-steers.false)))
    (c.write_char.ensures.writes plain ok)
