use Rattle.std.proofs.Common.{◌∙◌, ap, flat_map, map-id, sym}
use Rattle.std.proofs.Output.{has_written_of_eq}
use Rattle.std.proofs.lemmas.Iterator.{YieldsList-from_chars}
use Rattle.std.proofs.lemmas.Iterator.Consumers.{YieldsList-end}
use Rattle.conf_tree.specs.OneLine.{shown_character}
use Rattle.conf_tree.proofs.one_line.write_shown.Goals as goal

pub returns : goal.returns
returns g c = λ plain ok.
    let front = c.loop-character.yielded in
    let ended = YieldsList-end (YieldsList-from_chars c.args.text.now c.utf8.text cc) front _ c.loop-character.yielded_by _ _ c.in-None.is c.next.ensures.steps in
    has_written_of_eq _ _ _ _ _ (ap (flat_map shown_character) (sym (map-id front) ∙ ended.0)) (c.loop-character.invariant plain)
