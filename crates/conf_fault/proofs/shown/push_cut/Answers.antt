use Rattle.std.proofs.Common.{◌≡◌, ◌≤◌, ◌++◌, length, take, string_bytes, sym, ◌∙◌, ap, arith}
use Rattle.std.proofs.Math.Utf8.{encodes}
use Rattle.std.specs.Str.{chars}
use Rattle.std.specs.Prelude.{codes}
use Rattle.std.proofs.lemmas.Iterator.{YieldsList-from_chars}
use Rattle.std.proofs.lemmas.Iterator.Consumers.{YieldsList-so_far, YieldsList-turn, YieldsList-end}
use Rattle.std.proofs.lemmas.List.{length_push, map-id}
use Rattle.std.proofs.lemmas.Str.{encodes-chars}
use Rattle.conf_fault.specs.declared.shown.TheConstants.{MOST_CHARACTERS}
use Rattle.conf_fault.proofs.Adding.{appended_behind, behind}
use Rattle.conf_fault.proofs.ShownLemmas.{encodes_more, cut_short, cut_long}
use Rattle.conf_fault.proofs.shown.push_cut.Goals as goal

pub returns-then-count-eq-MOST_CHARACTERS : goal.returns-then-count-eq-MOST_CHARACTERS
returns-then-count-eq-MOST_CHARACTERS c =
    let text = c.args.text.now in
    let front = c.loop-character.yielded in
    let turn = YieldsList-turn (YieldsList-from_chars text c.utf8.text cc) front _ c.loop-character.yielded_by _ _ c.in-Some.character c.in-Some.is c.next.ensures.steps in
    let I = c.loop-character.invariant in
    let full : length front ≡ MOST_CHARACTERS = omega (arith, I.counted, c.if-count-eq-MOST_CHARACTERS.true) in
    let first = sym (map-id front) ∙ YieldsList-so_far (YieldsList-from_chars text c.utf8.text cc) front _ c.loop-character.yielded_by ∙ ap (λ n. take n (chars text)) full in
    appended_behind _ _ _ _ _ _ _ I.said c.push_str.ensures.bytes (ap (λ cs. encodes cs ++ codes "...") first ∙ sym (cut_long text (omega (arith, turn.0, full))))

pub loop-character-preserved : goal.loop-character-preserved
loop-character-preserved c =
    let I = c.loop-character.invariant in
    record {
      counted = omega (arith, I.counted, length_push c.loop-character.yielded c.in-Some.character);
      few = omega (arith, I.few, c.if-count-eq-MOST_CHARACTERS.false);
      said = behind _ _ _ _ _ I.said c.in_ok-push.ensures.bytes ∙ ap (λ z. string_bytes c.args.said.now ++ z) (sym (encodes_more c.loop-character.yielded c.in-Some.character));
    }

pub returns : goal.returns
returns c =
    let text = c.args.text.now in
    let front = c.loop-character.yielded in
    let ended = YieldsList-end (YieldsList-from_chars text c.utf8.text cc) front _ c.loop-character.yielded_by _ _ c.in-None.is c.next.ensures.steps in
    let I = c.loop-character.invariant in
    let short : length (chars text) ≤ MOST_CHARACTERS = omega (arith, ended.1, I.counted, I.few) in
    I.said ∙ ap (λ z. string_bytes c.args.said.now ++ z) (ap encodes (sym (map-id front) ∙ ended.0) ∙ encodes-chars text c.utf8.text ∙ sym (cut_short text short))
