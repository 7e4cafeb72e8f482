use Rattle.std.proofs.Common.{◌≡◌, ◌++◌, ◌+◌, ℕ, drop, length, string_bytes, subst, sym}
use Rattle.std.proofs.Math.Utf8.{encodes}
use Rattle.std.specs.Str.{chars}
use Rattle.std.proofs.lemmas.Iterator.{YieldsList-from_chars}
use Rattle.std.proofs.lemmas.Iterator.Consumers.{YieldsList-turn, YieldsList-end}
use Rattle.std.proofs.lemmas.List.{length_push}
use Rattle.conf_fault.specs.declared.written.Within.{Within}
use Rattle.conf_fault.specs.declared.written.Within.TheVariants.{Between}
use Rattle.conf_fault.specs.Written.{all_kept}
use Rattle.conf_fault.proofs.WrittenLemmas.{all_are_kept, one_kept}
use Rattle.conf_fault.proofs.written.closed_up.Goals as goal

pub loop-character-preserved : goal.loop-character-preserved
loop-character-preserved c =
    let text = c.args.value.now in
    let front = c.loop-character.yielded in
    let now = string_bytes c.push_kept.new.words in
    let whole = encodes (all_kept Between (chars text)) in
    let turn = YieldsList-turn (YieldsList-from_chars text c.utf8.value cc) front _ c.loop-character.yielded_by _ _ c.in-Some.character c.in-Some.is c.next.ensures.steps in
    let step = one_kept c.loop-character.within (chars text) (length front) c.in-Some.character (string_bytes c.loop-character.words) now whole turn.0 turn.1 c.loop-character.invariant c.in_ok-push_kept.ensures in
    subst (λ (n : ℕ). now ++ encodes (all_kept c.behind-within.result (drop n (chars text))) ≡ whole) (sym (length_push front c.in-Some.character))
    (subst (λ (w : Within). now ++ encodes (all_kept w (drop (length front + 1) (chars text))) ≡ whole) (sym c.behind-within.ensures) step)

pub returns : goal.returns
returns c =
    let text = c.args.value.now in
    let front = c.loop-character.yielded in
    let ended = YieldsList-end (YieldsList-from_chars text c.utf8.value cc) front _ c.loop-character.yielded_by _ _ c.in-None.is c.next.ensures.steps in
    all_are_kept c.loop-character.within (chars text) (length front) (string_bytes c.loop-character.words) (encodes (all_kept Between (chars text))) (sym ended.1) c.loop-character.invariant
