use Rattle.std.proofs.Common.{◌∙◌, ◌++◌, true, false, ap, append-nil, string_bytes, subst, sym}
use Rattle.std.specs.Prelude.{None, Some, codes, option_map}
use Rattle.std.specs.Str.{bytes_eq}
use Rattle.conf_fault.specs.Found.{data_of}
use Rattle.conf_fault.specs.Wanted.{IsTextThere}
use Rattle.conf_fault.proofs.WantedLemmas.{chosen, none_near, one_of, reals, texts}
use Rattle.conf_fault.proofs.by_kind.push_choice.Goals.{then-eq+in_ok-push_str, else-eq}
use Rattle.conf_fault.proofs.by_kind.push_choice.Goals as goal

pub returns-in_default : goal.returns-in_default
returns-in_default c =
    let words = texts c.args.words.now in
    let mid = string_bytes c.push_words.new.said in
    chosen c.args.found.now.source.text.now (data_of c.args.found.now.value) None words _ mid _ (subst (IsTextThere c.args.found.now.source.text.now (data_of c.args.found.now.value)) (ap (option_map string_bytes) c.in_default.is) c.in_ok-word.ensures) (one_of None words _ mid _ c.in_ok-push_words.ensures (none_near words mid)) (sym (append-nil mid))

pub returns : goal.returns
returns c =
    let words = texts c.args.words.now in
    let text = c.as_str.result.now in
    let mid = string_bytes c.push_nearest.new.said in
    let value = data_of c.args.found.now.value in
    let stands : IsTextThere c.args.found.now.source.text.now value (Some text) = subst (IsTextThere c.args.found.now.source.text.now value) (ap (option_map string_bytes) c.in-Some.is ∙ ap Some (sym c.as_str.ensures.value)) c.in_ok-word.ensures in
    let told = one_of (Some text) words _ _ mid c.in_ok-push_words.ensures c.in_ok-push_nearest.ensures in
    let same = ap (λ t. bytes_eq t (codes "real")) (c.as_str.ensures.value ∙ sym c.as_str-2.ensures.value) in
    elim c.if-eq.branch [
      | then-eq+in_ok-push_str w ↦ chosen c.args.found.now.source.text.now value (Some text) words _ mid _ stands told (ap string_bytes w.said-is ∙ w.in_ok-push_str.ensures.bytes ∙ ap (λ z. mid ++ z) (sym (reals text true (same ∙ sym w.if-eq.ensures))))
      | else-eq w ↦ chosen c.args.found.now.source.text.now value (Some text) words _ mid _ stands told (ap string_bytes w.said-is ∙ sym (append-nil mid) ∙ ap (λ z. mid ++ z) (sym (reals text false (same ∙ sym w.if-eq.ensures))))
    ]
