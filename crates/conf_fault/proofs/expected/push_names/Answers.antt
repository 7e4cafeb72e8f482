use Rattle.std.proofs.Common.{◌≡◌, ◌∙◌, ◌++◌, ◌-◌, ap, arith, decimal, length, string_bytes, sym, take}
use Rattle.std.specs.Prelude.{codes}
use Rattle.std.proofs.lemmas.List.{length-map, take-map}
use Rattle.conf_fault.specs.declared.expected.TheConstants.{MOST_NAMES}
use Rattle.conf_fault.specs.Expected.{listed}
use Rattle.conf_fault.proofs.Adding.{appended_behind}
use Rattle.conf_fault.proofs.WantedLemmas.{many, texts}
use Rattle.conf_fault.proofs.expected.push_names.Goals as goal

pub returns : goal.returns
returns c =
    let names = c.args.names.now in
    let same : length (texts names) ≡ length names = length-map names (λ w. w.now) in
    let front = c.in_ok-push_words.ensures ∙ ap (λ words. string_bytes c.args.said.now ++ listed words) (sym (take-map (λ w. w.now) MOST_NAMES names)) in
    let back = c.as_str.ensures.value ∙ c.in_ok-format.ensures.ok ∙ ap (λ n. codes " and " ++ decimal (n - MOST_NAMES) ++ codes " more") (sym same) in
    appended_behind c.push_str.result _ (listed (take MOST_NAMES (texts names))) _ _ _ _ front c.push_str.ensures.bytes
    (ap (λ z. listed (take MOST_NAMES (texts names)) ++ z) back ∙ many (texts names) (omega (arith, same, c.if-names-le-MOST_NAMES.false)))
