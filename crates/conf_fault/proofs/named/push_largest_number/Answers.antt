use Rattle.std.proofs.Common.{◌≡◌, ◌∙◌, ◌++◌, ◌-◌, [], List, ap, append-nil, decimal, inr, refl, string_bytes, sym, ℕ}
use Rattle.std.specs.Prelude.{codes}
use Rattle.conf_fault.specs.Wanted.{IsLargestNumber, end_name, numbered_types}
use Rattle.conf_fault.proofs.Adding.{added}
use Rattle.conf_fault.proofs.named.push_largest_number.Goals as goal

pub returns : goal.returns
returns c =
    let feature = end_name c.args.path.now in
    let count = c.len-count.result in
    let words = λ (largest : ℕ) (things : List ℕ).
    codes "room for the number " ++ (decimal largest ++ (codes ", since " ++ (decimal count ++ (codes " " ++ (things ++ (codes " have the numbers 0 to " ++ decimal largest)))))) in
    let things : c.numbered_types-things.result.now ≡ numbered_types feature = c.numbered_types-things.ensures ∙ ap numbered_types c.end_name.ensures in
    added (IsLargestNumber feature) c.push_str.result _ [] _ _ _ (words (count - 1) (numbered_types feature)) (sym (append-nil (string_bytes c.args.said.now))) c.push_str.ensures.bytes
    (c.as_str-2.ensures.value ∙ c.in_ok-format.ensures.ok ∙ ap (λ largest. words largest c.numbered_types-things.result.now) c.saturating_sub-largest.ensures ∙ ap (words (count - 1)) things)
    (inr (count, refl))
