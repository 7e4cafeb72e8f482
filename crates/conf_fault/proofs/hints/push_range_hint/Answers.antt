use Rattle.std.proofs.Common.{◌∙◌, ◌++◌, [], append-nil, inr, refl, string_bytes, sym}
use Rattle.std.specs.Prelude.{codes}
use Rattle.std.specs.Fmt.{signed_decimal}
use Rattle.conf_fault.specs.Wanted.{IsRangeHint}
use Rattle.conf_fault.proofs.Adding.{added}
use Rattle.conf_fault.proofs.hints.push_range_hint.Goals as goal

pub returns : goal.returns
returns c =
    let low = c.in-Some.held.0 in
    let high = c.in-Some.held.1 in
    added IsRangeHint c.push_str.result _ [] _ _ _ (codes "; the integer holds " ++ (signed_decimal low ++ (codes " to " ++ signed_decimal high))) (sym (append-nil (string_bytes c.args.said.now)))
    c.push_str.ensures.bytes (c.as_str.ensures.value ∙ c.in_ok-format.ensures.ok) (inr (low, high, refl))
