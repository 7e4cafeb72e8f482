use Rattle.std.proofs.Common.{◌≡◌, ◌∙◌, ℤ}
use Rattle.std.proofs.lemmas.Int.{to_z-of_z}
use Rattle.conf_fault.specs.Expected.{range_words}
use Rattle.conf_fault.proofs.Adding.{appended}
use Rattle.conf_fault.proofs.expected.push_range.Goals as goal

same_range : (a b c d : ℤ) → a ≡ c → b ≡ d → range_words a b ≡ range_words c d
same_range a b c d e f = cc

pub returns : goal.returns
unfolding range_words
returns c =
    appended _ _ _ _ _ c.push_str.ensures.bytes
    (c.as_str.ensures.value ∙ c.in_ok-format.ensures.ok ∙ same_range _ _ _ _ (to_z-of_z _ c.args.low c.ranges.low) (to_z-of_z _ c.args.high c.ranges.high))
