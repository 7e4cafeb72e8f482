use Rattle.std.proofs.Common.{◌∙◌, ℕ, ap, sym, arith}
use Rattle.std.specs.Prelude.{Some, None, nat_le, if◌then◌else◌}
use Rattle.std.proofs.lemmas.Bool.Decides.{nat_tests}
use Rattle.number_packets.proofs.LineLemmas.{number_in-empty, number_in-long, number_in-other, number_in-digits, small_number}
use Rattle.number_packets.proofs.lines.line_number.Goals as goal
use Rattle.number_packets.proofs.lines.line_number.Goals.{then-is_empty-via-then-is_empty, then-is_empty-via-else-is_empty+then-line-gt3, then-is_empty-via-else-is_empty+else-line-gt3+then-not-are_digits}

pub returns-then-is_empty : goal.returns-then-is_empty
returns-then-is_empty c =
    elim c.then-is_empty.branch [
      | then-is_empty-via-then-is_empty w ↦ sym (number_in-empty c.args.line.now (grind (arith, nat_tests)))
      | then-is_empty-via-else-is_empty+then-line-gt3 w ↦ sym (number_in-long c.args.line.now (omega arith))
      | then-is_empty-via-else-is_empty+else-line-gt3+then-not-are_digits w ↦ sym (number_in-other c.args.line.now (grind (arith, nat_tests)))
    ]

pub returns : goal.returns
returns c =
    let line = c.args.line.now in
    let is_digits = number_in-digits line (grind (arith, nat_tests)) (omega arith) (grind (arith, nat_tests)) in
    c.ok.ensures.value ∙ small_number c.try_from.result c.decimal.result c.try_from.ensures
    ∙ ap (λ (n : ℕ). if nat_le n 255 then Some n else None) c.decimal.ensures
    ∙ sym is_digits
