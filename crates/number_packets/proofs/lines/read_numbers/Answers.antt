use Rattle.std.proofs.Common.{◌≡◌, ℕ, ◌+◌, List, sym, ap, ◌∙◌, arith}
use Rattle.std.specs.Prelude.{Err}
use Rattle.std.proofs.lemmas.Bool.Decides.{nat_tests}
use Rattle.number_packets.specs.Lines.{joined, lines_of, numbers_from}
use Rattle.number_packets.proofs.LineLemmas.{numbers_from-more, numbers_from-bad, numbers_from-none}
use Rattle.number_packets.proofs.lines.read_numbers.Goals as goal

pub returns-in-None-clause-first_bad : goal.returns-in-None-clause-first_bad
returns-in-None-clause-first_bad c = λ n e.
    let same : c.loop-rest.place ≡ n = cc in
    c.loop-rest.invariant.found
    ∙ numbers_from-bad c.loop-rest.numbers.items c.loop-rest.place c.loop-rest.rest.now c.first_line.result.0.now c.first_line.result.1.now c.first_line.ensures.first
    (sym c.line_number.ensures ∙ c.in-None.is)
    ∙ ap Err same

pub loop-rest-preserved : goal.loop-rest-preserved
loop-rest-preserved c =
    let left = c.first_line.result.1.now in
    record {
      found =
          c.loop-rest.invariant.found
          ∙ numbers_from-more c.loop-rest.numbers.items c.loop-rest.place c.loop-rest.rest.now c.first_line.result.0.now left c.in-Some.number c.first_line.ensures.first
          (sym c.line_number.ensures ∙ c.in-Some.is)
          ∙ ap (λ (l : List ℕ). joined l (numbers_from (c.loop-rest.place + 1) (lines_of left))) (sym c.in_ok-push-in-Some.ensures.items);
      counted = omega (arith, c.first_line.ensures.shorter, c.loop-rest.invariant.counted);
    }

pub returns-clause-numbers : goal.returns-clause-numbers
returns-clause-numbers c =
    c.loop-rest.invariant.found ∙ numbers_from-none c.loop-rest.place c.loop-rest.rest.now (grind (arith, nat_tests)) c.loop-rest.numbers.items
