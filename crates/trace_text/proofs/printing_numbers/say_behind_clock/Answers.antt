use Rattle.std.proofs.Common.{◌≤◌, ◌-◌, ◌∷◌, ◌++◌, ◌∙◌, [], ap, length, length-append, take, arith, rules}
use Rattle.std.specs.Fmt.{decimal}
use Rattle.std.proofs.lemmas.Fmt.{length-decimal-le}
use Rattle.std.proofs.lemmas.List.{take_all}
use Rattle.trace_text.proofs.Numbers.{in_front}
use Rattle.trace_text.proofs.Saying.{said}
use Rattle.trace_text.proofs.printing_numbers.say_behind_clock.Goals as goal

pub write_digits-start-requires : goal.write_digits-start-requires
write_digits-start-requires g c = (omega (arith, length-decimal-le 20 c.args.value (omega arith) (omega arith) c.ranges.value.fits), search rules)

pub overflow_sub-start : goal.overflow_sub-start
overflow_sub-start g c = omega (arith, length-decimal-le 20 c.args.value (omega arith) (omega arith) c.ranges.value.fits)

pub returns : goal.returns
returns g c =
    let w = c.write_digits-start in
    let short : length (decimal c.args.value) ≤ 20 = length-decimal-le 20 c.args.value (omega arith) (omega arith) c.ranges.value.fits in
    let text = in_front w.new.buf _ w.result 58 (omega (arith, short, w.ensures.start)) (omega (arith, w.ensures.start)) w.ensures.written in
    said _
    (ap (take (22 - (w.result - 1))) text
    ∙ take_all (22 - (w.result - 1)) (58 ∷ (decimal c.args.value ++ 32 ∷ [])) (omega (arith, short, w.ensures.start, length-append (decimal c.args.value) (32 ∷ []))))
    c.say_bytes.ensures
