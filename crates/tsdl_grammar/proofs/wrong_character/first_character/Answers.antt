use Rattle.std.proofs.Common.{arith}
use Rattle.std.specs.Str.Iter.{chars_rest}
use Rattle.tsdl_grammar.proofs.FirstCharacter.{first_of, lies_within, none_begins, none_more}
use Rattle.tsdl_grammar.proofs.wrong_character.first_character.Goals as goal

pub loop-len-init : goal.loop-len-init
loop-len-init c = λ k p q. absurd (omega (arith, p, q))

pub returns-in-Some : goal.returns-in-Some
returns-in-Some c =
    let bytes = c.args.bytes.now in
    let len = c.loop-len.len in
    first_of _ c.next.result (chars_rest c.chars.result) (chars_rest c.next.new.self) c.in-Some.text.now bytes len c.chars.ensures.rest c.in-Some.ensures.0 c.in-Some.ensures.1 (omega (arith, c.loop-len.auto.len))
    (lies_within bytes len c.min-most.result c.min-most.ensures c.loop-len-test.true) c.next.ensures.steps.0

pub loop-len-preserved : goal.loop-len-preserved
loop-len-preserved c = none_more c.args.bytes.now c.loop-len.len c.loop-len.invariant c.in_default.ensures

pub returns : goal.returns
returns c = none_begins c.args.bytes.now c.loop-len.len c.min-most.result c.min-most.ensures (omega (arith, c.loop-len-test.false)) c.loop-len.invariant
