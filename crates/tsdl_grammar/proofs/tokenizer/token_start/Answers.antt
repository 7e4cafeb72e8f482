use Rattle.std.proofs.Common.{◌-◌, sym, arith, inl, inr}
use Rattle.std.proofs.lemmas.List.{take_rest}
use Rattle.tsdl_grammar.proofs.TokenStarts.{starts_here, starts_nowhere, passes}
use Rattle.tsdl_grammar.proofs.tokenizer.token_start.Goals as goal
use Rattle.tsdl_grammar.proofs.tokenizer.token_start.Goals.{in-Blank, in-Token-2}

pub returns-in-Token : goal.returns-in-Token
returns-in-Token c =
    starts_here c.args.text.now c.loop-cut.at c.loop-cut.before c.args.index c.in-Some.cut c.in-Token.field-0 c.loop-cut.invariant (let z = c.if-before-eq0.true in omega arith) (rw take_rest at (sym c.in-Some.ensures.value)) c.in-Token.is

pub loop-cut-preserved : goal.loop-cut-preserved
loop-cut-preserved c =
    let here = rw take_rest at (sym c.in-Some.ensures.value) in
    let within = rw take_rest at c.in-Some.ensures.within.1 in
    elim c.match-cut.branch [
      | in-Blank w ↦
          rw w.before-is (passes c.args.text.now c.loop-cut.at c.loop-cut.before c.loop-cut.before c.args.index c.in-Some.cut c.loop-cut.invariant here
          (elim w.in-Blank.is [ inl blank ↦ rw blank (omega arith) | inr comment ↦ rw comment (omega arith) ]) c.in-Some.ensures.within.0 within)
      | in-Token-2 w ↦
          rw w.before-is (passes c.args.text.now c.loop-cut.at c.loop-cut.before (c.loop-cut.before - 1) c.args.index c.in-Some.cut c.loop-cut.invariant here
          (let z = w.if-before-eq0.false in rw w.in-Token-2.is (omega arith)) c.in-Some.ensures.within.0 within)
    ]

pub returns : goal.returns
returns c = starts_nowhere c.args.text.now c.loop-cut.at c.loop-cut.before c.args.index c.loop-cut.invariant (rw take_rest at (sym c.in_default.ensures.value))
