use Rattle.std.proofs.Common.{append-nil, sym, inl, inr}
use Rattle.std.proofs.lemmas.List.{take_rest}
use Rattle.tsdl_grammar.proofs.Splits.{goes_on, has_ended, same_tokens}
use Rattle.tsdl_grammar.proofs.tokenizer.tokens.Goals as goal

pub returns-in_err-check_tokens-clause-only : goal.returns-in_err-check_tokens-clause-only
returns-in_err-check_tokens-clause-only c = λ ts magic has. absurd (let ok = c.in_err-check_tokens.ensures.only magic (ts, has) in cc)

pub loop-cut-preserved-in-Blank : goal.loop-cut-preserved-in-Blank
loop-cut-preserved-in-Blank c =
    let next = goes_on _ _ _ c.in-Some.cut c.loop-cut.invariant (rw take_rest at (sym c.in-Some.ensures.value)) c.in-Some.ensures.within.0 (rw take_rest at c.in-Some.ensures.within.1) in
    rw (← append-nil c.loop-cut.found.items) (elim c.in-Blank.is [ inl blank ↦ rw blank at next | inr comment ↦ rw comment at next ])

pub loop-cut-preserved : goal.loop-cut-preserved
loop-cut-preserved c =
    let next = goes_on _ _ _ c.in-Some.cut c.loop-cut.invariant (rw take_rest at (sym c.in-Some.ensures.value)) c.in-Some.ensures.within.0 (rw take_rest at c.in-Some.ensures.within.1) in
    rw c.in_ok-push-in-Token.ensures.items (rw c.in-Token.is at next)

pub returns : goal.returns
returns c =
    let has = c.in_ok-check_tokens.ensures.found in
    let ended = has_ended c.args.text.now c.loop-cut.at c.loop-cut.found.items c.loop-cut.invariant has.1 (rw take_rest at (sym c.in_default.ensures.value)) in
    record { found = (has.0, ended.0); only = λ ts magic t. same_tokens c.args.text.now c.loop-cut.found.items ts ended.0 t; spans = ended.1; fault = tt }
