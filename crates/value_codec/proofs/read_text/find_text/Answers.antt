use Rattle.std.proofs.Common.{ℕ, List, sym, ◌∙◌, arith}
use Rattle.std.proofs.lemmas.Result.{err_from_is_err_and}
use Rattle.ctf_types.specs.Bits.{bit_of}
use Rattle.value_codec.proofs.ReadingSteps.{gives_fault, text_unstarted, text_past, text_ended, text_unended}
use Rattle.value_codec.proofs.read_text.find_text.Goals as goal

pub returns-in_err-start-clause-text : goal.returns-in_err-start-clause-text
returns-in_err-start-clause-text c =
    let p = err_from_is_err_and c.from_residual.result c.from_residual.ensures.1 in
    rw (p.1, p.2) (gives_fault {A = List ℕ × ℕ} (λ x. x) _ _ (text_unstarted c.args.order (bit_of c.args.order c.args.bytes.now) c.args.limit c.args.at _ (sym c.in_err-start.ensures.start)))

pub returns-then-start-limit-clause-text : goal.returns-then-start-limit-clause-text
returns-then-start-limit-clause-text c =
    let at_limit = rw c.if-start-limit.true at (sym c.in_ok-start.ensures.start) in
    text_past c.args.order (bit_of c.args.order c.args.bytes.now) c.args.limit c.args.at at_limit

pub returns-in_default-clause-text : goal.returns-in_default-clause-text
returns-in_default-clause-text c =
    text_unended c.args.order c.args.bytes.now c.args.limit c.args.at c.in_ok-start.start (sym c.in_ok-start.ensures.start) (omega (arith, c.if-start-limit.false, c.in_ok-start.ensures.within)) c.requires.inside (λ i. (c.type_inv.bytes i).fits) (sym c.text_len.ensures ∙ c.in_default.is)

pub returns-clause-text : goal.returns-clause-text
returns-clause-text c =
    let ended = text_ended c.args.order c.args.bytes.now c.args.limit c.args.at c.in_ok-start.start (sym c.in_ok-start.ensures.start) (omega (arith, c.if-start-limit.false, c.in_ok-start.ensures.within)) c.requires.inside (λ i. (c.type_inv.bytes i).fits) c.in-Some.len (sym c.text_len.ensures ∙ c.in-Some.is) in
    ended.0

pub returns-clause-within : goal.returns-clause-within
returns-clause-within c =
    let ended = text_ended c.args.order c.args.bytes.now c.args.limit c.args.at c.in_ok-start.start (sym c.in_ok-start.ensures.start) (omega (arith, c.if-start-limit.false, c.in_ok-start.ensures.within)) c.requires.inside (λ i. (c.type_inv.bytes i).fits) c.in-Some.len (sym c.text_len.ensures ∙ c.in-Some.is) in
    ended.1
