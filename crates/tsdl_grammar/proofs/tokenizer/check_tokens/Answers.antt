use Rattle.std.proofs.Common.{length, drop, arith, sym, ap, length-drop}
use Rattle.std.proofs.{lemmas.Bool.Decides.Decides-eqb, lemmas.List.{take_rest, drop_all}, lemmas.Slice.Eq.starts_is}
use Rattle.tsdl_grammar.specs.Tokens.{HasMagicLine, magic_line, Stuck}
use Rattle.tsdl_grammar.proofs.Splits.{goes_on, is_done, no_stop}
use Rattle.tsdl_grammar.proofs.tokenizer.check_tokens.Goals as goal

pub loop-at-preserved : goal.loop-at-preserved
loop-at-preserved c =
    let p = c.loop-at.invariant in
    (_, goes_on c.args.text.now c.loop-at.at p.0 c.in-Some.cut p.1 (rw take_rest at (sym c.in-Some.ensures.value)) c.in-Some.ensures.within.0 (rw take_rest at c.in-Some.ensures.within.1))

pub returns-in_default : goal.returns-in_default
returns-in_default c =
    let p = c.loop-at.invariant.1 in
    let left = c.loop-at-test.true in
    let stuck : Stuck (drop c.loop-at.at c.args.text.now) = (λ e. absurd (omega (arith, ap length e, length-drop c.loop-at.at c.args.text.now)), rw take_rest at (sym c.in_default.ensures.value)) in
    let magic : HasMagicLine c.args.text.now = (drop (length magic_line) c.args.text.now, (starts_is Decides-eqb c.args.text.now magic_line c.starts_with.result c.starts_with.ensures.value).0 c.if-not-starts_with.false) in
    record {
      found = tt;
      only = λ magic has. absurd (no_stop c.args.text.now (drop c.loop-at.at c.args.text.now) has.1.0 p.cuts has.1.1 p.splits stuck);
      fault = (magic, (p.cuts, drop c.loop-at.at c.args.text.now, p.splits, stuck, omega (arith, p.within, length-drop c.loop-at.at c.args.text.now)));
    }

pub returns-clause-found : goal.returns-clause-found
returns-clause-found c =
    let magic : HasMagicLine c.args.text.now = (drop (length magic_line) c.args.text.now, (starts_is Decides-eqb c.args.text.now magic_line c.starts_with.result c.starts_with.ensures.value).0 c.if-not-starts_with.false) in
    let p = c.loop-at.invariant in
    (magic, (p.0, (is_done c.args.text.now c.loop-at.at p.0 p.1 (drop_all c.loop-at.at c.args.text.now c.loop-at-test.false)).0))
