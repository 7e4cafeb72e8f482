use Rattle.std.proofs.Common.{sym, ◌∙◌}
use Rattle.tsdl_grammar.proofs.AtomsAhead.{no_atom, skips, takes}
use Rattle.tsdl_grammar.proofs.front.first_token.Goals as goal

pub loop-cut-preserved : goal.loop-cut-preserved
loop-cut-preserved c =
    rw c.split_at.ensures.back (c.loop-cut.invariant ∙ skips c.loop-cut.rest.now c.in-Some.cut (sym c.in-Some.ensures.value) c.in-Some.ensures.within.0 c.in-Blank.is)

pub returns-in-Token : goal.returns-in-Token
returns-in-Token c =
    rw (c.split_at.ensures.front, c.split_at.ensures.back) (c.loop-cut.invariant ∙ takes c.loop-cut.rest.now c.in-Some.cut c.in-Token.kind (sym c.in-Some.ensures.value) c.in-Some.ensures.within.0 c.in-Token.is)

pub returns : goal.returns
returns c = c.loop-cut.invariant ∙ no_atom c.loop-cut.rest.now (sym c.in_default.ensures.value)
