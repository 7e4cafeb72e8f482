use Rattle.std.proofs.Common.{◌≡◌, true, arith, ◌∷◌, ◌++◌, refl, sym, ◌∙◌, inl, inr, append_assoc, codes, []}
use Rattle.tsdl_grammar.specs.declared.token.Mark.TheVariants as marks
use Rattle.tsdl_meaning.proofs.TextWords.{AddsFact, EndsFacts, StopsUnless, StopsWhere, fact_meaning, fact_toks, flat_map, is_some, mark, named_fact_toks, stops_after, word, IfErr-weaker, IfOk-weaker}
use Rattle.tsdl_flaw.specs.declared.flaw.Flaw.TheVariants as flaws
use Rattle.tsdl_flaw.proofs.Stops.{whole}
use Rattle.tsdl_meaning.proofs.FlawlessFacts.{fact_twice}
use Rattle.tsdl_meaning.proofs.Misfits.{fact_unfit}
use Rattle.tsdl_meaning.proofs.JudgedParts.{ends_part}
use Rattle.tsdl_meaning.proofs.judge.block.judge_entry.Goals as goal

pub returns-then-has_fact-clause-fault : goal.returns-then-has_fact-clause-fault
returns-then-has_fact-clause-fault c = λ front behind ends.
    let fact = c.args.fact.now in
    whole front (word fact.name ∷ mark marks.Equals ∷ []) ((fact_toks fact.fact ++ mark marks.Semicolon ∷ []) ++ behind)
    (record { at = c.args.at; end = c.saturating_add-end.result; flaw = flaws.Duplicate }) c.args.at c.saturating_add-end.result refl refl (λ some fits. omega arith)
    (fact_twice fact.name c.args.before.now front (sym c.has_fact.ensures ∙ c.if-has_fact.true) ends)

pub returns-then-before-ge-MAX_ENVIRONMENT-clause-fault : goal.returns-then-before-ge-MAX_ENVIRONMENT-clause-fault
returns-then-before-ge-MAX_ENVIRONMENT-clause-fault c = λ front behind ends.
    let fact = c.args.fact.now in
    c.at_atom.ensures front (mark marks.Equals ∷ ((fact_toks fact.fact ++ mark marks.Semicolon ∷ []) ++ behind)) (word fact.name)
    (inr (inr (inl (record { facts = c.args.before.now; name = fact.name; ends = ends_part front (word (codes "env") ∷ []) (mark marks.OpenBrace ∷ flat_map named_fact_toks c.args.before.now) ends; many = omega arith; here = refl }))))

pub returns-clause-fault : goal.returns-clause-fault
returns-clause-fault c =
    let fact = c.args.fact.now in
    IfErr-weaker c.judge_fact.result (StopsUnless (is_some (fact_meaning fact.fact)) c.saturating_add-end.result (fact_toks fact.fact)) (StopsWhere (EndsFacts c.args.before.now) c.args.at (named_fact_toks fact))
    (λ stop h front behind ends.
    let opening = word fact.name ∷ mark marks.Equals ∷ [] in
    stops_after front (named_fact_toks fact ++ behind) opening (fact_toks fact.fact ++ mark marks.Semicolon ∷ behind) c.args.at c.saturating_add-end.result stop (simp append_assoc)
    (λ fits. omega arith) (h.stops (front ++ opening) (mark marks.Semicolon ∷ behind) (fact_unfit c.args.before.now fact.name fact.fact front ends)))
    c.judge_fact.ensures.fault

pub returns-clause-flawless : goal.returns-clause-flawless
returns-clause-flawless c =
    let before = c.args.before.now in
    let fact = c.args.fact.now in
    IfOk-weaker c.judge_fact.result (λ x. is_some (fact_meaning fact.fact) ≡ true) (λ x. AddsFact before fact)
    (λ x meant. record { few = omega arith; fresh = sym c.has_fact.ensures ∙ c.if-has_fact.false; meant = meant }) c.judge_fact.ensures.meant
