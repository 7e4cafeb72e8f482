use Rattle.std.proofs.Common.{◌≡◌, ℕ, true, not, List, [], ◌∷◌, Bor, Contains, option_map, sym, ap, ◌∙◌, subst, rules, tests}
use Rattle.tsdl_meaning.proofs.BlockAttributes.{none_missed}
use Rattle.tsdl_meaning.proofs.Misfits.{attribute_missed, row_missed}
use Rattle.tsdl_grammar.specs.declared.fault.MetaFaultKind.{MetaFaultKind}
use Rattle.tsdl_meaning.proofs.TextWords.{IsWrong, YieldsList-from_slice, attr, attrs_in, find_from_yields_List, is_some, list_all, mark}
use Rattle.tsdl_grammar.specs.declared.token.Mark.TheVariants as marks
use Rattle.tsdl_meaning.proofs.judge.block.judge_end.Goals as goal

pub returns-in-Some-clause-fault : goal.returns-in-Some-clause-fault
returns-in-Some-clause-fault c = λ front behind b.
    let judging = c.args.judging.now in
    let items = c.args.items.now in
    let rows = c.needed.result.now in
    let there = λ (w : List ℕ). is_some (attr w (attrs_in items)) in
    let missed = row_missed there rows c.in-Some.missing.now
    (sym (find_from_yields_List (λ row. not (there row.0.now)) _ _ _ c.find.ensures.ran (YieldsList-from_slice rows cc) (λ x b q k. search (rules, tests)))
    ∙ ap (option_map (λ (r : Bor (Bor (List ℕ) × Bor (List ℕ))). r.now)) c.in-Some.is) in
    let needs = subst (λ (ws : List (List ℕ)). Contains ws c.in-Some.missing.now.0.now) c.needed.ensures missed.0 in
    c.at_atom.ensures front behind (mark marks.CloseBrace) (attribute_missed judging.kind items c.in-Some.missing.now.0.now front needs missed.1 b.ends)

pub returns-then-is_numbered_twice-clause-fault : goal.returns-then-is_numbered_twice-clause-fault
returns-then-is_numbered_twice-clause-fault c = λ front behind b.
    c.at_atom-then-is_numbered_twice.ensures front behind (mark marks.CloseBrace)
    (subst (λ (kind : MetaFaultKind). IsWrong front (mark marks.CloseBrace ∷ []) kind) (sym c.numbered_flaw.ensures) (c.is_numbered_twice.ensures.twice front c.if-is_numbered_twice.true b))

pub returns-clause-ended : goal.returns-clause-ended
returns-clause-ended c = record {
  complete =
      let rows = c.needed.result.now in
      let there = λ (w : List ℕ). is_some (attr w (attrs_in c.args.items.now)) in
      subst (λ (ws : List (List ℕ)). list_all there ws ≡ true) c.needed.ensures
      (none_missed there rows
      (sym (find_from_yields_List (λ row. not (there row.0.now)) _ _ _ c.find.ensures.ran (YieldsList-from_slice rows cc) (λ x b q k. search (rules, tests)))
      ∙ ap (option_map (λ (r : Bor (Bor (List ℕ) × Bor (List ℕ))). r.now)) c.in_default.is));
  anew = c.is_numbered_twice.ensures.anew c.if-is_numbered_twice.false;
}
