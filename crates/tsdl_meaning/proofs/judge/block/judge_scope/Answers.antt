use Rattle.std.proofs.Common.{◌≡◌, ℕ, List, ◌∷◌, ◌++◌, Some, Bor, option_map, refl, sym, ap, ◌∙◌, subst, rules, tests, []}
use Rattle.tsdl_meaning.proofs.TextWords.{AreNamed, Atom, ScopeRule, StopsWhere, YieldsList-from_slice, behind_more, find_from_yields_List, mark, name_toks, rule_in, same_words, scope_toks, stops_after, struct_toks, texts_of, words_of}
use Rattle.tsdl_grammar.specs.declared.token.Mark.TheVariants as marks
use Rattle.tsdl_meaning.proofs.JudgedParts.{behind_first, handed, stops_same}
use Rattle.tsdl_meaning.proofs.BlockAttributes.{in_name, scope_parts, scope_opening, rule_found}
use Rattle.tsdl_meaning.proofs.judge.block.judge_scope.Goals as goal

pub returns-in_default-clause-fault : goal.returns-in_default-clause-fault
returns-in_default-clause-fault c = λ front behind named.
    let s = c.args.scope.now in
    let rest = mark marks.Assign ∷ (struct_toks s.structure ++ mark marks.Semicolon ∷ behind) in
    stops_same front (scope_toks s ++ behind) (name_toks s.name ++ rest) c.args.at c.unsupported.result (scope_parts s behind) (c.unsupported.ensures front rest)

pub returns-in_err-add-clause-fault : goal.returns-in_err-add-clause-fault
returns-in_err-add-clause-fault c =
    let s = c.args.scope.now in
    let names = c.args.names.now.names in
    in_name (λ (front : List Atom). AreNamed front marks.Assign names) marks.Assign names c.from_residual.result c.in_err-add.field-0.0 s.name (scope_toks s) (struct_toks s.structure) c.args.at (scope_opening s)
    c.from_residual.ensures.1 (λ front p. p) c.in_err-add.ensures.fault

pub returns-in_err-judge_structure-clause-fault : goal.returns-in_err-judge_structure-clause-fault
returns-in_err-judge_structure-clause-fault c =
    let s = c.args.scope.now in
    let stop = c.in_err-judge_structure.field-0.0 in
    let P = λ (front : List Atom). AreNamed front marks.Assign c.args.names.now.names in
    handed c.from_residual-in_err-judge_structure.result stop (StopsWhere P c.args.at (scope_toks s)) c.from_residual-in_err-judge_structure.ensures.1
    (λ front behind named.
    let name = name_toks s.name in
    let opening = name ++ mark marks.Assign ∷ [] in
    let passed = c.saturating_add.result in
    let place = c.saturating_add-behind.result in
    stops_after front (scope_toks s ++ behind) opening (struct_toks s.structure ++ mark marks.Semicolon ∷ behind) c.args.at place stop (scope_opening s behind)
    (behind_more name (mark marks.Assign ∷ []) c.args.at passed 1 place (behind_first name c.args.at c.length.result passed c.length.ensures c.saturating_add.ensures) (λ fits. refl) c.saturating_add-behind.ensures)
    (c.in_err-judge_structure.ensures.fault (front ++ opening) (mark marks.Semicolon ∷ behind)))

pub returns-clause-flawless : goal.returns-clause-flawless
returns-clause-flawless c = record {
  name = c.in_ok-add.ensures.flawless;
  flawless = record {
    rule = c.in-Some.row.now.1;
    asks =
        let rows = c.scopes_of.result.now in
        let n = words_of c.args.scope.now.name in
        subst (λ (named : List (List (List ℕ) × ScopeRule)). rule_in named n ≡ Some c.in-Some.row.now.1) c.scopes_of.ensures
        (rule_found n rows c.in-Some.row.now
        (sym (find_from_yields_List (λ r. same_words n (texts_of r.0.now)) _ _ _ c.find.ensures.ran (YieldsList-from_slice rows cc) (λ x b q k. search (rules, tests)))
        ∙ ap (option_map (λ (r : Bor (Bor (List (Bor (List ℕ))) × ScopeRule)). r.now)) c.in-Some.is));
    flawless = c.in_ok-judge_structure.ensures.flawless;
  };
}
