use Rattle.std.proofs.Common.{arith, List, ◌∷◌, ◌++◌, take, refl, sym, subst, []}
use Rattle.tsdl_meaning.proofs.TextWords.{AreNoted, Atom, IsBegun, IsEnded, IsFlawlessBlock, Item, StandsBehind, StopsIn, StopsWhere, attr_in, begun, behind_item, item_toks, items_toks, mark, scope_in, take_all, word, word_of, IfErr-weaker, IfOk-weaker}
use Rattle.tsdl_grammar.specs.declared.token.Mark.TheVariants as marks
use Rattle.tsdl_meaning.proofs.Fronts.{next_item}
use Rattle.tsdl_meaning.proofs.FlawlessItems.{Items, with_attribute, with_scope, no_items, items_flawless}
use Rattle.tsdl_meaning.proofs.JudgedParts.{handed, in_item, in_part}
use Rattle.tsdl_meaning.proofs.JudgedLedgers.{noted_more}
use Rattle.tsdl_meaning.proofs.StopsInAttributes.{are_named, attribute_named, list_opening, scope_named}
use Rattle.tsdl_meaning.proofs.judge.block.judge_items.Goals as goal
use Rattle.tsdl_meaning.proofs.judge.block.judge_items.Goals.{in-Attribute+in_ok-judge_attribute-in-Attribute, in-Scope+in_ok-judge_scope-in-Scope}

pub returns-in_err-judge_attribute-in-Attribute-clause-fault : goal.returns-in_err-judge_attribute-in-Attribute-clause-fault
returns-in_err-judge_attribute-in-Attribute-clause-fault c =
    let judging = c.args.judging.now in
    let items = c.args.items.now in
    let w = word_of judging.kind in
    let toks = word w ∷ items_toks items in
    let done = take c.loop-item.item-index items in
    let before = begun w done in
    let stop = c.in_err-judge_attribute-in-Attribute.field-0.0 in
    handed c.from_residual.result stop (StopsWhere (λ (front : List Atom). AreNoted front judging.ledger.now) c.args.at toks) c.from_residual.ensures.1
    (λ front behind noted.
    let named = are_named attr_in (λ a. a.name) marks.Equals front w c.loop-item.attributes.names done attribute_named c.loop-item.invariant.flawless.attributes.named.kept in
    in_item item_toks items c.loop-item.item-index c.item-item.result toks (list_opening w) (mark marks.CloseBrace ∷ []) front behind c.args.at c.loop-item.next stop (omega arith) c.item-item.is refl
    c.loop-item.invariant.place
    (λ after.
    subst (λ (x : Item). StopsIn (front ++ before) c.loop-item.next (item_toks x ++ after) stop) (sym c.in-Attribute.is)
    (c.in_err-judge_attribute-in-Attribute.ensures.fault done (front ++ before) after (record { noted = noted_more front before judging.ledger.now noted; ends = (front, refl) }, named))))

pub returns-in_err-judge_scope-in-Scope-clause-fault : goal.returns-in_err-judge_scope-in-Scope-clause-fault
returns-in_err-judge_scope-in-Scope-clause-fault c =
    let judging = c.args.judging.now in
    let items = c.args.items.now in
    let w = word_of judging.kind in
    let toks = word w ∷ items_toks items in
    let done = take c.loop-item.item-index items in
    let before = begun w done in
    let stop = c.in_err-judge_scope-in-Scope.field-0.0 in
    handed c.from_residual-in_err-judge_scope-in-Scope.result stop (StopsWhere (λ (front : List Atom). AreNoted front judging.ledger.now) c.args.at toks) c.from_residual-in_err-judge_scope-in-Scope.ensures.1
    (λ front behind noted.
    let named = are_named scope_in (λ s. s.name) marks.Assign front w c.loop-item.scopes.names done scope_named c.loop-item.invariant.flawless.scopes.named.kept in
    in_item item_toks items c.loop-item.item-index c.item-item.result toks (list_opening w) (mark marks.CloseBrace ∷ []) front behind c.args.at c.loop-item.next stop (omega arith) c.item-item.is refl
    c.loop-item.invariant.place
    (λ after.
    subst (λ (x : Item). StopsIn (front ++ before) c.loop-item.next (item_toks x ++ after) stop) (sym c.in-Scope.is)
    (c.in_err-judge_scope-in-Scope.ensures.fault (front ++ before) after named)))

pub loop-item-init : goal.loop-item-init
loop-item-init c = record {
  place = λ fits. omega (arith, c.saturating_add-next.ensures);
  flawless =
      no_items c.args.judging.now.survey.now.known c.args.judging.now.kind c.args.judging.now.ledger.now c.new-attributes.result.names c.new-scopes.result.names c.new-attributes.ensures
      c.new-scopes.ensures;
}

pub loop-item-preserved : goal.loop-item-preserved
loop-item-preserved c =
    let judging = c.args.judging.now in
    let known = judging.survey.now.known in
    let items = c.args.items.now in
    let i = c.loop-item.item-index in
    let x = c.item-item.result in
    let done = take i items in
    let named = c.loop-item.attributes.names in
    let scoped = c.loop-item.scopes.names in
    let P = λ (is : List Item). Items known judging.kind judging.ledger.now is c.match-item.attributes.names c.match-item.scopes.names in
    let more : P (done ++ x ∷ []) =
    elim c.match-item.branch [
      | in-Attribute+in_ok-judge_attribute-in-Attribute v ↦ rw (v.attributes-is, v.scopes-is, v.in-Attribute.is)
          (with_attribute known judging.kind judging.ledger.now done named scoped v.judge_attribute.new.names.names c.loop-item.invariant.flawless v.in-Attribute.attribute v.in_ok-judge_attribute-in-Attribute.ensures.flawless)
      | in-Scope+in_ok-judge_scope-in-Scope v ↦ rw (v.attributes-is, v.scopes-is, v.in-Scope.is)
          (with_scope known judging.kind judging.ledger.now done named scoped v.judge_scope.new.names.names c.loop-item.invariant.flawless v.in-Scope.scope v.in_ok-judge_scope-in-Scope.ensures.flawless)
    ]
    in
    record {
      place =
          behind_item item_toks items i x (list_opening (word_of judging.kind)) c.args.at c.loop-item.next c.length.result _ (omega arith) c.item-item.is c.loop-item.invariant.place c.length.ensures
          c.saturating_add-next-in-loop-item.ensures;
      flawless = next_item P items i x (omega arith) c.item-item.is more;
    }

pub returns-clause-fault : goal.returns-clause-fault
returns-clause-fault c =
    let judging = c.args.judging.now in
    let w = word_of judging.kind in
    let items = c.args.items.now in
    let toks = word w ∷ items_toks items in
    let next = c.loop-item.next in
    let place : StandsBehind c.args.at (begun w items) next =
    subst (λ (is : List Item). StandsBehind c.args.at (begun w is) next) (take_all c.loop-item.item-index items (omega arith)) c.loop-item.invariant.place
    in
    IfErr-weaker c.judge_end.result (StopsWhere (IsBegun judging items) next (mark marks.CloseBrace ∷ [])) (StopsWhere (λ (front : List Atom). AreNoted front judging.ledger.now) c.args.at toks)
    (λ stop h front behind n.
    in_part toks (begun w items) (mark marks.CloseBrace ∷ []) [] front behind c.args.at next stop refl place
    (h (front ++ begun w items) behind (record { noted = noted_more front (begun w items) judging.ledger.now n; ends = (front, refl) })))
    c.judge_end.ensures.fault

pub returns-clause-flawless : goal.returns-clause-flawless
returns-clause-flawless c =
    let judging = c.args.judging.now in
    let known = judging.survey.now.known in
    let ledger = judging.ledger.now in
    let items = c.args.items.now in
    IfOk-weaker c.judge_end.result (λ x. IsEnded judging.kind ledger items) (λ x. IsFlawlessBlock known judging.kind ledger items)
    (λ x ended. record {
      parts = items_flawless known judging.kind ledger items c.loop-item.attributes.names c.loop-item.scopes.names
          (subst (λ (is : List Item). Items known judging.kind ledger is c.loop-item.attributes.names c.loop-item.scopes.names) (take_all c.loop-item.item-index items (omega arith)) c.loop-item.invariant.flawless);
      ended = ended;
    })
    c.judge_end.ensures.ended
