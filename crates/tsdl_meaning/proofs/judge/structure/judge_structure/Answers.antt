use Rattle.std.proofs.Common.{List, ◌∷◌, ◌++◌, Option, Some, codes, take, sym, ap, ◌∙◌, subst, arith, append_assoc, []}
use Rattle.tsdl_grammar.specs.declared.token.Mark.TheVariants as marks
use Rattle.tsdl_meaning.proofs.TextWords.{AsksAlignment, IsSome, MemberTree, Number, StandsBehind, StopsAmong, StopsWhere, align_of, align_toks, behind_item, flat_map, is_some, mark, member_toks, number_toks, struct_toks, take_all, word, IfErr-weaker, IfOk-weaker}
use Rattle.tsdl_meaning.specs.FlawlessStructures.{IsFlawless}
use Rattle.tsdl_meaning.proofs.JudgedParts.{handed, in_item}
use Rattle.tsdl_meaning.proofs.Fronts.{next_item}
use Rattle.tsdl_meaning.proofs.FlawlessItems.{named_alike}
use Rattle.tsdl_meaning.proofs.StopsInMembers.{struct_opening, struct_parts, in_align}
use Rattle.tsdl_meaning.proofs.FlawlessTypes.{AreFlawless, none_flawless, one_more, all_flawless}
use Rattle.tsdl_meaning.proofs.judge.structure.judge_structure.Goals as goal

pub returns-in_err-judge_member-clause-fault : goal.returns-in_err-judge_member-clause-fault
returns-in_err-judge_member-clause-fault c =
    let s = c.args.structure.now in
    let ts = c.as_slice-trees.result.now in
    let done = take c.loop-tree.tree-index ts in
    let before = struct_opening ++ flat_map member_toks done in
    let stop = c.in_err-judge_member.field-0.0 in
    let are = named_alike c.args.judging.now.survey.now.known [] done c.loop-tree.members c.loop-tree.invariant.flawless.mean in
    handed c.from_residual.result stop (StopsAmong c.args.at (struct_toks s)) c.from_residual.ensures.1
    (λ front behind.
    in_item member_toks ts c.loop-tree.tree-index c.tree-item.result (struct_toks s) struct_opening (mark marks.CloseBrace ∷ align_toks s.align) front behind c.args.at c.loop-tree.next stop (omega arith)
    c.tree-item.is (rw c.as_slice-trees.ensures (struct_parts s)) c.loop-tree.invariant.stands
    (λ after.
    c.in_err-judge_member.ensures.fault done are (front ++ before) after
    (front ++ word (codes "struct") ∷ [], sym (append_assoc front (word (codes "struct") ∷ []) (mark marks.OpenBrace ∷ flat_map member_toks done)))))

pub loop-tree-preserved : goal.loop-tree-preserved
loop-tree-preserved c =
    let known = c.args.judging.now.survey.now.known in
    let ts = c.as_slice-trees.result.now in
    let i = c.loop-tree.tree-index in
    let t = c.tree-item.result in
    let new = c.judge_member.new.members in
    record {
      stands =
          behind_item member_toks ts i t struct_opening c.args.at c.loop-tree.next c.length.result c.saturating_add-next-in-loop-tree.result (omega arith) c.tree-item.is
          c.loop-tree.invariant.stands c.length.ensures c.saturating_add-next-in-loop-tree.ensures;
      flawless =
          next_item (λ (l : List MemberTree). AreFlawless known c.args.rule l new) ts i t (omega arith) c.tree-item.is
          (one_more known c.args.rule (take i ts) c.loop-tree.members new t c.loop-tree.invariant.flawless c.in_ok-judge_member.ensures.flawless);
    }

pub returns-clause-fault : goal.returns-clause-fault
returns-clause-fault c =
    let s = c.args.structure.now in
    let stands =
    subst (λ (l : List MemberTree). StandsBehind c.args.at (struct_opening ++ flat_map member_toks l) c.loop-tree.next)
    (take_all c.loop-tree.tree-index c.as_slice-trees.result.now (omega arith) ∙ c.as_slice-trees.ensures) c.loop-tree.invariant.stands
    in
    IfErr-weaker c.judge_align.result (StopsWhere (AsksAlignment c.in-Some.number) c.saturating_add.result (number_toks c.in-Some.number)) (StopsAmong c.args.at (struct_toks s))
    (λ stop h front behind. in_align s c.in-Some.number front behind c.args.at c.loop-tree.next c.saturating_add.result stop c.in-Some.is stands c.saturating_add.ensures h)
    c.judge_align.ensures.fault

pub loop-tree-init : goal.loop-tree-init
loop-tree-init c = record {
  stands = λ fits. omega (arith, c.saturating_add-next.ensures);
  flawless = none_flawless c.args.judging.now.survey.now.known c.args.rule c.new-members.result c.new-members.ensures;
}

pub returns-in-None-clause-flawless : goal.returns-in-None-clause-flawless
returns-in-None-clause-flawless c =
    all_flawless c.args.judging.now.survey.now.known c.args.rule c.args.structure.now c.loop-tree.members
    (rw (sym c.as_slice-trees.ensures)
    (subst (λ (ts : List MemberTree). AreFlawless c.args.judging.now.survey.now.known c.args.rule ts c.loop-tree.members) (take_all c.loop-tree.tree-index c.as_slice-trees.result.now (omega arith)) c.loop-tree.invariant.flawless))
    (ap (λ (o : Option Number). is_some (align_of o)) c.in-None.is)

pub returns-clause-flawless : goal.returns-clause-flawless
returns-clause-flawless c =
    IfOk-weaker c.judge_align.result (λ u. IsSome (align_of (Some c.in-Some.number))) (λ u. IsFlawless c.args.judging.now.survey.now.known c.args.rule c.args.structure.now)
    (λ u aligned.
    all_flawless c.args.judging.now.survey.now.known c.args.rule c.args.structure.now c.loop-tree.members
    (rw (sym c.as_slice-trees.ensures)
    (subst (λ (ts : List MemberTree). AreFlawless c.args.judging.now.survey.now.known c.args.rule ts c.loop-tree.members) (take_all c.loop-tree.tree-index c.as_slice-trees.result.now (omega arith)) c.loop-tree.invariant.flawless))
    (ap (λ (o : Option Number). is_some (align_of o)) c.in-Some.is ∙ aligned))
    c.judge_align.ensures.aligned
