use Rattle.std.proofs.Common.{List, arith, ◌∷◌, ◌++◌, take, refl, subst, codes, []}
use Rattle.tsdl_grammar.specs.declared.token.Mark.TheVariants as marks
use Rattle.tsdl_meaning.proofs.TextWords.{Attribute, StandsBehind, StopsAmong, attr, attr_toks, attrs_toks, behind_item, flat_map, mark, own_asked, own_attrs, take_all, type_word, word}
use Rattle.tsdl_meaning.proofs.Fronts.{next_item}
use Rattle.tsdl_meaning.proofs.Misfits.{size_missed}
use Rattle.tsdl_meaning.proofs.JudgedParts.{handed, in_item, in_part}
use Rattle.tsdl_meaning.proofs.StopsInAttributes.{list_opening, type_begun}
use Rattle.tsdl_meaning.proofs.FlawlessTypes.{Own, own_more, type_means, seen}
use Rattle.tsdl_meaning.proofs.judge.kind.judge_attributes.Goals as goal
use Rattle.tsdl_meaning.proofs.judge.kind.judge_attributes.Goals.{in-Integer+else-is_none, in-Text-1}

pub returns-in_err-judge_attribute-clause-fault : goal.returns-in_err-judge_attribute-clause-fault
returns-in_err-judge_attribute-clause-fault c =
    let w = type_word c.args.kind in
    let attrs = c.args.attributes.now in
    let toks = word w ∷ attrs_toks attrs in
    let done = take c.loop-attribute.attribute-index attrs in
    let names = c.loop-attribute.names.names in
    let stop = c.in_err-judge_attribute.field-0.0 in
    handed c.from_residual.result stop (StopsAmong c.args.at toks) c.from_residual.ensures.1
    (λ front behind.
    in_item attr_toks attrs c.loop-attribute.attribute-index c.attribute-item.result toks (list_opening w) (mark marks.CloseBrace ∷ []) front behind c.args.at c.loop-attribute.next stop (omega arith)
    c.attribute-item.is refl c.loop-attribute.invariant.stands
    (λ after.
    c.in_err-judge_attribute.ensures.fault (front ++ (list_opening w ++ flat_map attr_toks done)) after
    (type_begun front w names done c.loop-attribute.invariant.own.attributes.named.kept)))

pub loop-attribute-preserved : goal.loop-attribute-preserved
loop-attribute-preserved c =
    let allowed = own_attrs c.args.kind in
    let asked = own_asked c.args.judging.now.survey.now.known c.args.kind in
    let attrs = c.args.attributes.now in
    let i = c.loop-attribute.attribute-index in
    let a = c.attribute-item.result in
    let old = c.loop-attribute.names.names in
    let new = c.judge_attribute.new.names.names in
    record {
      stands =
          behind_item attr_toks attrs i a (list_opening (type_word c.args.kind)) c.args.at c.loop-attribute.next c.length.result c.saturating_add-next-in-loop-attribute.result (omega arith) c.attribute-item.is
          c.loop-attribute.invariant.stands c.length.ensures c.saturating_add-next-in-loop-attribute.ensures;
      own =
          next_item (λ (l : List Attribute). Own allowed asked l new) attrs i a (omega arith) c.attribute-item.is
          (own_more allowed asked (take i attrs) a old new c.loop-attribute.invariant.own c.in_ok-judge_attribute.ensures.among c.in_ok-judge_attribute.ensures.adds);
    }

pub returns-in-Integer-clause-fault : goal.returns-in-Integer-clause-fault
returns-in-Integer-clause-fault c = λ front behind.
    let w = type_word c.args.kind in
    let attrs = c.args.attributes.now in
    let next = c.loop-attribute.next in
    let pre = list_opening w ++ flat_map attr_toks attrs in
    in_part (word w ∷ attrs_toks attrs) pre (mark marks.CloseBrace ∷ []) [] front behind c.args.at next c.at_atom.result refl
    (subst (λ (l : List Attribute). StandsBehind c.args.at (list_opening w ++ flat_map attr_toks l) next) (take_all c.loop-attribute.attribute-index attrs (omega arith)) c.loop-attribute.invariant.stands)
    (c.at_atom.ensures (front ++ pre) behind (mark marks.CloseBrace) (size_missed c.args.kind attrs front c.attr.result c.in-Integer.is c.attr.ensures c.if-is_none.ensures))

pub returns-clause-meant : goal.returns-clause-meant
returns-clause-meant c =
    let known = c.args.judging.now.survey.now.known in
    let attrs = c.args.attributes.now in
    let names = c.loop-attribute.names.names in
    type_means known c.args.kind attrs names
    (subst (λ (l : List Attribute). Own (own_attrs c.args.kind) (own_asked known c.args.kind) l names) (take_all c.loop-attribute.attribute-index attrs (omega arith)) c.loop-attribute.invariant.own)
    (λ is. elim c.in-Integer-2-1.branch [
      | in-Integer+else-is_none w ↦ seen w.attr.result (attr (codes "size") attrs) w.attr.ensures w.if-is_none.ensures
      | in-Text-1 w ↦ search
    ])
