use Rattle.std.proofs.Common.{List, ◌∷◌, ◌++◌, ◌+◌, take, ◌∙◌, subst, append_assoc, length-take, arith}
use Rattle.std.proofs.lemmas.Grind.{common_steps}
use Rattle.tsdl_grammar.specs.declared.token.Mark.TheVariants as marks
use Rattle.tsdl_meaning.proofs.TextWords.{AreRanges, Entry, IsBehindBrace, StopsWhere, behind_item, entry_toks, flat_map, high_toks, label_toks, mark, next_entry_toks, number_toks, take_all}
use Rattle.tsdl_meaning.proofs.JudgedParts.{handed, stops_same}
use Rattle.tsdl_meaning.proofs.Fronts.{next_item}
use Rattle.tsdl_meaning.proofs.FlawlessTypes.{first_range, range_more}
use Rattle.tsdl_meaning.proofs.StopsInMembers.{in_range, range_many, range_front}
use Rattle.tsdl_meaning.proofs.judge.kind.judge_ranges.Goals as goal

pub returns-in_err-judge_range-clause-fault : goal.returns-in_err-judge_range-clause-fault
returns-in_err-judge_range-clause-fault c =
    let stop = c.in_err-judge_range.field-0.0 in
    handed c.from_residual.result stop (StopsWhere IsBehindBrace c.args.at (entry_toks c.args.first.now ++ flat_map next_entry_toks c.args.others.now)) c.from_residual.ensures.1
    (λ front behind brace.
    let first = entry_toks c.args.first.now in
    let rest = flat_map next_entry_toks c.args.others.now in
    stops_same front ((first ++ rest) ++ behind) (first ++ (rest ++ behind)) c.args.at stop (append_assoc first rest behind) (c.in_err-judge_range.ensures.fault front (rest ++ behind)))

pub returns-then-saturating_add-ge-MAX_RANGES-clause-fault : goal.returns-then-saturating_add-ge-MAX_RANGES-clause-fault
returns-then-saturating_add-ge-MAX_RANGES-clause-fault c = λ front behind brace.
    let first = c.args.first.now in
    let others = c.args.others.now in
    let i = c.loop-index.index in
    let x = c.index-others-index.result in
    in_range first others i x front behind c.args.at c.loop-index.next c.saturating_add-place.result c.at.result (omega arith) c.index-others-index.is c.loop-index.invariant.place c.saturating_add-place.ensures
    (λ after.
    let before = range_front front first others i in
    let label = label_toks x.label in
    let low = mark marks.Equals ∷ number_toks x.low in
    let rest = low ++ (high_toks x.high ++ after) in
    stops_same before (entry_toks x ++ after) (label ++ rest) c.saturating_add-place.result c.at.result (append_assoc (label ++ low) (high_toks x.high) after ∙ append_assoc label low (high_toks x.high ++ after))
    (c.at.ensures before rest (range_many first others i x.label front brace (omega arith) (omega arith))))

pub returns-in_err-judge_range-2-clause-fault : goal.returns-in_err-judge_range-2-clause-fault
returns-in_err-judge_range-2-clause-fault c =
    let first = c.args.first.now in
    let others = c.args.others.now in
    let i = c.loop-index.index in
    let stop = c.in_err-judge_range-2.field-0.0 in
    handed c.from_residual-in_err-judge_range-2.result stop (StopsWhere IsBehindBrace c.args.at (entry_toks first ++ flat_map next_entry_toks others)) c.from_residual-in_err-judge_range-2.ensures.1
    (λ front behind brace.
    in_range first others i c.index-others-index.result front behind c.args.at c.loop-index.next c.saturating_add-place.result stop (omega arith) c.index-others-index.is c.loop-index.invariant.place
    c.saturating_add-place.ensures (c.in_err-judge_range-2.ensures.fault (range_front front first others i)))

pub loop-index-init : goal.loop-index-init
loop-index-init c = record { place = λ fits. grind (arith, common_steps); ranges = first_range c.args.first.now c.in_ok-judge_range.ensures.meant }

pub loop-index-preserved : goal.loop-index-preserved
loop-index-preserved c =
    let first = c.args.first.now in
    let others = c.args.others.now in
    let i = c.loop-index.index in
    let x = c.index-others-index.result in
    record {
      place =
          behind_item next_entry_toks others i x (entry_toks first) c.args.at c.loop-index.next (c.length-in-loop-index.result + 1) c.saturating_add-next-in-loop-index.result (omega arith)
          c.index-others-index.is c.loop-index.invariant.place (λ fits. let n = c.length-in-loop-index.ensures (omega (arith, fits)) in omega (arith, n))
          (omega (arith, c.saturating_add-place.ensures, c.saturating_add-next-in-loop-index.ensures));
      ranges =
          next_item (λ (l : List Entry). AreRanges (first ∷ l)) others i x (omega arith) c.index-others-index.is
          (range_more (first ∷ take i others) x c.loop-index.invariant.ranges (omega (arith, length-take i others)) c.in_ok-judge_range-2.ensures.meant);
    }

pub returns-clause-meant : goal.returns-clause-meant
returns-clause-meant c =
    subst (λ (es : List Entry). AreRanges (c.args.first.now ∷ es)) (take_all c.loop-index.index c.args.others.now (omega arith)) c.loop-index.invariant.ranges
