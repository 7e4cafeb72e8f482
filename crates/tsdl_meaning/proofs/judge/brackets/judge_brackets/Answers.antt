use Rattle.std.proofs.Common.{List, ◌++◌, take, refl, sym, subst, arith, []}
use Rattle.tsdl_meaning.proofs.TextWords.{AreBrackets, Bracket, StopsAmong, append-nil, behind_item, bracket_toks, flat_map, take_all}
use Rattle.tsdl_meaning.proofs.JudgedParts.{handed, in_item}
use Rattle.tsdl_meaning.proofs.Fronts.{next_item}
use Rattle.tsdl_meaning.proofs.FlawlessTypes.{brackets_mean}
use Rattle.tsdl_meaning.proofs.judge.brackets.judge_brackets.Goals as goal

pub returns-in_err-judge_bracket-clause-fault : goal.returns-in_err-judge_bracket-clause-fault
returns-in_err-judge_bracket-clause-fault c =
    let bs = c.args.brackets.now in
    let toks = flat_map bracket_toks bs in
    let done = take c.loop-bracket.bracket-index bs in
    let stop = c.in_err-judge_bracket.field-0.0 in
    handed c.from_residual.result stop (StopsAmong c.args.at toks) c.from_residual.ensures.1
    (λ front behind.
    in_item bracket_toks bs c.loop-bracket.bracket-index c.bracket-item.result toks [] [] front behind c.args.at c.loop-bracket.next stop (omega arith) c.bracket-item.is (sym (append-nil toks))
    c.loop-bracket.invariant.stands (λ after. c.in_err-judge_bracket.ensures.fault done c.loop-bracket.invariant.brackets (front ++ flat_map bracket_toks done) after (front, refl)))

pub loop-bracket-preserved : goal.loop-bracket-preserved
loop-bracket-preserved c =
    let bs = c.args.brackets.now in
    let i = c.loop-bracket.bracket-index in
    let x = c.bracket-item.result in
    record {
      stands =
          behind_item bracket_toks bs i x [] c.args.at c.loop-bracket.next c.length.result c.saturating_add-next.result (omega arith) c.bracket-item.is c.loop-bracket.invariant.stands
          c.length.ensures c.saturating_add-next.ensures;
      brackets =
          next_item (λ (l : List Bracket). AreBrackets c.args.before.now l c.judge_bracket.new.lengths) bs i x (omega arith) c.bracket-item.is
          (c.in_ok-judge_bracket.ensures.meant (take i bs) c.loop-bracket.invariant.brackets);
    }

pub returns-clause-meant : goal.returns-clause-meant
returns-clause-meant c = λ leaf.
    brackets_mean c.args.before.now leaf c.args.brackets.now c.loop-bracket.lengths
    (subst (λ (bs : List Bracket). AreBrackets c.args.before.now bs c.loop-bracket.lengths) (take_all c.loop-bracket.bracket-index c.args.brackets.now (omega arith)) c.loop-bracket.invariant.brackets)
