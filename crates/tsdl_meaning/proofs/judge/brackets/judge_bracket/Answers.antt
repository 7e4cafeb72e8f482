use Rattle.std.proofs.Common.{List, ◌∷◌, refl, []}
use Rattle.tsdl_meaning.proofs.TextWords.{AreBrackets, Bracket, IsBehindBrackets, IsInBracket, IsInBrackets, Stop, StopsWhere, bracket_toks, flat_map, mark, number_toks, word, IfErr-weaker}
use Rattle.tsdl_meaning.proofs.JudgedParts.{ends_more, handed}
use Rattle.tsdl_grammar.specs.declared.token.Mark.TheVariants as marks
use Rattle.tsdl_grammar.specs.declared.tree.Bracket.TheVariants as brackets
use Rattle.tsdl_meaning.proofs.FlawlessTypes.{count_more}
use Rattle.tsdl_meaning.proofs.Misfits.{length_unfit}
use Rattle.tsdl_meaning.proofs.StopsInMembers.{in_bracket, long_length}
use Rattle.tsdl_meaning.proofs.judge.brackets.judge_bracket.Goals as goal

pub returns-in_err-length-in-Count-clause-fault : goal.returns-in_err-length-in-Count-clause-fault
returns-in_err-length-in-Count-clause-fault c =
    let n = c.in-Count.number in
    let stop = c.in_err-length-in-Count.field-0.0 in
    rw c.in-Count.is
    (handed c.from_residual.result stop (λ (s : Stop). (done : List Bracket) → AreBrackets c.args.before.now done c.args.lengths.now → StopsWhere (IsBehindBrackets done) c.args.at (bracket_toks (brackets.Count n)) s)
    c.from_residual.ensures.1
    (λ done s.
    in_bracket (IsBehindBrackets done) (IsInBrackets done) (number_toks n) c.args.at c.saturating_add-place.result stop c.saturating_add-place.ensures
    (λ front ends. ends_more front (flat_map bracket_toks done) (mark marks.OpenBracket ∷ []) ends) (λ front behind ends. c.in_err-length-in-Count.ensures.fault.stops front behind (length_unfit done n front ends))))

pub returns-in-Some-clause-fault : goal.returns-in-Some-clause-fault
returns-in-Some-clause-fault c = λ done s.
    let n = c.in-Count.number in
    let ok = c.in_ok-length-in-Count in
    rw c.in-Count.is
    (in_bracket (IsBehindBrackets done) (IsInBrackets done) (number_toks n) c.args.at c.saturating_add-place.result c.at.result c.saturating_add-place.ensures
    (λ front ends. ends_more front (flat_map bracket_toks done) (mark marks.OpenBracket ∷ []) ends)
    (λ front behind ends. c.at.ensures front behind (long_length c.args.before.now c.args.lengths.now done n ok.length front s ok.ensures.value c.in-Some.ensures.adds ends)))

pub returns-in-None-clause-meant : goal.returns-in-None-clause-meant
returns-in-None-clause-meant c = λ done s.
    rw c.in-Count.is
    (count_more c.args.before.now done c.args.lengths.now c.add.new.self c.in-Count.number c.in_ok-length-in-Count.length s c.in_ok-length-in-Count.ensures.value (c.add.ensures.keeps c.in-None.is) c.in-None.ensures.adds)

pub returns-in-Member-clause-fault : goal.returns-in-Member-clause-fault
returns-in-Member-clause-fault c =
    let w = c.in-Member.name in
    let place = c.saturating_add-place.result in
    rw c.in-Member.is
    (IfErr-weaker c.judge_name.result (StopsWhere IsInBracket place (word w ∷ []))
    (λ (s : Stop). (done : List Bracket) → AreBrackets c.args.before.now done c.args.lengths.now → StopsWhere (IsBehindBrackets done) c.args.at (bracket_toks (brackets.Member w)) s)
    (λ s f done h. in_bracket (IsBehindBrackets done) IsInBracket (word w ∷ []) c.args.at place s c.saturating_add-place.ensures (λ front ends. (front, refl)) f) c.judge_name.ensures.fault)

pub returns-in-Member-clause-meant : goal.returns-in-Member-clause-meant
returns-in-Member-clause-meant c = rw c.in-Member.is c.judge_name.ensures.meant
