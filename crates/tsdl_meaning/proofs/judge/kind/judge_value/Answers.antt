use Rattle.std.proofs.Common.{ap, inl, inr, arith, codes, ◌≡◌, ◌<◌, ◌≤◌, ◌⊎◌, false, ◌∷◌, []}
use Rattle.tsdl_grammar.specs.declared.token.Mark.TheVariants as marks
use Rattle.tsdl_grammar.specs.declared.tree.Value.TheVariants as values
use Rattle.tsdl_meaning.proofs.TextWords.{AsksAlignment, IsAttribute, StopsWhere, begun, integer_asks, is_alignment, is_natural, mark, number_toks, passes, value_toks, word, IfErr-weaker}
use Rattle.tsdl_meaning.proofs.JudgedParts.{ends_part, handed}
use Rattle.tsdl_meaning.proofs.WordTables.{absent}
use Rattle.tsdl_meaning.proofs.Misfits.{asked_at, attribute_unfit, no_size, other_size}
use Rattle.tsdl_meaning.proofs.judge.kind.judge_value.Goals as goal
use Rattle.tsdl_meaning.proofs.judge.kind.judge_value.Goals.{in_default-2-via-then-branch-lt1, in_default-2-via-else-branch-lt1+else-this-lt65}

pub returns-in-Number-clause-fault : goal.returns-in-Number-clause-fault
returns-in-Number-clause-fault c =
    let n = c.in-Number.number in
    let integer = IsAttribute (codes "integer") (codes "align") in
    rw (c.in-Integer.is, c.in-align.is, c.in-Number.is)
    (IfErr-weaker c.judge_align.result (StopsWhere (AsksAlignment n) c.args.at (number_toks n)) (StopsWhere integer c.args.at (number_toks n))
    (λ stop h front behind p.
    h front behind
    (inl (ends_part front (begun (codes "integer") p.0) (word (codes "align") ∷ mark marks.Equals ∷ []) p.1), attribute_unfit (codes "integer") (codes "align") (values.Number n) front p))
    c.judge_align.ensures.fault)

pub returns-in-Text-value-clause-fault : goal.returns-in-Text-value-clause-fault
returns-in-Text-value-clause-fault c =
    let v = c.args.value.now in
    let none : is_alignment v ≡ false = grind (arith, c.in-Text-value.is) in
    rw (c.in-Integer.is, c.in-align.is) (asked_at (codes "integer") (codes "align") v c.args.at c.misfit-in-Text-value.result false (λ _. none) c.misfit-in-Text-value.ensures)

pub returns-in_err-judge_natural-in-size-clause-fault : goal.returns-in_err-judge_natural-in-size-clause-fault
returns-in_err-judge_natural-in-size-clause-fault c =
    let v = c.args.value.now in
    let stop = c.in_err-judge_natural-in-size.field-0.0 in
    rw (c.in-Integer.is, c.in-size.is)
    (handed c.from_residual.result stop (StopsWhere (IsAttribute (codes "integer") (codes "size")) c.args.at (value_toks v)) c.from_residual.ensures.1
    (asked_at (codes "integer") (codes "size") v c.args.at stop (is_natural v) (no_size v) c.in_err-judge_natural-in-size.ensures.fault))

pub returns-in_default-2-clause-fault : goal.returns-in_default-2-clause-fault
returns-in_default-2-clause-fault c =
    let v = c.args.value.now in
    let n = c.in_ok-judge_natural-in-size.field-0 in
    let out : (n < 1) ⊎ (65 ≤ n) =
    elim c.in_default-2.branch [ in_default-2-via-then-branch-lt1 w ↦ inl (omega arith) | in_default-2-via-else-branch-lt1+else-this-lt65 w ↦ inr (omega arith) ]
    in
    rw (c.in-Integer.is, c.in-size.is)
    (asked_at (codes "integer") (codes "size") v c.args.at c.misfit.result false (λ _. other_size v n c.in_ok-judge_natural-in-size.ensures.value out) c.misfit.ensures)

pub returns-in_default-clause-fit : goal.returns-in_default-clause-fit
returns-in_default-clause-fit c =
    let n = c.in_default in
    rw c.in-Integer.is
    (ap (λ o. passes o c.args.value.now)
    (absent (integer_asks c.args.judging.now.survey.now.known) c.args.word.now
    (n.not-byte_order, (n.not-map, (n.not-size, (n.not-align, (n.not-signed, (n.not-byte_order, (n.not-base, (n.not-map, tt))))))))))
