use Rattle.std.proofs.Common.{◌≡◌, false, true, ◌∷◌, ◌++◌, [], sym, subst, ◌∙◌}
use Rattle.tsdl_grammar.specs.declared.token.Mark.TheVariants as marks
use Rattle.tsdl_grammar.specs.declared.tree.Value.{Value}
use Rattle.tsdl_meaning.proofs.Misfits.{clock_missed, mapping_parts, misfits, no_mapping}
use Rattle.tsdl_meaning.proofs.TextWords.{is_mapping, mark, value_toks, word}
use Rattle.tsdl_meaning.proofs.StopsInAttributes.{in_second}
use Rattle.tsdl_meaning.proofs.judge.kind.judge_map.Goals as goal

pub returns-in_default-clause-fault : goal.returns-in_default-clause-fault
returns-in_default-clause-fault c =
    let v = c.args.value.now in
    misfits (is_mapping v) false c.args.at (value_toks v) c.misfit.result (no_mapping v (λ n e. c.in_default.not-Name n e)) c.misfit.ensures

pub returns-clause-fault : goal.returns-clause-fault
returns-clause-fault c =
    let n = c.in-Name.field-0 in
    let maps : is_mapping c.args.value.now ≡ true = sym c.is_mapping.ensures ∙ c.if-not-is_mapping.false in
    let parts = mapping_parts n.first n.rest (subst (λ (v : Value). is_mapping v ≡ true) c.in-Name.is maps) in
    rw c.in-Name.is
    (record {
      stops = λ front behind asked.
          in_second n.first n.rest front behind c.args.at c.saturating_add-place.result c.at_atom.result parts.1 c.saturating_add-place.ensures
          (λ w after. c.at_atom.ensures (front ++ word n.first ∷ mark marks.Dot ∷ []) after (word w) (clock_missed front n.first w parts.0));
    })
