use Rattle.std.proofs.Common.{ℕ, List, Some, ◌∷◌, sym, ap, ◌∙◌, []}
use Rattle.tsdl_meaning.proofs.TextWords.{AreNamed, Atom, IsBegun, IsNotedAttribute, asked_of, attr_toks, begun, mark, value_toks, word, word_of}
use Rattle.tsdl_grammar.specs.declared.token.Mark.TheVariants as marks
use Rattle.tsdl_meaning.proofs.BlockAttributes.{in_name, in_value, value_adds}
use Rattle.tsdl_meaning.proofs.JudgedLedgers.{noted_more}
use Rattle.tsdl_meaning.proofs.JudgedParts.{ends_more}
use Rattle.tsdl_meaning.proofs.StopsInAttributes.{attr_parts}
use Rattle.tsdl_meaning.proofs.judge.attribute.judge_attribute.Goals as goal

pub returns-in_err-add-clause-fault : goal.returns-in_err-add-clause-fault
returns-in_err-add-clause-fault c = λ items.
    let a = c.args.attribute.now in
    let names = c.args.names.now.names in
    in_name (λ (front : List Atom). IsBegun c.args.judging.now items front × AreNamed front marks.Equals names) marks.Equals names c.from_residual.result c.in_err-add.field-0.0 a.name (attr_toks a) (value_toks a.value) c.args.at (attr_parts a)
    c.from_residual.ensures.1 (λ front p. p.1) c.in_err-add.ensures.fault

pub returns-clause-fault : goal.returns-clause-fault
returns-clause-fault c = λ items.
    let judging = c.args.judging.now in
    let block = word_of judging.kind in
    let w = c.as_str.result.now in
    in_value (λ (front : List Atom). IsBegun judging items front × AreNamed front marks.Equals c.args.names.now.names) (IsNotedAttribute judging.ledger.now block w)
    c.judge_named.result c.args.attribute.now w c.args.at c.saturating_add-behind.result (sym c.in-Some.ensures ∙ ap (λ (n : List ℕ). Some n) (sym c.as_str.ensures)) c.saturating_add-behind.ensures
    (λ front p. let opening = word w ∷ mark marks.Equals ∷ [] in record { noted = noted_more front opening judging.ledger.now p.0.noted; attribute = (items, ends_more front (begun block items) opening p.0.ends) }) c.judge_named.ensures.fault

pub returns-clause-flawless : goal.returns-clause-flawless
returns-clause-flawless c =
    value_adds (asked_of c.args.judging.now.kind c.args.judging.now.ledger.now) c.args.names.now.names c.add.new.self.names c.judge_named.result c.args.attribute.now c.as_str.result.now c.in_ok-add.ensures.flawless
    (sym c.in-Some.ensures ∙ ap (λ (n : List ℕ). Some n) (sym c.as_str.ensures)) c.judge_named.ensures.fit
