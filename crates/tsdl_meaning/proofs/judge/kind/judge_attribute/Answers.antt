use Rattle.std.proofs.Common.{◌≡◌, true, ℕ, List, Some, [], ◌∷◌, ◌++◌, sym, ap, ◌∙◌, subst, append_assoc}
use Rattle.tsdl_grammar.specs.declared.token.Mark.TheVariants as marks
use Rattle.tsdl_meaning.proofs.TextWords.{IsAttribute, IsTypeBegun, attr_toks, begun, is_among, mark, name_toks, own_asked, own_attrs, type_word, value_toks, word, words_of}
use Rattle.tsdl_meaning.proofs.BlockAttributes.{in_name, in_value, value_adds}
use Rattle.tsdl_meaning.proofs.JudgedParts.{ends_more, ok_from, stops_same}
use Rattle.tsdl_meaning.proofs.StopsInAttributes.{attr_parts}
use Rattle.tsdl_meaning.proofs.judge.kind.judge_attribute.Goals as goal

pub returns-then-not-is_name_among-clause-fault : goal.returns-then-not-is_name_among-clause-fault
returns-then-not-is_name_among-clause-fault c = λ front behind named.
    let a = c.args.attribute.now in
    let rest = mark marks.Equals ∷ (value_toks a.value ++ mark marks.Semicolon ∷ behind) in
    stops_same front (attr_toks a ++ behind) (name_toks a.name ++ rest) c.args.at c.unsupported.result (simp append_assoc) (c.unsupported.ensures front rest)

pub returns-in_err-add-clause-fault : goal.returns-in_err-add-clause-fault
returns-in_err-add-clause-fault c =
    let a = c.args.attribute.now in
    let names = c.args.names.now.names in
    in_name (IsTypeBegun (type_word c.args.kind) names) marks.Equals names c.from_residual.result c.in_err-add.field-0.0 a.name (attr_toks a) (value_toks a.value) c.args.at (attr_parts a) c.from_residual.ensures.1
    (λ front p. p.named) c.in_err-add.ensures.fault

pub returns-clause-fault : goal.returns-clause-fault
returns-clause-fault c =
    let w = c.as_str.result.now in
    let type = type_word c.args.kind in
    in_value (IsTypeBegun type c.args.names.now.names) (IsAttribute type w) c.judge_value.result c.args.attribute.now w c.args.at c.saturating_add-behind.result
    (sym c.in-Some.ensures ∙ ap (λ (n : List ℕ). Some n) (sym c.as_str.ensures)) c.saturating_add-behind.ensures (λ front p. (p.items, ends_more front (begun type p.items) (word w ∷ mark marks.Equals ∷ []) p.ends)) c.judge_value.ensures.fault

pub returns-clause-among : goal.returns-clause-among
returns-clause-among c =
    let among = λ (names : List (List (List ℕ))). is_among names (words_of c.args.attribute.now.name) ≡ true in
    ok_from c.judge_value.result (λ x. among (own_attrs c.args.kind)) (λ x. subst among c.attributes_of.ensures (sym c.is_name_among.ensures ∙ c.if-not-is_name_among.false))

pub returns-clause-adds : goal.returns-clause-adds
returns-clause-adds c =
    value_adds (own_asked c.args.judging.now.survey.now.known c.args.kind) c.args.names.now.names c.add.new.self.names c.judge_value.result c.args.attribute.now c.as_str.result.now c.in_ok-add.ensures.flawless
    (sym c.in-Some.ensures ∙ ap (λ (n : List ℕ). Some n) (sym c.as_str.ensures)) c.judge_value.ensures.fit
