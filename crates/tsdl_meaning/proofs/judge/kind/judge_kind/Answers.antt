use Rattle.std.proofs.Common.{IsSome, List, ◌∷◌, ◌++◌, codes, length-append, append_assoc, arith, refl, sym, ap, ◌∙◌, subst, []}
use Rattle.tsdl_meaning.proofs.TextWords.{AreRanges, Atom, Attribute, Entry, IsBehindBrace, StopsAmong, StopsWhere, attr_toks, braced, closing_toks, entries_toks, entry_toks, flat_map, int_meaning, int_toks, kind_meaning, kind_toks, mark, next_entry_toks, word, IfErr-weaker, IfOk-weaker}
use Rattle.tsdl_grammar.specs.declared.token.Mark.TheVariants as marks
use Rattle.tsdl_grammar.specs.declared.tree.Entries.TheVariants as entries
use Rattle.tsdl_grammar.specs.declared.tree.Kind.TheVariants as kinds
use Rattle.tsdl_meaning.proofs.JudgedParts.{handed, in_part}
use Rattle.tsdl_meaning.proofs.FlawlessTypes.{bare_string, int_means, ranges_mean, no_ranges}
use Rattle.tsdl_meaning.proofs.judge.kind.judge_kind.Goals as goal

abbrev enum_opening : List Atom
enum_opening = word (codes "enum") ∷ mark marks.Colon ∷ []

pub returns-in-Integer-clause-meant : goal.returns-in-Integer-clause-meant
returns-in-Integer-clause-meant c =
    let known = c.args.judging.now.survey.now.known in
    IfOk-weaker c.judge_attributes.result (λ x. IsSome (kind_meaning known (kinds.Integer c.as_slice.result.now))) (λ x. IsSome (kind_meaning known c.args.kind.now))
    (λ x h. rw c.in-Integer.is (subst (λ (l : List Attribute). IsSome (kind_meaning known (kinds.Integer l))) c.as_slice.ensures h)) c.judge_attributes.ensures.meant

pub returns-in-None-clause-meant : goal.returns-in-None-clause-meant
returns-in-None-clause-meant c = rw (c.in-Text.is, c.in-None.is) (bare_string c.args.judging.now.survey.now.known)

pub returns-in_err-judge_attributes-in-Enumeration-clause-fault : goal.returns-in_err-judge_attributes-in-Enumeration-clause-fault
returns-in_err-judge_attributes-in-Enumeration-clause-fault c =
    let attrs = c.in-Enumeration.attributes in
    let toks = kind_toks (kinds.Enumeration attrs c.in-Enumeration.entries) in
    let ranges = braced (entries_toks c.in-Enumeration.entries) in
    let place = c.saturating_add-place.result in
    let stop = c.in_err-judge_attributes-in-Enumeration.field-0.0 in
    rw c.in-Enumeration.is
    (handed c.from_residual.result stop (StopsAmong c.args.at toks) c.from_residual.ensures.1
    (λ front behind.
    in_part toks enum_opening (int_toks attrs) ranges front behind c.args.at place stop refl (λ fits. omega (arith, c.saturating_add-place.ensures))
    (subst (λ (l : List Attribute). StopsAmong place (int_toks l) stop) c.as_slice-in-Enumeration.ensures c.in_err-judge_attributes-in-Enumeration.ensures.fault (front ++ enum_opening) (ranges ++ behind))))

pub returns-in-Listed-clause-fault : goal.returns-in-Listed-clause-fault
returns-in-Listed-clause-fault c =
    let attrs = c.in-Enumeration.attributes in
    let first = c.in-Listed.first in
    let toks = kind_toks (kinds.Enumeration attrs (entries.Listed first c.in-Listed.others c.in-Listed.field-2)) in
    let integer = enum_opening ++ int_toks attrs in
    let pre = integer ++ mark marks.OpenBrace ∷ [] in
    let ranges = entry_toks first ++ flat_map next_entry_toks c.in-Listed.others in
    let closing = closing_toks c.in-Listed.field-2 ++ mark marks.CloseBrace ∷ [] in
    let place = c.saturating_add.result in
    rw (c.in-Enumeration.is, c.in-Listed.is)
    (IfErr-weaker c.judge_ranges.result (StopsWhere IsBehindBrace place (entry_toks first ++ flat_map next_entry_toks c.as_slice-in-Listed.result.now)) (StopsAmong c.args.at toks)
    (λ s h front behind.
    in_part toks pre ranges closing front behind c.args.at place s
    (ap (λ (l : List Atom). integer ++ mark marks.OpenBrace ∷ l) (append_assoc ranges (closing_toks c.in-Listed.field-2) (mark marks.CloseBrace ∷ [])) ∙ sym (append_assoc integer (mark marks.OpenBrace ∷ []) (ranges ++ closing)))
    (λ fits.
    let l = length-append integer (mark marks.OpenBrace ∷ []) in
    let m = length-append (flat_map attr_toks attrs) (mark marks.CloseBrace ∷ []) in
    let n = c.length.ensures (omega (arith, l, m)) in
    omega (arith, l, m, n, c.saturating_add-place.ensures, c.saturating_add-passed.ensures, c.saturating_add.ensures))
    (subst (λ (l : List Entry). StopsWhere IsBehindBrace place (entry_toks first ++ flat_map next_entry_toks l) s) c.as_slice-in-Listed.ensures h (front ++ pre) (closing ++ behind)
    (front ++ integer, sym (append_assoc front integer (mark marks.OpenBrace ∷ [])))))
    c.judge_ranges.ensures.fault)

pub returns-in-Listed-clause-meant : goal.returns-in-Listed-clause-meant
returns-in-Listed-clause-meant c =
    let known = c.args.judging.now.survey.now.known in
    let attrs = c.in-Enumeration.attributes in
    let first = c.in-Listed.first in
    let int = subst (λ (l : List Attribute). IsSome (int_meaning known l)) c.as_slice-in-Enumeration.ensures (int_means known _ c.in_ok-judge_attributes-in-Enumeration.ensures.meant) in
    rw (c.in-Enumeration.is, c.in-Listed.is)
    (IfOk-weaker c.judge_ranges.result (λ x. AreRanges (first ∷ c.as_slice-in-Listed.result.now)) (λ x. IsSome (kind_meaning known (kinds.Enumeration attrs (entries.Listed first c.in-Listed.others c.in-Listed.field-2))))
    (λ x h.
    ranges_mean known attrs (entries.Listed first c.in-Listed.others c.in-Listed.field-2) int
    (subst (λ (l : List Entry). AreRanges (first ∷ l)) c.as_slice-in-Listed.ensures h))
    c.judge_ranges.ensures.meant)

pub returns-in-Empty-clause-meant : goal.returns-in-Empty-clause-meant
returns-in-Empty-clause-meant c =
    let known = c.args.judging.now.survey.now.known in
    let int = subst (λ (l : List Attribute). IsSome (int_meaning known l)) c.as_slice-in-Enumeration.ensures (int_means known _ c.in_ok-judge_attributes-in-Enumeration.ensures.meant) in
    rw (c.in-Enumeration.is, c.in-Empty.is) (ranges_mean known c.in-Enumeration.attributes entries.Empty int no_ranges)
