use Rattle.std.proofs.Common.{List, ◌∷◌, ◌++◌, ◌≡◌, ap, sym, ◌∙◌, append_assoc, arith, false, subst, length-append, Option, []}
use Rattle.tsdl_meaning.proofs.TextWords.{Atom, Number, entry_toks, append-nil, high_of, high_toks, int_le, label_toks, mark, number_toks, signed_of}
use Rattle.tsdl_grammar.specs.declared.token.Mark.TheVariants as marks
use Rattle.tsdl_meaning.proofs.JudgedParts.{in_part}
use Rattle.tsdl_meaning.proofs.Misfits.{range_unfit}
use Rattle.tsdl_meaning.proofs.FlawlessTypes.{number_means, range_means}
use Rattle.tsdl_meaning.proofs.StopsInMembers.{label_length}
use Rattle.tsdl_meaning.proofs.judge.kind.judge_range.Goals as goal

pub returns-clause-fault : goal.returns-clause-fault
returns-clause-fault c = λ front behind.
    let e = c.args.entry.now in
    let low = label_toks e.label ++ mark marks.Equals ∷ number_toks e.low in
    let pre = low ++ mark marks.Ellipsis ∷ [] in
    let high = number_toks c.in-Some.high in
    let parts : entry_toks e ≡ pre ++ (high ++ []) =
    ap (λ (o : Option Number). low ++ high_toks o) c.in-Some.is ∙ ap (λ (l : List Atom). low ++ mark marks.Ellipsis ∷ l) (sym (append-nil high)) ∙ sym (append_assoc low (mark marks.Ellipsis ∷ []) (high ++ []))
    in
    in_part (entry_toks e) pre high [] front behind c.args.at c.saturating_add-place.result c.expected.result parts
    (λ fits.
    let l = label_length e.label in
    let a = length-append low (mark marks.Ellipsis ∷ []) in
    let b = length-append (label_toks e.label) (mark marks.Equals ∷ number_toks e.low) in
    let n = c.length.ensures (omega (arith, l, a, b)) in
    omega (arith, l, a, b, n, c.saturating_add.ensures, c.saturating_add-place.ensures))
    (c.expected.ensures (front ++ pre) behind
    (range_unfit e.label e.low c.in-Some.high front
    (subst (λ (o : Option Number). int_le (signed_of e.low) (high_of (signed_of e.low) o) ≡ false) c.in-Some.is (sym c.rises.ensures ∙ c.if-rises.false))))

pub returns-in_default-clause-meant : goal.returns-in_default-clause-meant
returns-in_default-clause-meant c = number_means c.args.entry.now c.in_default.is

pub returns-then-rises-clause-meant : goal.returns-then-rises-clause-meant
returns-then-rises-clause-meant c = range_means c.args.entry.now (sym c.rises.ensures ∙ c.if-rises.true)
