use native.Mathlib.Omega.{arith}
use Rattle.std.proofs.Common.{rules, ◌≡◌, ◌<◌, ◌≤◌, ◌^◌, ◌++◌, ℕ, [], length, take, sym, ap, subst, ◌∙◌, inl, inr}
use Rattle.std.proofs.lemmas.List.{append-nil}
use Rattle.std.proofs.Math.Seq.{take-length}
use Rattle.tsdl_grammar.specs.Spelling.{text_toks}
use Rattle.tsdl_grammar.specs.Fronts.{atoms_in, shown}
use Rattle.tsdl_grammar.proofs.AtomsAhead.{few}
use Rattle.tsdl_parser.specs.declared.halt.Halt.{Halt}
use Rattle.tsdl_parser.specs.Halting.{HaltsAmong}
use Rattle.tsdl_flaw.specs.Lengths.{most}
use Rattle.tsdl_reader.proofs.Places.{whole_stands, misses}
use Rattle.tsdl_reader.proofs.Halting.{ends, at_keyword, stopped, halts_mean_nothing, of_fault}
use Rattle.tsdl_reader.specs.Reading.{MeansNothing}
use Rattle.tsdl_reader.proofs.meaning.meaning.Goals as goal

pub returns-in-Ok-clause-fault : goal.returns-in-Ok-clause-fault
returns-in-Ok-clause-fault c =
    let meant = atoms_in c.args.text.now in
    let all : c.unwrap_or-end.result ≡ length meant = let t = c.if-end-all.true in let l = c.atom_count-all.ensures in omega arith in
    let front : take c.unwrap_or-end.result meant ≡ meant = ap (λ (n : ℕ). take n meant) all ∙ take-length meant in
    let same : text_toks c.deref.result.now ≡ meant = ap text_toks c.deref.ensures.value ∙ sym c.in-Ok.ensures.found ∙ c.up_to.ensures ∙ front in
    let small : length c.args.text.now < 2 ^ 63 = search rules in
    let bound : length meant ≤ most = omega (arith, few c.args.text.now, small) in
    whole_stands meant (text_toks c.deref.result.now) c.metadata_of.result same bound c.metadata_of.ensures.fault

pub returns-in-Ok-clause-sizes : goal.returns-in-Ok-clause-sizes
returns-in-Ok-clause-sizes c =
    let meant = atoms_in c.args.text.now in
    let all : c.unwrap_or-end.result ≡ length meant = let t = c.if-end-all.true in let l = c.atom_count-all.ensures in omega arith in
    let front : take c.unwrap_or-end.result meant ≡ meant = ap (λ (n : ℕ). take n meant) all ∙ take-length meant in
    let same : text_toks c.deref.result.now ≡ meant = ap text_toks c.deref.ensures.value ∙ sym c.in-Ok.ensures.found ∙ c.up_to.ensures ∙ front in
    let small : length c.args.text.now < 2 ^ 63 = search rules in
    let bound : length meant ≤ most = omega (arith, few c.args.text.now, small) in
    misses meant c.deref.result.now c.metadata_of.result same bound c.metadata_of.ensures.sizes

pub first_fault-requires-clause-halt : goal.first_fault-requires-clause-halt
first_fault-requires-clause-halt c =
    let meant = atoms_in c.args.text.now in
    let end = c.unwrap_or-end.result in
    let e = ends meant c.first_unread.result c.atom_count-all.result end c.atom_count-all.ensures c.unwrap_or-end.ensures c.first_unread.ensures.within c.first_unread.ensures.unread in
    let spelled : text_toks c.in-Ok-2.field-0.items ≡ take end meant ++ [] = sym c.in-Ok-2.ensures.found ∙ c.up_to.ensures ∙ sym (append-nil (take end meant)) in
    elim e.1 [
      | inl whole ↦ absurd (omega (arith, c.if-end-all.false, c.atom_count-all.ensures, whole))
      | inr keyword ↦ at_keyword meant end e.0 keyword (c.in-Ok-2.field-0.items, ([], spelled))
    ]

pub first_fault-requires-in-Err-Halted-clause-halt : goal.first_fault-requires-in-Err-Halted-clause-halt
first_fault-requires-in-Err-Halted-clause-halt c =
    let meant = atoms_in c.args.text.now in
    let end = c.unwrap_or-end.result in
    let e = ends meant c.first_unread.result c.atom_count-all.result end c.atom_count-all.ensures c.unwrap_or-end.ensures c.first_unread.ensures.within c.first_unread.ensures.unread in
    stopped meant (shown c.up_to.result) end c.in-Err-Halted.halt.left c.at.result c.up_to.ensures e.0 e.1 (subst (HaltsAmong (shown c.up_to.result)) c.in-Err-Halted.field-0-is c.in-Err-Halted.ensures.halts) (omega (arith, c.at.ensures.place, ap (λ (h : Halt). h.left) c.in-Err-Halted.halt-is))

pub returns-in-Err-Halted-clause-none : goal.returns-in-Err-Halted-clause-none
returns-in-Err-Halted-clause-none c =
    let meant = atoms_in c.args.text.now in
    let end = c.unwrap_or-end.result in
    let e = ends meant c.first_unread.result c.atom_count-all.result end c.atom_count-all.ensures c.unwrap_or-end.ensures c.first_unread.ensures.within c.first_unread.ensures.unread in
    of_fault c.first_fault-in-Err-Halted.result (MeansNothing meant)
    (halts_mean_nothing meant c.at.result (stopped meant (shown c.up_to.result) end c.in-Err-Halted.halt.left c.at.result c.up_to.ensures e.0 e.1 (subst (HaltsAmong (shown c.up_to.result)) c.in-Err-Halted.field-0-is c.in-Err-Halted.ensures.halts) (omega (arith, c.at.ensures.place, ap (λ (h : Halt). h.left) c.in-Err-Halted.halt-is))))
