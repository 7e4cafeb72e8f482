-- What a fault of trees says of a text that they spell the front of.
use Rattle.std.proofs.Common.{◌≡◌, ℕ, ◌+◌, ◌<◌, ◌≤◌, ◌⊎◌, List, [], ◌∷◌, ◌++◌, length, take, refl, sym, ap, ◌∙◌, subst, inl, inr, arith, length-append}
use Rattle.std.proofs.lemmas.List.{append-nil, length-take-le, take_all}
use Rattle.tsdl_grammar.specs.declared.atom.Atom.{Atom}
use Rattle.tsdl_grammar.specs.declared.fault.MetaFaultKind.{MetaFaultKind}
use Rattle.tsdl_flaw.specs.declared.flaw.Fault.{Fault}
use Rattle.tsdl_flaw.specs.Flaws.{FaultStands}
use Rattle.tsdl_flaw.specs.Stopping.{kind_of, StandsIn}
use Rattle.tsdl_flaw.specs.TextStops.{IsTextFault}
use Rattle.tsdl_flaw.proofs.Texts.{stands, in_front}

-- a fault of a whole text
pub text_stands : (text : List Atom) (fault : Fault) → IsTextFault text fault → FaultStands text fault.at (kind_of fault.flaw)
text_stands text fault (inl s) =
    let at : s.from ≡ fault.at = let e = s.begins in omega arith in
    subst (λ (n : ℕ). FaultStands text n (kind_of fault.flaw)) at (stands text s.from s.to (kind_of fault.flaw) s.flaw)
text_stands text fault (inr (inl sizes, at, end)) = subst (λ (kind : MetaFaultKind). FaultStands text fault.at kind) (sym sizes) at
text_stands text fault (inr (inr (syntax, lacks), at, end)) = subst (λ (kind : MetaFaultKind). FaultStands text fault.at kind) (sym syntax) (inr (inr (at, lacks)))

no_more : (more : List Atom) → length more ≡ 0 → more ≡ []
no_more [] e = refl
no_more (a ∷ more) e = absurd (omega arith)

-- trees that end where a fault stands are the whole text, where the fault counts at a place of the text
same_text : (text more toks : List Atom) (kept at end : ℕ) → take kept text ++ more ≡ toks → kept ≤ length text → end ≤ kept → (at < kept) ⊎ (kept ≡ length text) → at ≡ length toks → end ≡ length toks → toks ≡ text
same_text text more toks kept at end e fits within place stands ends =
    let l : length (take kept text) + length more ≡ length toks = sym (length-append (take kept text) more) ∙ ap length e in
    let k : length (take kept text) ≡ kept = length-take-le kept text fits in
    let none : more ≡ [] = no_more more (omega (arith, l, k)) in
    let all : kept ≡ length text = elim place [ inl h ↦ absurd (omega (arith, l, k)) | inr h ↦ h ] in
    sym e ∙ ap (λ (m : List Atom). take kept text ++ m) none ∙ append-nil (take kept text) ∙ take_all kept text (omega arith)

-- A fault of trees, of which the first atoms are those of a text up to a place, is one of the text where it ends before the place. The end of the trees is the
-- end of the text only where all of its atoms are theirs: so a fault that stands at the place counts only there.
pub fault_stands : (text more toks : List Atom) (kept : ℕ) (fault : Fault) → take kept text ++ more ≡ toks → kept ≤ length text → fault.end ≤ kept → (fault.at < kept) ⊎ (kept ≡ length text)
    → IsTextFault toks fault → FaultStands text fault.at (kind_of fault.flaw)
fault_stands text more toks kept fault e fits within place (inl s) =
    in_front text more kept fault fits within (subst (λ (l : List Atom). StandsIn [] 0 l fault) (sym e) s)
fault_stands text more toks kept fault e fits within place (inr missed) =
    let same = same_text text more toks kept fault.at fault.end e fits within place missed.1 missed.2 in
    text_stands text fault (subst (λ (l : List Atom). IsTextFault l fault) same (inr missed))
