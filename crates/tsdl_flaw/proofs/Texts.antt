-- A fault in the front of a text is a fault of the text.
use native.Mathlib.Omega.{arith}
use Rattle.std.proofs.Common.{◌≡◌, ℕ, suc, ◌+◌, ◌<◌, ◌≤◌, List, [], ◌∷◌, ◌++◌, length, drop, take, get_or, slice_get, Some, sym, ap, ◌∙◌, subst, inl, inr, append_assoc, length-append}
use Rattle.std.proofs.lemmas.Option.{slice_get_within, get_or_from_slice_get}
use Rattle.std.proofs.lemmas.List.{take-append-drop, take-append-le, length-take-le, take-take}
use Rattle.std.proofs.Math.Seq.{drop-cons, take-append_seam}
use Rattle.tsdl_grammar.specs.declared.atom.Atom.{Atom}
use Rattle.tsdl_grammar.specs.declared.fault.MetaFaultKind.{MetaFaultKind}
use Rattle.tsdl_grammar.specs.declared.fault.MetaFaultKind.TheVariants as faults
use Rattle.tsdl_grammar.specs.Spelling.{word}
use Rattle.tsdl_flaw.specs.declared.flaw.Fault.{Fault}
use Rattle.tsdl_flaw.specs.Flaws.{IsWrong, IsFlaw, FaultStands}
use Rattle.tsdl_flaw.specs.Stopping.{kind_of, StandsIn}

-- a flaw among the atoms of a text is a fault of it
pub stands : (text : List Atom) (at to : ℕ) (kind : MetaFaultKind) → IsFlaw [] text at to kind → FaultStands text at kind
stands text at to faults.NoMagicLine f = f.wrong
stands text at to faults.Token f = f.wrong
stands text at to faults.OutOfMemory f = f.wrong
stands text at to faults.Syntax f = inr (inl (to, f))
stands text at to (faults.Unsupported name) f = (to, f)
stands text at to faults.Duplicate f = (to, f)
stands text at to faults.NoPacketSize f = absurd f.wrong
stands text at to faults.BadLength f = (to, f)
stands text at to faults.Limit f = (to, f)

-- the first atoms of a text that goes on otherwise, up to a place that is kept
kept_front : (text more front behind : List Atom) (kept : ℕ) → kept ≤ length text → length front ≤ kept → take kept text ++ more ≡ front ++ behind → text ≡ front ++ drop (length front) text
kept_front text more front behind kept fits within e =
    let long : length front ≤ length (take kept text) = let l = length-take-le kept text fits in omega arith in
    let same : take (length front) (take kept text) ≡ front =
    sym (take-append-le (length front) (take kept text) more long) ∙ ap (λ (l : List Atom). take (length front) l) e ∙ take-append_seam front behind in
    let front_of_text : take (length front) text ≡ front = sym (take-take (length front) kept text within) ∙ same in
    sym (take-append-drop (length front) text) ∙ ap (λ (l : List Atom). l ++ drop (length front) text) front_of_text

-- a fault of the first atoms and what they go on with, which ends among the first
pub in_front : (text more : List Atom) (kept : ℕ) (fault : Fault) → kept ≤ length text → fault.end ≤ kept → StandsIn [] 0 (take kept text ++ more) fault → FaultStands text fault.at (kind_of fault.flaw)
in_front text more kept fault fits within s =
    let f = s.flaw in
    let front = f.before ++ f.piece in
    let count : length front ≤ kept = let e = s.ends in let t = f.ends in omega (arith, length-append f.before f.piece) in
    let split : text ≡ front ++ drop (length front) text =
    kept_front text more front f.behind kept fits count (f.parts ∙ sym (append_assoc f.before f.piece f.behind)) in
    let here : IsFlaw [] text s.from s.to (kind_of fault.flaw) = record {
      before = f.before;
      piece = f.piece;
      behind = drop (length front) text;
      parts = split ∙ append_assoc f.before f.piece (drop (length front) text);
      begins = f.begins;
      ends = f.ends;
      wrong = f.wrong;
    } in
    let at : s.from ≡ fault.at = let e = s.begins in omega arith in
    subst (λ (n : ℕ). FaultStands text n (kind_of fault.flaw)) at (stands text s.from s.to (kind_of fault.flaw) here)

-- a word that is not read where it stands
pub word_stands : (text : List Atom) (at : ℕ) (w : List ℕ) (kind : MetaFaultKind) → slice_get text at ≡ Some (word w) → ((front : List Atom) → IsWrong front (word w ∷ []) kind) → FaultStands text at kind
word_stands text at w kind e wrong =
    let within : at < length text = slice_get_within text at (word w) e in
    let here : get_or text at (word w) ≡ word w = get_or_from_slice_get text at (word w) (word w) e in
    let rest : drop at text ≡ word w ∷ drop (suc at) text = drop-cons text at (word w) within ∙ ap (λ (a : Atom). a ∷ drop (suc at) text) here in
    let count : length (take at text) ≡ at = length-take-le at text (omega arith) in
    stands text at (at + 1) kind (record {
      before = take at text;
      piece = word w ∷ [];
      behind = drop (suc at) text;
      parts = sym (take-append-drop at text) ∙ ap (λ (l : List Atom). take at text ++ l) rest;
      begins = sym count;
      ends = omega arith;
      wrong = wrong (take at text);
    })
