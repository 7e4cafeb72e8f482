-- Where the front of a text stops spelling blocks, the text does: the front ends with the text, or before a keyword that is not read.
use Rattle.std.proofs.Common.{◌≡◌, ℕ, suc, ◌+◌, ◌-◌, ◌<◌, ◌≤◌, ◌⊎◌, Bool, true, false, not, ◌&&◌, List, [], ◌∷◌, ◌++◌, length, drop, take, get_or, slice_get, Option, Some, None, IfSome, refl, sym, ap, ◌∙◌, subst, append_assoc, inl, inr, arith}
use Rattle.std.specs.List.{list_all, list_any}
use Rattle.std.specs.Prelude.{bytes_eq}
use Rattle.std.specs.Option.{unwrap_or}
use Rattle.std.proofs.lemmas.Option.{slice_get_within, get_or_from_slice_get}
use Rattle.std.proofs.lemmas.List.{append-nil, take_all, take-append-drop, length-take-le}
use Rattle.std.proofs.lemmas.Bool.{and_parts}
use Rattle.std.proofs.lemmas.List.Folds.{list_all-append}
use Rattle.std.proofs.Math.Seq.{drop-cons}
use Rattle.ctf_types.specs.Names.{unused_keywords}
use Rattle.tsdl_grammar.specs.declared.atom.Atom.{Atom}
use Rattle.tsdl_grammar.specs.declared.atom.Atom.TheVariants as atoms
use Rattle.tsdl_grammar.specs.declared.tree.Block.{Block}
use Rattle.tsdl_grammar.specs.Denotes.{is_read}
use Rattle.tsdl_grammar.specs.Spelling.{text_toks}
use Rattle.tsdl_grammar.specs.Halts.{GoesOn, IsStuck, IsHalt}
use Rattle.tsdl_parser.specs.Keywords.{IsUnreadAt}
use Rattle.tsdl_flaw.specs.declared.flaw.Stop.{Stop}
use Rattle.tsdl_flaw.specs.declared.flaw.Stop.TheVariants as stops
use Rattle.tsdl_flaw.specs.TextStops.{IfFault}
use Rattle.tsdl_reader.specs.Reading.{MeansNothing}

never_both : (x : Bool) → (x && false) ≡ true → ⊥
never_both x e = let both : false ≡ true = (and_parts x false e).1 in cc

-- a keyword that is not read is none of what is read
unread : (front : List Atom) (w : List ℕ) → list_any (bytes_eq w) unused_keywords ≡ true → list_all is_read (front ++ atoms.Word w ∷ []) ≡ true → ⊥
unread front w unused all =
    let e : list_all is_read (front ++ atoms.Word w ∷ []) ≡ (list_all is_read front && false) =
    list_all-append is_read front (atoms.Word w ∷ []) ∙ ap (λ (b : Bool). list_all is_read front && (not b && true)) unused in
    never_both (list_all is_read front) (sym e ∙ all)

-- the atoms before a keyword, the keyword, and those behind it
around : (text : List Atom) (end : ℕ) (w : List ℕ) → slice_get text end ≡ Some (atoms.Word w) → text ≡ take end text ++ (atoms.Word w ∷ drop (suc end) text)
around text end w e =
    let within : end < length text = slice_get_within text end (atoms.Word w) e in
    let here : get_or text end (atoms.Word w) ≡ atoms.Word w = get_or_from_slice_get text end (atoms.Word w) (atoms.Word w) e in
    sym (take-append-drop end text) ∙ ap (λ (l : List Atom). take end text ++ l) (drop-cons text end (atoms.Word w) within ∙ ap (λ (a : Atom). a ∷ drop (suc end) text) here)

-- atoms that can go on stop at a keyword behind them
pub at_keyword : (text : List Atom) (end : ℕ) → end ≤ length text → IsUnreadAt text end → GoesOn (take end text) → IsHalt text end
at_keyword text end fits k goes_on = record {
  before = take end text;
  behind = atoms.Word k.0 ∷ drop (suc end) text;
  parts = around text end k.0 k.1;
  place = sym (length-take-le end text fits);
  goes_on = goes_on;
  stuck = λ read more. unread (take end text) k.0 k.2 read;
}

-- where the front stops at its end
at_end : (text : List Atom) (end at : ℕ) → end ≤ length text → (end ≡ length text) ⊎ IsUnreadAt text end → (before : List Atom) → take end text ≡ before → at ≡ length before → GoesOn before → IsStuck before [] → IsHalt text at
at_end text end at fits (inl whole) before parts place goes_on stuck = record {
  before = before;
  behind = [];
  parts = sym (take_all end text (omega arith)) ∙ parts ∙ sym (append-nil before);
  place = place;
  goes_on = goes_on;
  stuck = stuck;
}
at_end text end at fits (inr k) before parts place goes_on stuck =
    let e : end ≡ at = sym (length-take-le end text fits) ∙ ap length parts ∙ sym place in
    subst (λ (n : ℕ). IsHalt text n) e (at_keyword text end fits k (subst GoesOn (sym parts) goes_on))

-- the halt of the front of a text
pub of_front : (text : List Atom) (end at : ℕ) → end ≤ length text → (end ≡ length text) ⊎ IsUnreadAt text end → IsHalt (take end text) at → IsHalt text at
of_front text end at fits ends h =
    elim h.behind as (λ behind. take end text ≡ h.before ++ behind → IsStuck h.before behind → IsHalt text at) [
      | [] ↦ λ parts stuck. at_end text end at fits ends h.before (parts ∙ append-nil h.before) h.place h.goes_on stuck
      | (a ∷ behind) ↦ λ parts stuck. record {
        before = h.before;
        behind = a ∷ (behind ++ drop end text);
        parts = sym (take-append-drop end text) ∙ ap (λ (l : List Atom). l ++ drop end text) parts ∙ append_assoc h.before (a ∷ behind) (drop end text);
        place = h.place;
        goes_on = h.goes_on;
        stuck = stuck;
      }
    ] h.parts h.stuck

-- a text is gone over up to its first keyword that is not read, or to its end
pub ends : (text : List Atom) (found : Option ℕ) (all end : ℕ) → all ≡ length text → end ≡ unwrap_or found all → IfSome found (λ i. i < length text) → IfSome found (λ i. IsUnreadAt text i)
    → (end ≤ length text) × ((end ≡ length text) ⊎ IsUnreadAt text end)
ends text None all end counts is within unread = let e : end ≡ length text = is ∙ counts in (omega (arith, e), inl e)
ends text (Some i) all end counts is within unread = (omega (arith, is, within), inr (subst (λ (n : ℕ). IsUnreadAt text n) (sym is) unread))

-- where what is gone over stops, of which so many atoms are left
pub stopped : (text gone : List Atom) (end left at : ℕ) → gone ≡ take end text → end ≤ length text → (end ≡ length text) ⊎ IsUnreadAt text end → (n : ℕ) × (n + left ≡ length gone) × IsHalt gone n → at ≡ end - left → IsHalt text at
stopped text gone end left at same fits ends (n, counts, halt) place =
    let long : length gone ≡ end = ap length same ∙ length-take-le end text fits in
    let e : n ≡ at = omega (arith, long, counts, place) in
    of_front text end at fits ends (subst (λ (l : List Atom). IsHalt l at) same (subst (λ (k : ℕ). IsHalt gone k) e halt))

-- atoms that stop spelling blocks mean nothing
pub halts_mean_nothing : (text : List Atom) (at : ℕ) → IsHalt text at → MeansNothing text
halts_mean_nothing text at h m (read, (bs, spelled, says)) =
    elim h.behind as (λ behind. text ≡ h.before ++ behind → IsStuck h.before behind → ⊥) [
      | [] ↦ λ parts stuck. stuck bs (sym spelled ∙ parts ∙ append-nil h.before)
      | (a ∷ behind) ↦ λ parts stuck.
          let whole : text ≡ (h.before ++ a ∷ []) ++ behind = parts ∙ sym (append_assoc h.before (a ∷ []) behind) in
          let both : (list_all is_read (h.before ++ a ∷ []) && list_all is_read behind) ≡ true = sym (list_all-append is_read (h.before ++ a ∷ []) behind) ∙ sym (ap (list_all is_read) whole) ∙ read in
          stuck (and_parts (list_all is_read (h.before ++ a ∷ [])) (list_all is_read behind) both).0 (bs, (behind, sym spelled ∙ whole))
    ] h.parts h.stuck

-- what holds is said of a fault, too
pub of_fault : (stop : Stop) (P : Type 0) → P → IfFault stop P
of_fault (stops.Fault fault) P p = p
of_fault stops.NoMemory P p = tt
