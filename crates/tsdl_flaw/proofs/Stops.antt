-- A stop in a part is a stop in the whole.
use native.Mathlib.Omega.{arith}
use Rattle.std.proofs.Common.{◌≡◌, ℕ, ◌+◌, ◌≤◌, List, [], ◌++◌, length, refl, sym, ap, ◌∙◌, subst, append_assoc, length-append, string_bytes, inl}
use Rattle.std.proofs.lemmas.List.{append-nil}
use Rattle.std.specs.declared.alloc.Global.{Global}
use Rattle.std.specs.declared.string.String.{String}
use Rattle.tsdl_grammar.specs.declared.atom.Atom.{Atom}
use Rattle.tsdl_grammar.specs.declared.tree.Name.{Name}
use Rattle.tsdl_grammar.specs.Spelling.{name_toks}
use Rattle.tsdl_flaw.specs.Written.{written}
use Rattle.tsdl_flaw.specs.declared.flaw.Fault.{Fault}
use Rattle.tsdl_flaw.specs.declared.flaw.Stop.{Stop}
use Rattle.tsdl_flaw.specs.declared.flaw.Stop.TheVariants as stops
use Rattle.tsdl_flaw.specs.Lengths.{most}
use Rattle.tsdl_flaw.specs.Flaws.{IsUnsupported, IsWrong}
use Rattle.tsdl_flaw.specs.Stopping.{kind_of, StandsIn, StopsIn}

-- the place behind these atoms, where it can be counted
abbrev pub IsBehind : ℕ → List Atom → List Atom → ℕ → Type 0
IsBehind at pre toks place = at + length toks ≤ most → place ≡ at + length pre

fault_in_parts : (front pre own behind : List Atom) (at place : ℕ) (f : Fault) → place ≡ at + length pre → StandsIn (front ++ pre) place own f → StandsIn front at (pre ++ (own ++ behind)) f
fault_in_parts front pre own behind at place f e s = record {
  from = length pre + s.from;
  to = length pre + s.to;
  begins = let b = s.begins in omega arith;
  ends = let b = s.ends in omega arith;
  flaw = record {
    before = pre ++ s.flaw.before;
    piece = s.flaw.piece;
    behind = s.flaw.behind ++ behind;
    parts = let p = s.flaw.parts in grind (arith, append_assoc);
    begins = let b = s.flaw.begins in omega (arith, length-append pre s.flaw.before);
    ends = let b = s.flaw.ends in omega (arith, length-append pre s.flaw.before);
    wrong = subst (λ (l : List Atom). IsWrong l s.flaw.piece (kind_of f.flaw)) (append_assoc front pre s.flaw.before) s.flaw.wrong;
  };
}

-- in the middle of others
pub in_parts : (front pre own behind : List Atom) (at place : ℕ) (stop : Stop) → IsBehind at pre (pre ++ (own ++ behind)) place → StopsIn (front ++ pre) place own stop → StopsIn front at (pre ++ (own ++ behind)) stop
in_parts front pre own behind at place (stops.Fault f) e s = λ bound.
    let b : at + (length pre + (length own + length behind)) ≤ most = subst (λ (n : ℕ). at + n ≤ most) (length-append pre (own ++ behind) ∙ ap (λ (n : ℕ). length pre + n) (length-append own behind)) bound in
    fault_in_parts front pre own behind at place f (e bound) (s (let same = e bound in omega arith))
in_parts front pre own behind at place stops.NoMemory e s = tt

-- ---- one piece

-- a flaw of all of the first atoms
pub whole : (front piece behind : List Atom) (f : Fault) → (at end : ℕ) → f.at ≡ at → f.end ≡ end → (length piece ≤ most → at + length piece ≤ most → end ≡ at + length piece) → IsWrong front piece (kind_of f.flaw)
    → StopsIn front at (piece ++ behind) (stops.Fault f)
whole front piece behind f at end b e count w = λ bound.
    let fits : at + length piece ≤ most = omega (arith, length-append piece behind) in
    record {
      from = 0;
      to = length piece;
      begins = omega arith;
      ends = let c = count (omega arith) fits in omega arith;
      flaw = record {
        before = [];
        piece = piece;
        behind = behind;
        parts = refl;
        begins = refl;
        ends = omega arith;
        wrong = subst (λ (l : List Atom). IsWrong l piece (kind_of f.flaw)) (sym (append-nil front)) w;
      };
    }

-- a name that is not read, as it is written
pub spelled : (front : List Atom) (n : Name) (s : String Global) → string_bytes s ≡ written n → IsUnsupported front (name_toks n) (string_bytes s)
spelled front n s e = inl (record { words = n; behind = []; here = sym (append-nil (name_toks n)); same = e })
