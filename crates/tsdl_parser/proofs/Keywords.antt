-- The first keyword that is not read: where it stands, and that none stands where there is none.
use Rattle.tsdl_parser.proofs.Steps.{Atom, List, Some, [], ap, append_assoc, arith, atoms_in, bytes_eq, false, length, length-append, refl, slice_get, slice_get_read, sym, true, ℕ, ◌++◌, ◌+◌, ◌<◌, ◌∙◌, ◌∷◌, ◌≡◌}
use Rattle.std.specs.List.{list_all, list_any}
use Rattle.std.proofs.Math.Seq.{get_or-append_seam}
use Rattle.std.proofs.lemmas.{List.Folds.{list_all-append}, Bool.{not-false}}
use Rattle.ctf_types.specs.Names.{unused_keywords}
use Rattle.tsdl_grammar.specs.declared.atom.Atom.TheVariants as atoms
use Rattle.tsdl_grammar.specs.Denotes.{is_read}
use Rattle.tsdl_grammar.proofs.AtomsAhead.{few}
use Rattle.tsdl_parser.specs.Keywords.{IsUnreadAt}

unread_word : (a : Atom) → is_read a ≡ false → (w : List ℕ) × (a ≡ atoms.Word w) × (list_any (bytes_eq w) unused_keywords ≡ true)
unread_word (atoms.Word w) e = (w, refl, not-false (list_any (bytes_eq w) unused_keywords) e)
unread_word _ e = absurd cc

-- so many of the atoms are looked at, up to the rest, and none of them is such a keyword
pub record Read (ts rest : List Atom) (index : ℕ) : Type 0 where
  pub front : List Atom
  pub whole : ts ≡ front ++ rest
  pub place : length front ≡ index
  pub read : list_all is_read front ≡ true

-- one more is read
pub reads_on : (ts : List Atom) (a : Atom) (rest : List Atom) (index : ℕ) → Read ts (a ∷ rest) index → is_read a ≡ true → Read ts rest (index + 1)
reads_on ts a rest index r e = record {
  front = r.front ++ a ∷ [];
  whole = r.whole ∙ sym (append_assoc r.front (a ∷ []) rest);
  place = omega (arith, length-append r.front (a ∷ []), r.place);
  read = list_all-append is_read r.front (a ∷ []) ∙ rw (r.read, e) refl;
}

-- so many of the atoms are still to be looked at
pub left : (ts rest : List Atom) (index : ℕ) → Read ts rest index → index + length rest ≡ length ts
left ts rest index r = omega (arith, ap length r.whole, length-append r.front rest, r.place)

-- where one more stands, in a text
pub room : (text : List ℕ) (a : Atom) (rest : List Atom) (index : ℕ) → Read (atoms_in text) (a ∷ rest) index → index < length text
room text a rest index r = omega (arith, left (atoms_in text) (a ∷ rest) index r, few text)

-- the next one is such a keyword
pub unread_here : (ts : List Atom) (a : Atom) (rest : List Atom) (index : ℕ) → Read ts (a ∷ rest) index → is_read a ≡ false → IsUnreadAt ts index
unread_here ts a rest index r e =
    let w = unread_word a e in
    let here : slice_get ts (length r.front) ≡ Some a =
    ap (λ (us : List Atom). slice_get us (length r.front)) r.whole
    ∙ slice_get_read (r.front ++ a ∷ rest) (length (r.front ++ a ∷ rest)) (length r.front) a refl (omega (arith, length-append r.front (a ∷ rest))) (sym (get_or-append_seam r.front a rest a)) in
    (w.0, ap (slice_get ts) (sym r.place) ∙ here ∙ ap (λ (x : Atom). Some x) w.1, w.2)
