-- How many atoms spell the rest of a name, and the other entries of an enumeration.
use Rattle.std.proofs.Common.{◌≡◌, ℕ, ◌+◌, ◌*◌, List, [], ◌∷◌, length, refl, arith, length-append}
use Rattle.std.specs.List.{flat_map}
use Rattle.tsdl_grammar.specs.declared.tree.Entry.{Entry}
use Rattle.tsdl_grammar.specs.Spelling.{dotted, entry_toks, next_entry_toks}

-- a word behind a dot is two atoms
pub dotted_length : (words : List (List ℕ)) → length (flat_map dotted words) ≡ length words * 2
dotted_length [] = refl
dotted_length (w ∷ ws) = let e = dotted_length ws in omega arith

-- a comma stands before each other entry
pub next_entries_length : (es : List Entry) → length (flat_map next_entry_toks es) ≡ length (flat_map entry_toks es) + length es
next_entries_length [] = refl
next_entries_length (e ∷ es) =
    let r = next_entries_length es in
    omega (arith, length-append (entry_toks e) (flat_map next_entry_toks es), length-append (entry_toks e) (flat_map entry_toks es))
