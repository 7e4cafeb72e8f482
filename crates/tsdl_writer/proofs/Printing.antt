-- Calls that print, one behind the other, and loops of such calls.
pub use Rattle.tsdl_writer.proofs.TreeWords.{All, All-more, Atom, Auto, Base, Begins, Bool, ClockType, Config, Denotes, Dyn, Ends, EnvironmentEntry, EventType, Int, IntType, Item, IsHeld, IsHeldClock, IsHeldValue, List, Mapping, MemberType, Name, None, OnOk, Option, Printer, Prints, Result, SFits, Some, Static, StreamType, [], add-one, align_toks, all_event_blocks, ap, append-nil, append_assoc, arith, array_member, attributes, block_and_semicolon, blocks_of, braced, bracket_toks, cases_Bool, chain_of, clock_block, clock_numbers, closing, codes, context_numbers, count_bracket, drop, drop_all, drop_more, entries_toks, entry_toks, entry_tree, entry_trees, environment_blocks, event_block, event_blocks, event_header_members, false, false≢true, flag_word, flat_map, flat_map-append, get_or, header_members, high_toks, inl, inr, int_le, int_toks, integer_attributes, ints, is_none, item_toks, kind_toks, kind_tree, length, length_member, length_name, length_type, map, member_toks, member_toks_of, member_tree, member_trees, metadata_of, name_toks, named_fact_toks, named_fact_tree, natural_item, natural_number, next_entry_toks, number_member, number_toks, one_word, option_map, optional_items, order_word, refl, rules, scope_items, slice_get, stream_block, stream_blocks, subst, suc, sym, take, take_all, take_rest, text_item, text_toks, to_z-of_z, token_toks, trace_block, two_words, uuid_item, uuid_member, w128, w64, whole_item, whole_number, word_item, true, zero, ℕ, ◌++◌, ◌+◌, ◌-◌, ◌<◌, ◌==◌, ◌∙◌, ◌∷◌, ◌≡◌, ◌≤◌}
use Rattle.std.proofs.lemmas.Result.{on_ok_weaker}
use Rattle.tsdl_grammar.specs.declared.token.Mark.TheVariants as marks
use Rattle.tsdl_grammar.specs.declared.atom.Atom.TheVariants as atoms

-- tokens as they stand behind one another, however trees group them
pub ruleset groups = (append_assoc, flat_map-append, append-nil)

-- tokens in front of others, grouped as a tree groups them
pub regroup : {p : Printer} {text : List ℕ} (a b rest : List Atom) → Ends p (a ++ (b ++ rest)) text → Ends p (a ++ b ++ rest) text
regroup a b rest e = rw append_assoc e

-- the tokens of two lists of trees
pub pair : {A : Type 0} {p : Printer} {text : List ℕ} (toks : A → List Atom) (xs ys : List A) (rest : List Atom) → Ends p (flat_map toks xs ++ (flat_map toks ys ++ rest)) text → Ends p (flat_map toks (xs ++ ys) ++ rest) text
pair toks xs ys rest e = simp groups e

-- a last call, whose result is returned as it is
pub last : {X E P Q : Type 0} (r : Result X E) → OnOk r P → (P → Q) → OnOk r Q
last r one before = on_ok_weaker r before one

-- the whole is printed, once what is left of it is
pub record Leaves (o p : Printer) (whole left : List Atom) : Type 0 where
  pub on : (rest : List Atom) (text : List ℕ) → Ends p (left ++ rest) text → Ends o (whole ++ rest) text

pub begun : (p : Printer) (whole : List Atom) → Leaves p p whole whole
begun p whole = record { on = λ rest text e. e }

-- one more item is printed
pub one_more : {o p q : Printer} {whole left : List Atom} (a after : List Atom) → Leaves o p whole left → left ≡ a ++ after → Prints p q a → Leaves o q whole after
one_more a after before e one = record { on = λ rest text h. before.on rest text (rw e (simp append_assoc (one (after ++ rest) text h))) }

pub all_printed : {o p : Printer} {whole left : List Atom} → Leaves o p whole left → left ≡ [] → Prints o p whole
all_printed before e rest text h = before.on rest text (rw e h)

-- what is left of a list, from the item at a place on
pub item : {A : Type 0} (xs : List A) (i : ℕ) (x : A) → i < length xs → x ≡ get_or xs i x → drop i xs ≡ x ∷ drop (i + 1) xs
item {A} xs i x h e = drop_more xs i x h ∙ ap (λ (y : A). y ∷ drop (i + 1) xs) (sym e)

-- what holds of each item that was met holds of all in the end
pub all_more : {A : Type 0} (P : A → Type 0) (xs : List A) (i : ℕ) (x : A) → i < length xs → x ≡ get_or xs i x → All P (take i xs) → P x → All P (take (i + 1) xs)
all_more P xs i x h e all p = All-more P xs i x h all (subst P e p)

pub all_met : {A : Type 0} (P : A → Type 0) (xs : List A) (i : ℕ) → length xs ≤ i → All P (take i xs) → All P xs
all_met P xs i h all = subst (All P) (take_all i xs h) all

-- the member at a place
pub member_at : (ms : List (List ℕ × MemberType)) (i : ℕ) (name : List ℕ) (t : MemberType) → option_map (λ m. m.0) (slice_get ms i) ≡ Some name → option_map (λ m. m.1) (slice_get ms i) ≡ Some t → drop i ms ≡ (name, t) ∷ drop (i + 1) ms
member_at [] i name t e f = absurd cc
member_at ((n, m) ∷ ms) zero name t e f = cc
member_at (m ∷ ms) (suc i) name t e f = grind (arith, member_at ms i name t e f)

-- a member's line
pub line : {p : Printer} {text : List ℕ} (kind named rest : List Atom) → Ends p (kind ++ (named ++ atoms.Mark marks.Semicolon ∷ rest)) text → Ends p (kind ++ named ++ atoms.Mark marks.Semicolon ∷ [] ++ rest) text
line kind named rest e = simp append_assoc e

-- an entry, of which the numbers behind the first may be none
pub entry_groups : {p : Printer} {text : List ℕ} (label : List ℕ) (low high rest : List Atom) → Ends p (atoms.Text label ∷ atoms.Mark marks.Equals ∷ (low ++ []) ++ (high ++ rest)) text
    → Ends p (atoms.Text label ∷ atoms.Mark marks.Equals ∷ low ++ high ++ rest) text
entry_groups label low high rest e = simp append_assoc (rw (append-nil low) at e)

-- features without a member are off
pub three_off : (a b c : Option IntType) → number_member (codes "magic") a ++ uuid_member b ++ number_member (codes "stream_id") c ≡ [] → (is_none a ≡ true) × (is_none b ≡ true) × (is_none c ≡ true)
three_off a b c e = grind (arith, e)

pub two_off : (a b : Option IntType) → number_member (codes "id") a ++ number_member (codes "timestamp") b ≡ [] → (is_none a ≡ true) × (is_none b ≡ true)
two_off a b e = grind (arith, e)

-- a block of three lists of items
pub block : {p : Printer} {text : List ℕ} (w : List ℕ) (xs ys zs : List Item) (rest : List Atom)
    → Ends p (atoms.Word w ∷ atoms.Mark marks.OpenBrace ∷ (flat_map item_toks xs ++ (flat_map item_toks ys ++ (flat_map item_toks zs ++ atoms.Mark marks.CloseBrace ∷ atoms.Mark marks.Semicolon ∷ rest)))) text
    → Ends p (atoms.Word w ∷ braced (flat_map item_toks (xs ++ ys ++ zs)) ++ atoms.Mark marks.Semicolon ∷ [] ++ rest) text
block w xs ys zs rest e = simp groups e

flat_map-flat_map : {A B : Type 0} (f : B → List Atom) (g : A → List B) (xs : List A) → flat_map f (flat_map g xs) ≡ flat_map (λ x. flat_map f (g x)) xs
flat_map-flat_map f g [] = refl
flat_map-flat_map f g (x ∷ xs) = flat_map-append f (g x) (flat_map g xs) ∙ ap (λ (w : List Atom). flat_map f (g x) ++ w) (flat_map-flat_map f g xs)

scope_groups : {p : Printer} {text : List ℕ} (name named members printed rest : List Atom) (align : ℕ) → name ≡ named → members ≡ printed
    → Ends p (named ++ (atoms.Mark marks.Assign ∷ atoms.Word (codes "struct") ∷ atoms.Mark marks.OpenBrace ∷ (printed ++ (closing align ++ rest)))) text
    → Ends p (name ++ (atoms.Mark marks.Assign ∷ (atoms.Word (codes "struct") ∷ braced members ++ align_toks (Some (natural_number align)))) ++ atoms.Mark marks.Semicolon ∷ [] ++ [] ++ rest) text
scope_groups {p} {text} name named members printed rest align same spelled e =
    let behind = atoms.Mark marks.Semicolon ∷ rest in let aligned = align_toks (Some (natural_number align)) in let brace = atoms.Mark marks.CloseBrace ∷ [] in
    let scope = atoms.Mark marks.Assign ∷ (atoms.Word (codes "struct") ∷ braced printed ++ aligned) in
    let inner : printed ++ brace ++ aligned ++ behind ≡ printed ++ (closing align ++ rest) = append_assoc (printed ++ brace) aligned behind ∙ append_assoc printed brace (aligned ++ behind) in
    let grouped = subst (λ (w : List Atom). Ends p (named ++ (atoms.Mark marks.Assign ∷ atoms.Word (codes "struct") ∷ atoms.Mark marks.OpenBrace ∷ w)) text) (sym inner) e in
    rw (same, spelled) (regroup (named ++ scope ++ atoms.Mark marks.Semicolon ∷ []) [] rest (regroup (named ++ scope) (atoms.Mark marks.Semicolon ∷ []) rest (regroup named scope behind grouped)))

-- a structure with members, under its name
pub scoped : {p : Printer} {text : List ℕ} (name : Name) (named : List Atom) (ms : List (List ℕ × MemberType)) (align : ℕ) (rest : List Atom) → name_toks name ≡ named → (ms ≡ [] → ⊥)
    → Ends p (named ++ (atoms.Mark marks.Assign ∷ atoms.Word (codes "struct") ∷ atoms.Mark marks.OpenBrace ∷ (flat_map member_toks_of ms ++ (closing align ++ rest)))) text
    → Ends p (flat_map item_toks (scope_items name ms align) ++ rest) text
scoped name named [] align rest same some e = absurd (some refl)
scoped name named (m ∷ ms) align rest same some e =
    scope_groups (name_toks name) named (flat_map member_toks (flat_map member_trees (m ∷ ms))) (flat_map member_toks_of (m ∷ ms)) rest align same (flat_map-flat_map member_toks member_trees (m ∷ ms)) e

-- an environment with entries
pub environment_stands : {p : Printer} {text : List ℕ} (es : List EnvironmentEntry) (rest : List Atom) → (es ≡ [] → ⊥)
    → Ends p (atoms.Word (codes "env") ∷ atoms.Mark marks.OpenBrace ∷ (flat_map named_fact_toks (map named_fact_tree es) ++ (atoms.Mark marks.CloseBrace ∷ atoms.Mark marks.Semicolon ∷ rest))) text
    → Ends p (flat_map block_and_semicolon (environment_blocks es) ++ rest) text
environment_stands [] rest some e = absurd (some refl)
environment_stands (x ∷ es) rest some e = simp groups (simp groups at e)
