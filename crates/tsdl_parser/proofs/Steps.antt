-- Rules that are read one after the other, and the words of trees, atoms and rules that the proofs speak of.
pub use Rattle.std.proofs.Common.{Bool, List, None, Option, Some, [], ap, append-nil, append_assoc, arith, bytes_eq, codes, cond, false, flat_map, length, length-append, not, refl, rules, slice_get, subst, suc, sym, true, zero, ℕ, ◌&&◌, ◌++◌, ◌+◌, ◌<◌, ◌∙◌, ◌∷◌, ◌≡◌, ◌≤◌, ◌⊎◌}
pub use Rattle.std.proofs.lemmas.{Option.slice_get_read, Result.err_from_is_err_and}
pub use Rattle.tsdl_grammar.specs.Fronts.{atoms_in, meant, shown}
pub use Rattle.tsdl_grammar.specs.Spelling.{align_toks, attr_toks, block_and_semicolon, block_toks, braced, bracket_toks, closing_toks, dotted, entries_toks, entry_toks, fact_toks, high_toks, int_toks, item_toks, items_toks, kind_toks, label_toks, mark, member_toks, name_toks, named_fact_toks, next_entry_toks, number_toks, scope_toks, struct_toks, text_toks, value_toks, word}
pub use Rattle.tsdl_grammar.specs.declared.{atom.Atom.Atom, tree.Attribute.Attribute, tree.Entries.Entries, tree.Name.Name, tree.Number.Number}
pub use Rattle.tsdl_parser.specs.{Parsing.{Outcome, Found, Stopped, ◌>>=◌, Fails, Shortens, is_mark, is_open, is_word, many}, Rules.{all_blocks_at, has_more, starts}}
unfoldable pub use Rattle.tsdl_parser.specs.Parsing.{begins, braced_at, keyword_at, many_at, mark_at, names, number_at, signed_at, word_at}
unfoldable pub use Rattle.tsdl_parser.specs.Rules.{align_at, attr_at, attr_behind, block_at, bracket_at, closing_at, count_at, dotted_at, ended_block_at, entries_at, entry_at, enum_at, fact_at, high_at, int_at, is_labelled, is_next, item_at, items_at, kind_at, label_at, listed_at, member_at, name_at, named_fact_at, next_entry_at, scope_behind, string_at, struct_at, value_at}
pub use Rattle.tsdl_parser.specs.declared.halt.Unread.{Unread}

pub some_is : {A : Type 0} (p x : A) → Some p ≡ Some x → p ≡ x
some_is p x e = cc

pub found_is : {A : Type 0} (p x : A) → Found p ≡ Found x → p ≡ x
found_is p x e = cc

-- what holds of the value that was read
pub along : {A : Type 0} (P : A → Type 0) (p x : A) → Found p ≡ Found x → P p → P x
along P p x e h = subst P (found_is p x e) h

-- where two steps find something, the first one does
pub bind_found : {A B : Type 0} (o : Outcome A) (f : A → Outcome B) (y : B) → (o >>= f) ≡ Found y → (x : A) × (o ≡ Found x) × (f x ≡ Found y)
bind_found (Found x) f y e = (x, refl, e)
bind_found (Stopped left) f y e = absurd cc

-- two steps that find something: what the first one read, what its reading says, and the second one
pub step : {A B : Type 0} {P : A → Type 0} (o : Outcome A) (f : A → Outcome B) (y : B) → ((x : A) → o ≡ Found x → P x) → (o >>= f) ≡ Found y → (x : A) × P x × (f x ≡ Found y)
step o f y says e = let a = bind_found o f y e in (a.0, says a.0 a.1, a.2)

-- what is found under a test alone
pub cond_found : {A : Type 0} (b : Bool) (x y : A) (left : ℕ) → cond b (Found x) (Stopped left) ≡ Found y → (b ≡ true) × (x ≡ y)
cond_found true x y left e = (refl, found_is x y e)
cond_found false x y left e = absurd cc

-- what both ways of a test lead to
pub either : {A P : Type 0} (b : Bool) (x y z : A) → cond b x y ≡ z → (b ≡ true → x ≡ z → P) → (b ≡ false → y ≡ z → P) → P
either true x y z e here there = here refl e
either false x y z e here there = there refl e

-- steps that agree wherever they are taken
pub same_steps : {A B : Type 0} (o : Outcome A) (f g : A → Outcome B) → ((x : A) → o ≡ Found x → f x ≡ g x) → (o >>= f) ≡ (o >>= g)
same_steps (Stopped left) f g h = refl
same_steps (Found x) f g h = h x refl

-- three parts and what follows
pub splice : {A : Type 0} (a b c rest : List A) → a ++ (b ++ (c ++ rest)) ≡ ((a ++ b) ++ c) ++ rest
splice a b c rest = sym (append_assoc (a ++ b) c rest ∙ append_assoc a b (c ++ rest))

-- a part, a part of two, and what follows
pub splice_last : {A : Type 0} (a b c rest : List A) → a ++ (b ++ (c ++ rest)) ≡ (a ++ (b ++ c)) ++ rest
splice_last a b c rest = simp append_assoc
