-- Blocks, and what stands in them, are read as they are spelled, so a list of atoms spells at most one list of blocks. Where none are
-- read, the atoms stop spelling blocks at the place where the reading stops.
use Rattle.tsdl_parser.proofs.Steps.{◌>>=◌, bind_found, Atom, Attribute, Fails, Found, List, Name, None, Number, Outcome, Stopped, Unread, [], all_blocks_at, along, ap, append-nil, append_assoc, arith, attr_behind, begins, block_and_semicolon, block_at, block_toks, braced, braced_at, either, codes, ended_block_at, fact_at, fact_toks, false, flat_map, has_more, is_open, item_at, item_toks, items_at, items_toks, keyword_at, length, length-append, mark, mark_at, name_at, name_toks, named_fact_at, named_fact_toks, names, number_at, number_toks, refl, scope_behind, scope_toks, signed_at, found_is, splice, step, struct_at, struct_toks, subst, suc, sym, text_toks, true, word, word_at, ℕ, ◌++◌, ◌+◌, ◌<◌, ◌∙◌, ◌∷◌, ◌≡◌}
use Rattle.tsdl_parser.proofs.Words.{mark_step, word_takes, keyword_step, number_as, by_sign, begins_first, names_first, behind_mark, behind_keyword, word_reads, number_stops_as}
use Rattle.tsdl_parser.proofs.Repeated.{Spells, Anything, anywhere, many_take, many_again, braced_take, braced_again, item_reads, many_reads, braced_reads}
use Rattle.tsdl_parser.proofs.Stopping.{ByFirst, IsStopped, Reads, StartAlike, Stops, ahead, as_if, behind, by_test, found_is_no_stop, last, made_of, stopped_first, within}
use Rattle.tsdl_parser.proofs.{Attributes.{name_takes, name_again, name_reads, behind_takes, behind_stops, value_part, attr_parts, behind_again}, Members.{struct_takes, struct_again, struct_reads}}
use Rattle.tsdl_grammar.specs.declared.token.Mark.TheVariants as marks
use Rattle.tsdl_grammar.specs.declared.atom.Atom.TheVariants as atoms
use Rattle.tsdl_grammar.specs.declared.{tree.Scope.Scope, tree.Item.Item, tree.Fact.Fact, tree.NamedFact.NamedFact, tree.Block.Block, tree.Structure.Structure, tree.Value.Value}
use Rattle.tsdl_grammar.specs.declared.tree.Value.TheVariants as values
use Rattle.tsdl_grammar.specs.declared.tree.Item.TheVariants as items
use Rattle.tsdl_grammar.specs.declared.tree.Fact.TheVariants as facts
use Rattle.tsdl_grammar.specs.declared.tree.Block.TheVariants as blocks
use Rattle.tsdl_parser.specs.declared.halt.Unread.TheVariants as unread
use Rattle.tsdl_grammar.specs.Halts.{IsStuck}
use Rattle.tsdl_parser.specs.Halting.{HaltsAmong, IfHalted}

-- ---- scopes and items

scope_parts : (s : Scope) (rest : List Atom) → name_toks s.name ++ (mark marks.Assign ∷ (struct_toks s.structure ++ (mark marks.Semicolon ∷ rest))) ≡ scope_toks s ++ rest
scope_parts s rest = splice (name_toks s.name) (mark marks.Assign ∷ struct_toks s.structure) (mark marks.Semicolon ∷ []) rest

scope_takes : (name : Name) (ts : List Atom) (x : Scope × List Atom) → scope_behind name ts ≡ Found x → name_toks name ++ ts ≡ scope_toks x.0 ++ x.1
unfolding scope_behind
scope_takes name ts x e =
    let a = mark_step marks.Assign ts _ x e in
    let b = step (struct_at a.0) _ x (struct_takes a.0) a.2 in
    let c = mark_step marks.Semicolon b.0.1 _ x b.2 in
    along (λ (y : Scope × List Atom). name_toks name ++ ts ≡ scope_toks y.0 ++ y.1) (record { name = name; structure = b.0.0 }, c.0) x c.2
    (ap (λ (us : List Atom). name_toks name ++ us) (a.1 ∙ ap (λ (us : List Atom). mark marks.Assign ∷ us) (b.1 ∙ ap (λ (us : List Atom). struct_toks b.0.0 ++ us) c.1))
    ∙ scope_parts (record { name = name; structure = b.0.0 }) c.0)

scope_again : (s : Scope) (rest : List Atom) → scope_behind s.name (mark marks.Assign ∷ (struct_toks s.structure ++ (mark marks.Semicolon ∷ rest))) ≡ Found (s, rest)
unfolding scope_behind mark_at names
scope_again s rest = rw (struct_again s.structure (mark marks.Semicolon ∷ rest) refl) refl

scope_stops : (name : Name) (ts : List Atom) (left : ℕ) → scope_behind name ts ≡ Stopped left → Stops Scope (Scope × List Atom) scope_toks (name_toks name) (scope_behind name) ts left
unfolding scope_behind
scope_stops name ts left e =
    let empty : Structure = record { members = []; align = None } in
    behind_mark marks.Assign _ ts left e (record { value = record { name = name; structure = empty }; later = mark marks.Assign ∷ (struct_toks empty ++ mark marks.Semicolon ∷ []); spelled = append_assoc (name_toks name) (mark marks.Assign ∷ struct_toks empty) (mark marks.Semicolon ∷ []) }) (λ inside f.
    behind struct_reads _ inside left f (ahead (λ (s : Structure). record { name = name; structure = s }) (mark marks.Semicolon ∷ []) (λ s. append_assoc (name_toks name) (mark marks.Assign ∷ struct_toks s) (mark marks.Semicolon ∷ []) ∙ sym (append_assoc (name_toks name) (mark marks.Assign ∷ []) (struct_toks s ++ mark marks.Semicolon ∷ [])))) (λ s behind_struct g h.
    behind_mark marks.Semicolon _ behind_struct left h (record { value = record { name = name; structure = s }; later = mark marks.Semicolon ∷ []; spelled = ap (λ (us : List Atom). us ++ mark marks.Semicolon ∷ []) (sym (append_assoc (name_toks name) (mark marks.Assign ∷ []) (struct_toks s))) }) (λ rest i.
    found_is_no_stop (record { name = name; structure = s }, rest) left i)))

item_takes : (ts : List Atom) (x : Item × List Atom) → item_at ts ≡ Found x → ts ≡ item_toks x.0 ++ x.1
unfolding item_at
item_takes ts x e =
    let a = step (name_at ts) _ x (name_takes ts) e in
    either (begins marks.Equals a.0.1) _ _ (Found x) a.2 (λ go f.
    let b = step (attr_behind a.0.0 a.0.1) _ x (behind_takes a.0.0 a.0.1) f in
    along (λ (y : Item × List Atom). ts ≡ item_toks y.0 ++ y.1) (items.Attribute b.0.0, b.0.1) x b.2 (a.1 ∙ b.1)) (λ stop f.
    let b = step (scope_behind a.0.0 a.0.1) _ x (scope_takes a.0.0 a.0.1) f in
    along (λ (y : Item × List Atom). ts ≡ item_toks y.0 ++ y.1) (items.Scope b.0.0, b.0.1) x b.2 (a.1 ∙ b.1))

item_again : (i : Item) (rest : List Atom) → item_at (item_toks i ++ rest) ≡ Found (i, rest)
unfolding item_at begins
item_again (items.Attribute a) rest = ap item_at (attr_parts a rest) ∙ rw (name_again a.name (value_part a ++ rest) refl, behind_again a rest) refl
item_again (items.Scope s) rest =
    ap item_at (sym (scope_parts s rest))
    ∙ rw (name_again s.name (mark marks.Assign ∷ (struct_toks s.structure ++ (mark marks.Semicolon ∷ rest))) refl, scope_again s rest) refl

item_opens : (i : Item) (rest : List Atom) → is_open (item_toks i ++ rest) ≡ true
unfolding begins
item_opens (items.Attribute a) rest = refl
item_opens _ rest = refl

item_some : (i : Item) → 0 < length (item_toks i)
item_some (items.Attribute a) = omega arith
item_some (items.Scope s) = omega arith

pub item_spells : Spells Item is_open item_at item_toks Anything
item_spells = anywhere item_takes item_some item_again item_opens

item_stops : (ts : List Atom) (left : ℕ) → item_at ts ≡ Stopped left → Stops Item (Item × List Atom) item_toks [] item_at ts left
unfolding item_at
item_stops ts left e =
    let zero : Value = values.Number (record { sign = None; literal = 0 }) in
    behind name_reads _ ts left e (ahead (λ (n : Name). items.Attribute (record { name = n; value = zero })) (mark marks.Equals ∷ atoms.Number 0 ∷ mark marks.Semicolon ∷ []) (λ n. simp append_assoc)) (λ name rest f g.
    by_test (begins marks.Equals) _ _ rest left (begins_first marks.Equals) g
    (λ go h. made_of _ rest left (behind_stops name rest left (stopped_first (attr_behind name rest) (λ a. (items.Attribute a.0, a.1)) left h)) (λ (a : Attribute). items.Attribute a) (λ a. refl))
    (λ stop h. made_of _ rest left (scope_stops name rest left (stopped_first (scope_behind name rest) (λ s. (items.Scope s.0, s.1)) left h)) (λ (s : Scope). items.Scope s) (λ s. refl)))

items_braced : Reads (List Item) (braced_at item_at) items_toks
items_braced = braced_reads item_spells (item_reads item_spells item_stops)

-- ---- environment entries

fact_takes : (ts : List Atom) (x : Fact × List Atom) → fact_at ts ≡ Found x → ts ≡ fact_toks x.0 ++ x.1
unfolding fact_at
fact_takes (atoms.Text s ∷ ts) x e = along (λ (y : Fact × List Atom). (atoms.Text s ∷ ts) ≡ fact_toks y.0 ++ y.1) (facts.Text s, ts) x e refl
fact_takes ts x e = number_as facts.Number fact_toks (λ n. refl) ts x e

fact_again : (f : Fact) (rest : List Atom) → fact_at (fact_toks f ++ rest) ≡ Found (f, rest)
unfolding fact_at number_at signed_at
fact_again (facts.Number n) rest = by_sign (λ (m : Number). fact_at (number_toks m ++ rest) ≡ Found (facts.Number m, rest)) n refl refl refl
fact_again (facts.Text s) rest = refl

fact_stops : (ts : List Atom) (left : ℕ) → fact_at ts ≡ Stopped left → Stops Fact (Fact × List Atom) fact_toks [] fact_at ts left
unfolding fact_at
fact_stops [] left e = as_if fact_at [] left (λ us h. rw h refl) (number_stops_as facts.Number fact_toks (λ n. refl) [] left e)
fact_stops (atoms.Text s ∷ ts) left e = found_is_no_stop (facts.Text s, ts) left e
fact_stops (a ∷ ts) left e = as_if fact_at (a ∷ ts) left (λ us h. rw h.1 refl) (number_stops_as facts.Number fact_toks (λ n. refl) (a ∷ ts) left e)

fact_reads : Reads Fact fact_at fact_toks
fact_reads = record { takes = fact_takes; same = λ ts x e us h. fact_again x.0 us; stops = fact_stops }

named_parts : (f : NamedFact) (rest : List Atom) → word f.name ∷ (mark marks.Equals ∷ (fact_toks f.fact ++ (mark marks.Semicolon ∷ rest))) ≡ named_fact_toks f ++ rest
named_parts f rest = sym (append_assoc (word f.name ∷ (mark marks.Equals ∷ fact_toks f.fact)) (mark marks.Semicolon ∷ []) rest)

named_takes : (ts : List Atom) (x : NamedFact × List Atom) → named_fact_at ts ≡ Found x → ts ≡ named_fact_toks x.0 ++ x.1
unfolding named_fact_at
named_takes ts x e =
    let a = step (word_at ts) _ x (word_takes ts) e in
    let b = mark_step marks.Equals a.0.1 _ x a.2 in
    let c = step (fact_at b.0) _ x (fact_takes b.0) b.2 in
    let d = mark_step marks.Semicolon c.0.1 _ x c.2 in
    along (λ (y : NamedFact × List Atom). ts ≡ named_fact_toks y.0 ++ y.1) (record { name = a.0.0; fact = c.0.0 }, d.0) x d.2
    (a.1 ∙ ap (λ (us : List Atom). word a.0.0 ∷ us) (b.1 ∙ ap (λ (us : List Atom). mark marks.Equals ∷ us) (c.1 ∙ ap (λ (us : List Atom). fact_toks c.0.0 ++ us) d.1))
    ∙ named_parts (record { name = a.0.0; fact = c.0.0 }) d.0)

named_again : (f : NamedFact) (rest : List Atom) → named_fact_at (named_fact_toks f ++ rest) ≡ Found (f, rest)
unfolding named_fact_at word_at mark_at
named_again f rest = ap named_fact_at (sym (named_parts f rest)) ∙ rw (fact_again f.fact (mark marks.Semicolon ∷ rest)) refl

pub fact_spells : Spells NamedFact is_open named_fact_at named_fact_toks Anything
unfolding begins
fact_spells = anywhere named_takes (λ f. omega arith) named_again (λ f rest. refl)

named_stops : (ts : List Atom) (left : ℕ) → named_fact_at ts ≡ Stopped left → Stops NamedFact (NamedFact × List Atom) named_fact_toks [] named_fact_at ts left
unfolding named_fact_at
named_stops ts left e =
    let zero : Fact = facts.Number (record { sign = None; literal = 0 }) in
    behind word_reads _ ts left e (ahead (λ (w : List ℕ). record { name = w; fact = zero }) (mark marks.Equals ∷ atoms.Number 0 ∷ mark marks.Semicolon ∷ []) (λ w. refl)) (λ w behind_name f g.
    behind_mark marks.Equals _ behind_name left g (record { value = record { name = w; fact = zero }; later = mark marks.Equals ∷ atoms.Number 0 ∷ mark marks.Semicolon ∷ []; spelled = refl }) (λ inside h.
    behind fact_reads _ inside left h (ahead (λ (x : Fact). record { name = w; fact = x }) (mark marks.Semicolon ∷ []) (λ x. refl)) (λ x behind_fact i j.
    behind_mark marks.Semicolon _ behind_fact left j (record { value = record { name = w; fact = x }; later = mark marks.Semicolon ∷ []; spelled = refl }) (λ rest k.
    found_is_no_stop (record { name = w; fact = x }, rest) left k))))

facts_braced : Reads (List NamedFact) (braced_at named_fact_at) (λ fs. braced (flat_map named_fact_toks fs))
facts_braced = braced_reads fact_spells (item_reads fact_spells named_stops)

-- ---- blocks

-- the items of a block behind its word
items_take : (keyword : List ℕ) (made : List Item → Block) → ((is : List Item) → word keyword ∷ items_toks is ≡ block_toks (made is)) → (ts : List Atom) (x : Block × List Atom)
    → (items_at keyword ts >>= λ is. Found (made is.0, is.1)) ≡ Found x → ts ≡ block_toks x.0 ++ x.1
unfolding items_at
items_take keyword made same ts x e =
    let a = bind_found (items_at keyword ts) (λ is. Found (made is.0, is.1)) x e in
    let b = keyword_step keyword ts _ a.0 a.1 in
    along (λ (y : Block × List Atom). ts ≡ block_toks y.0 ++ y.1) (made a.0.0, a.0.1) x a.2
    (b.1 ∙ ap (λ (us : List Atom). word keyword ∷ us) (braced_take item_at item_toks item_spells b.0 a.0 b.2) ∙ ap (λ (us : List Atom). us ++ a.0.1) (same a.0.0))

items_again : (keyword : List ℕ) (is : List Item) (ts rest : List Atom) → keyword_at keyword ts ≡ Found (items_toks is ++ rest) → items_at keyword ts ≡ Found (is, rest)
unfolding items_at
items_again keyword is ts rest e = rw e (braced_again item_at item_toks item_spells is rest)

block_takes : (ts : List Atom) (x : Block × List Atom) → block_at ts ≡ Found x → ts ≡ block_toks x.0 ++ x.1
unfolding block_at
block_takes ts x e =
    either (names (codes "trace") ts) _ _ (Found x) e (λ go. items_take (codes "trace") blocks.Trace (λ is. refl) ts x) (λ stop f.
    either (names (codes "stream") ts) _ _ (Found x) f (λ go. items_take (codes "stream") blocks.Stream (λ is. refl) ts x) (λ stop g.
    either (names (codes "event") ts) _ _ (Found x) g (λ go. items_take (codes "event") blocks.Event (λ is. refl) ts x) (λ stop h.
    either (names (codes "clock") ts) _ _ (Found x) h (λ go. items_take (codes "clock") blocks.Clock (λ is. refl) ts x) (λ stop i.
    let a = keyword_step (codes "env") ts _ x i in
    let b = step (braced_at named_fact_at a.0) _ x (braced_take named_fact_at named_fact_toks fact_spells a.0) a.2 in
    along (λ (y : Block × List Atom). ts ≡ block_toks y.0 ++ y.1) (blocks.Environment b.0.0, b.0.1) x b.2 (a.1 ∙ ap (λ (us : List Atom). word (codes "env") ∷ us) b.1)))))

block_again : (b : Block) (rest : List Atom) → block_at (block_toks b ++ rest) ≡ Found (b, rest)
unfolding block_at names keyword_at
block_again (blocks.Trace is) rest = rw (items_again (codes "trace") is (block_toks (blocks.Trace is) ++ rest) rest refl) refl
block_again (blocks.Stream is) rest = rw (items_again (codes "stream") is (block_toks (blocks.Stream is) ++ rest) rest refl) refl
block_again (blocks.Event is) rest = rw (items_again (codes "event") is (block_toks (blocks.Event is) ++ rest) rest refl) refl
block_again (blocks.Clock is) rest = rw (items_again (codes "clock") is (block_toks (blocks.Clock is) ++ rest) rest refl) refl
block_again (blocks.Environment fs) rest = rw (braced_again named_fact_at named_fact_toks fact_spells fs rest) refl

-- a word of the grammar, and items behind it
items_read : (keyword : List ℕ) → ((us : List Atom) → keyword_at keyword (word keyword ∷ us) ≡ Found us) → Reads (List Item) (items_at keyword) (λ is. word keyword ∷ items_toks is)
unfolding items_at
items_read keyword again = record {
  takes = λ ts x e. let a = keyword_step keyword ts (braced_at item_at) x e in a.1 ∙ ap (λ (us : List Atom). word keyword ∷ us) (items_braced.takes a.0 x a.2);
  same = λ ts x e us h. items_again keyword x.0 (word keyword ∷ (items_toks x.0 ++ us)) us (again (items_toks x.0 ++ us));
  stops = λ ts left e. behind_keyword keyword _ ts left e (record { value = []; later = word keyword ∷ items_toks []; spelled = refl }) (λ rest f. within (items_braced.stops rest left f) (last (λ (is : List Item). is) (λ is. refl)));
}

-- a block of this word
abbrev block_of_items : List ℕ → (List Item → Block) → List Atom → Outcome (Block × List Atom)
block_of_items keyword made ts = items_at keyword ts >>= λ is. Found (made is.0, is.1)

-- the items of a block are missing or stop
block_of : (keyword : List ℕ) (made : List Item → Block) → ((us : List Atom) → keyword_at keyword (word keyword ∷ us) ≡ Found us) → ((is : List Item) → block_toks (made is) ≡ word keyword ∷ items_toks is)
    → (ts : List Atom) (left : ℕ) → block_of_items keyword made ts ≡ Stopped left
    → Stops Block (Block × List Atom) block_toks [] (block_of_items keyword made) ts left
block_of keyword made again same ts left e = behind (items_read keyword again) _ ts left e (last made same) (λ is rest f g. found_is_no_stop (made is, rest) left g)

-- the environment
abbrev env_at : List Atom → Outcome (Block × List Atom)
env_at ts = keyword_at (codes "env") ts >>= λ named. braced_at named_fact_at named >>= λ x. Found (blocks.Environment x.0, x.1)

env_stops : (ts : List Atom) (left : ℕ) → env_at ts ≡ Stopped left → Stops Block (Block × List Atom) block_toks [] env_at ts left
env_stops ts left e =
    behind_keyword (codes "env") _ ts left e (record { value = blocks.Environment []; later = block_toks (blocks.Environment []); spelled = refl }) (λ named f.
    behind facts_braced _ named left f (last (λ (fs : List NamedFact). blocks.Environment fs) (λ fs. refl)) (λ fs rest g h.
    found_is_no_stop (blocks.Environment fs, rest) left h))

block_stops : (ts : List Atom) (left : ℕ) → block_at ts ≡ Stopped left → Stops Block (Block × List Atom) block_toks [] block_at ts left
unfolding block_at keyword_at
block_stops ts left e =
    by_test (names (codes "trace")) _ _ ts left (names_first (codes "trace")) e (λ go f. block_of (codes "trace") blocks.Trace (λ us. refl) (λ is. refl) ts left f) (λ stop f.
    by_test (names (codes "stream")) _ _ ts left (names_first (codes "stream")) f (λ go g. block_of (codes "stream") blocks.Stream (λ us. refl) (λ is. refl) ts left g) (λ stop g.
    by_test (names (codes "event")) _ _ ts left (names_first (codes "event")) g (λ go h. block_of (codes "event") blocks.Event (λ us. refl) (λ is. refl) ts left h) (λ stop h.
    by_test (names (codes "clock")) _ _ ts left (names_first (codes "clock")) h (λ go i. block_of (codes "clock") blocks.Clock (λ us. refl) (λ is. refl) ts left i) (λ stop i.
    env_stops ts left i))))

block_reads : Reads Block block_at block_toks
block_reads = record { takes = block_takes; same = λ ts x e us h. block_again x.0 us; stops = block_stops }

ended_takes : (ts : List Atom) (x : Block × List Atom) → ended_block_at ts ≡ Found x → ts ≡ block_and_semicolon x.0 ++ x.1
unfolding ended_block_at
ended_takes ts x e =
    let a = step (block_at ts) _ x (block_takes ts) e in
    let b = mark_step marks.Semicolon a.0.1 _ x a.2 in
    let parts = append_assoc (block_toks a.0.0) (mark marks.Semicolon ∷ []) b.0 in cc

ended_again : (b : Block) (rest : List Atom) → ended_block_at (block_and_semicolon b ++ rest) ≡ Found (b, rest)
unfolding ended_block_at mark_at
ended_again b rest = ap ended_block_at (append_assoc (block_toks b) (mark marks.Semicolon ∷ []) rest) ∙ rw (block_again b (mark marks.Semicolon ∷ rest)) refl

block_opens : (b : Block) (rest : List Atom) → has_more (block_and_semicolon b ++ rest) ≡ true
block_opens (blocks.Trace is) rest = refl
block_opens _ rest = refl

pub block_spells : Spells Block has_more ended_block_at block_and_semicolon Anything
block_spells = anywhere ended_takes (λ b. simp length-append (omega arith)) ended_again block_opens

ended_stops : (ts : List Atom) (left : ℕ) → ended_block_at ts ≡ Stopped left → Stops Block (Block × List Atom) block_and_semicolon [] ended_block_at ts left
unfolding ended_block_at
ended_stops ts left e =
    behind block_reads _ ts left e (ahead (λ (b : Block). b) (mark marks.Semicolon ∷ []) (λ b. refl)) (λ b behind_block f g.
    behind_mark marks.Semicolon _ behind_block left g (record { value = b; later = mark marks.Semicolon ∷ []; spelled = refl }) (λ rest h.
    found_is_no_stop (b, rest) left h))

more_first : ByFirst has_more
more_first [] us h = ap has_more (sym h)
more_first (a ∷ ts) us h = ap has_more (sym h.1)

blocks_read : Reads (List Block) all_blocks_at text_toks
blocks_read = many_reads more_first block_spells (item_reads block_spells ended_stops)

-- ---- whole texts

no_more : (ts : List Atom) → has_more ts ≡ false → ts ≡ []
no_more [] e = refl
no_more (a ∷ ts) e = absurd cc

-- what is read was spelled so
pub blocks_take : (ts : List Atom) (x : List Block × List Atom) → all_blocks_at ts ≡ Found x → ts ≡ text_toks x.0
blocks_take ts x e =
    let all = many_take has_more ended_block_at block_and_semicolon Anything block_spells (suc (length ts)) ts x e in
    all.0 ∙ ap (λ (us : List Atom). text_toks x.0 ++ us) (no_more x.1 all.1) ∙ append-nil (text_toks x.0)

-- what is spelled so is read
blocks_again : (bs : List Block) → all_blocks_at (text_toks bs) ≡ Found (bs, [])
blocks_again bs =
    ap all_blocks_at (sym (append-nil (text_toks bs))) ∙ many_again has_more ended_block_at block_and_semicolon Anything block_spells bs [] refl tt

-- so no other blocks are spelled so
pub one_reading : (bs cs : List Block) → text_toks bs ≡ text_toks cs → bs ≡ cs
one_reading bs cs e = ap (λ (x : List Block × List Atom). x.0) (found_is (bs, []) (cs, []) (sym (blocks_again bs) ∙ ap all_blocks_at e ∙ blocks_again cs))

no_blocks : (ts : List Atom) (left : ℕ) → all_blocks_at ts ≡ Stopped left → (bs : List Block) → ts ≡ text_toks bs → ⊥
no_blocks ts left e bs h = let read : all_blocks_at ts ≡ Found (bs, []) = ap all_blocks_at h ∙ blocks_again bs in cc

-- and where none are read, none are spelled
pub unread_blocks : (e : Unread) (ts : List Atom) → Fails e (all_blocks_at ts) → IfHalted e ((bs : List Block) → ts ≡ text_toks bs → ⊥)
unread_blocks unread.Memory ts h = tt
unread_blocks (unread.Halted s) ts h = no_blocks ts s.left h

-- blocks that are spelled so would be read, and nothing is
no_reading : (bs : List Block) (ts : List Atom) → text_toks bs ≡ ts → IsStopped (all_blocks_at ts) → ⊥
no_reading bs ts e stuck = subst (λ (o : Outcome (List Block × List Atom)). IsStopped o) (ap all_blocks_at (sym e) ∙ blocks_again bs) stuck

is_stuck : (before behind : List Atom) → ((us : List Atom) → StartAlike behind us → IsStopped (all_blocks_at (before ++ us))) → IsStuck before behind
is_stuck before [] stuck = λ bs e. no_reading bs (before ++ []) (e ∙ sym (append-nil before)) (stuck [] refl)
is_stuck before (a ∷ behind) stuck = λ read g. no_reading g.0 (before ++ (a ∷ g.1.0)) (g.1.1 ∙ append_assoc before (a ∷ []) g.1.0) (stuck (a ∷ g.1.0) (g.1.0, refl))

-- the place where none are read is one where the atoms stop spelling any
pub halts_among : (e : Unread) (ts : List Atom) → Fails e (all_blocks_at ts) → HaltsAmong ts e
halts_among unread.Memory ts h = tt
halts_among (unread.Halted s) ts h =
    let q = blocks_read.stops ts s.left h in
    let place : length q.seen + s.left ≡ length ts = omega (arith, ap length q.parts, length-append q.seen q.here, q.count) in (
      length q.seen,
      place,
      record {
        before = q.seen;
        behind = q.here;
        parts = q.parts;
        place = refl;
        goes_on = (q.goes_on.value, (q.goes_on.later, q.goes_on.spelled));
        stuck = is_stuck q.seen q.here q.stuck;
      },
    )
