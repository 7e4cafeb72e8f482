-- Types, members and structures are read as they are spelled. A `string` goes on where a brace follows, and a structure
-- where `align` follows. They stop where nothing that is spelled goes on.
use Rattle.tsdl_parser.proofs.Steps.{Atom, attr_at, attr_toks, many, Attribute, Entries, Found, List, None, Number, Option, Some, Stopped, [], align_at, align_toks, along, ap, append-nil, append_assoc, arith, begins, bind_found, braced, braced_at, bracket_at, bracket_toks, either, codes, count_at, entries_at, entries_toks, enum_at, false, flat_map, int_at, int_toks, is_open, keyword_at, kind_at, kind_toks, length, length-append, mark, mark_at, member_at, member_toks, names, number_at, number_toks, refl, signed_at, splice, splice_last, step, string_at, struct_at, struct_toks, suc, sym, true, word, word_at, ℕ, ◌++◌, ◌<◌, ◌∙◌, ◌∷◌, ◌≡◌}
use Rattle.tsdl_parser.proofs.Words.{mark_step, word_takes, keyword_step, number_takes, number_again, number_as, by_sign, begins_first, names_first, behind_mark, behind_keyword, word_reads, number_reads, number_stops_as}
use Rattle.tsdl_parser.proofs.Repeated.{Spells, Anything, anywhere, many_take, many_again, braced_take, braced_again, item_reads, many_reads, braced_reads}
use Rattle.tsdl_parser.proofs.Stopping.{Reads, StartAlike, Stops, ahead, as_if, behind, by_test, found_is_no_stop, last, within}
use Rattle.tsdl_parser.proofs.Attributes.{attr_spells, attr_reads}
use Rattle.tsdl_parser.proofs.Entries.{entries_take, entries_again, entries_read}
use Rattle.tsdl_grammar.specs.Spelling.{attrs_toks}
use Rattle.tsdl_grammar.specs.declared.token.Mark.TheVariants as marks
use Rattle.tsdl_grammar.specs.declared.atom.Atom.TheVariants as atoms
use Rattle.tsdl_grammar.specs.declared.{tree.Kind.Kind, tree.Bracket.Bracket, tree.MemberTree.MemberTree, tree.Structure.Structure}
use Rattle.tsdl_grammar.specs.declared.tree.Kind.TheVariants as kinds
use Rattle.tsdl_grammar.specs.declared.tree.Bracket.TheVariants as brackets
use Rattle.tsdl_grammar.specs.declared.tree.Entries.TheVariants as entries

-- ---- types

attrs_read : Reads (List Attribute) (braced_at attr_at) attrs_toks
attrs_read = braced_reads attr_spells attr_reads

int_takes : (ts : List Atom) (x : List Attribute × List Atom) → int_at ts ≡ Found x → ts ≡ int_toks x.0 ++ x.1
unfolding int_at
int_takes ts x e =
    let a = keyword_step (codes "integer") ts (braced_at attr_at) x e in
    a.1 ∙ ap (λ (us : List Atom). word (codes "integer") ∷ us) (braced_take attr_at attr_toks attr_spells a.0 x a.2)

int_again : (attrs : List Attribute) (rest : List Atom) → int_at (int_toks attrs ++ rest) ≡ Found (attrs, rest)
unfolding int_at keyword_at
int_again attrs rest = braced_again attr_at attr_toks attr_spells attrs rest

int_stops : (ts : List Atom) (left : ℕ) → int_at ts ≡ Stopped left → Stops (List Attribute) (List Attribute × List Atom) int_toks [] int_at ts left
unfolding int_at
int_stops ts left e =
    behind_keyword (codes "integer") _ ts left e (record { value = []; later = int_toks []; spelled = refl }) (λ rest f. within (attrs_read.stops rest left f) (last (λ (attrs : List Attribute). attrs) (λ attrs. refl)))

int_reads : Reads (List Attribute) int_at int_toks
int_reads = record { takes = int_takes; same = λ ts x e us h. int_again x.0 us; stops = int_stops }

enum_parts : (attrs : List Attribute) (es : Entries) (rest : List Atom)
    → word (codes "enum") ∷ (mark marks.Colon ∷ (int_toks attrs ++ (mark marks.OpenBrace ∷ (entries_toks es ++ (mark marks.CloseBrace ∷ rest))))) ≡ kind_toks (kinds.Enumeration attrs es) ++ rest
enum_parts attrs es rest =
    ap (λ (us : List Atom). word (codes "enum") ∷ (mark marks.Colon ∷ us)) (splice_last (int_toks attrs) (mark marks.OpenBrace ∷ entries_toks es) (mark marks.CloseBrace ∷ []) rest)

enum_takes : (ts : List Atom) (x : Kind × List Atom) → enum_at ts ≡ Found x → ts ≡ kind_toks x.0 ++ x.1
unfolding enum_at
enum_takes ts x e =
    let a = keyword_step (codes "enum") ts _ x e in
    let b = mark_step marks.Colon a.0 _ x a.2 in
    let c = step (int_at b.0) _ x (int_takes b.0) b.2 in
    let d = mark_step marks.OpenBrace c.0.1 _ x c.2 in
    let f = step (entries_at d.0) _ x (entries_take d.0) d.2 in
    let g = mark_step marks.CloseBrace f.0.1 _ x f.2 in
    let inside = d.1 ∙ ap (λ (us : List Atom). mark marks.OpenBrace ∷ us) (f.1 ∙ ap (λ (us : List Atom). entries_toks f.0.0 ++ us) g.1) in
    along (λ (y : Kind × List Atom). ts ≡ kind_toks y.0 ++ y.1) (kinds.Enumeration c.0.0 f.0.0, g.0) x g.2
    (a.1 ∙ ap (λ (us : List Atom). word (codes "enum") ∷ us) (b.1 ∙ ap (λ (us : List Atom). mark marks.Colon ∷ us) (c.1 ∙ ap (λ (us : List Atom). int_toks c.0.0 ++ us) inside))
    ∙ enum_parts c.0.0 f.0.0 g.0)

enum_again : (attrs : List Attribute) (es : Entries) (rest : List Atom) → enum_at (kind_toks (kinds.Enumeration attrs es) ++ rest) ≡ Found (kinds.Enumeration attrs es, rest)
unfolding enum_at keyword_at mark_at
enum_again attrs es rest =
    ap enum_at (sym (enum_parts attrs es rest)) ∙ rw (int_again attrs (mark marks.OpenBrace ∷ (entries_toks es ++ (mark marks.CloseBrace ∷ rest))), entries_again es rest) refl

enum_stops : (ts : List Atom) (left : ℕ) → enum_at ts ≡ Stopped left → Stops Kind (Kind × List Atom) kind_toks [] enum_at ts left
unfolding enum_at
enum_stops ts left e =
    let empty = kinds.Enumeration [] entries.Empty in
    behind_keyword (codes "enum") _ ts left e (record { value = empty; later = kind_toks empty; spelled = refl }) (λ named f.
    behind_mark marks.Colon _ named left f (record { value = empty; later = mark marks.Colon ∷ int_toks [] ++ braced (entries_toks entries.Empty); spelled = refl }) (λ behind_colon g.
    behind int_reads _ behind_colon left g (ahead (λ (attrs : List Attribute). kinds.Enumeration attrs entries.Empty) (braced (entries_toks entries.Empty)) (λ attrs. refl)) (λ attrs behind_int h i.
    behind_mark marks.OpenBrace _ behind_int left i (record { value = kinds.Enumeration attrs entries.Empty; later = braced (entries_toks entries.Empty); spelled = refl }) (λ inside j.
    behind entries_read _ inside left j (ahead (λ (es : Entries). kinds.Enumeration attrs es) (mark marks.CloseBrace ∷ []) (λ es. simp append_assoc)) (λ es behind_entries k l.
    behind_mark marks.CloseBrace _ behind_entries left l (record { value = kinds.Enumeration attrs es; later = mark marks.CloseBrace ∷ []; spelled = simp append_assoc }) (λ rest n.
    found_is_no_stop (kinds.Enumeration attrs es, rest) left n))))))

string_takes : (ts : List Atom) (x : Kind × List Atom) → string_at ts ≡ Found x → ts ≡ kind_toks x.0 ++ x.1
unfolding string_at
string_takes ts x e =
    let a = keyword_step (codes "string") ts _ x e in
    either (begins marks.OpenBrace a.0) _ _ (Found x) a.2 (λ go f.
    let b = step (braced_at attr_at a.0) _ x (braced_take attr_at attr_toks attr_spells a.0) f in
    along (λ (y : Kind × List Atom). ts ≡ kind_toks y.0 ++ y.1) (kinds.Text (Some b.0.0), b.0.1) x b.2 (a.1 ∙ ap (λ (us : List Atom). word (codes "string") ∷ us) b.1))
    (λ stop f. along (λ (y : Kind × List Atom). ts ≡ kind_toks y.0 ++ y.1) (kinds.Text None, a.0) x f a.1)

string_same : (ts : List Atom) (x : Kind × List Atom) → string_at ts ≡ Found x → (us : List Atom) → StartAlike x.1 us → kind_at (kind_toks x.0 ++ us) ≡ Found (x.0, us)
unfolding kind_at string_at names keyword_at begins
string_same ts x e us h =
    let a = keyword_step (codes "string") ts _ x e in
    either (begins marks.OpenBrace a.0) _ _ (Found x) a.2 (λ go f.
    let b = bind_found (braced_at attr_at a.0) _ x f in
    along (λ (y : Kind × List Atom). kind_at (kind_toks y.0 ++ us) ≡ Found (y.0, us)) (kinds.Text (Some b.0.0), b.0.1) x b.2 (rw (braced_again attr_at attr_toks attr_spells b.0.0 us) refl))
    (λ stop f. along (λ (y : Kind × List Atom). StartAlike y.1 us → kind_at (kind_toks y.0 ++ us) ≡ Found (y.0, us)) (kinds.Text None, a.0) x f
    (λ g. rw (sym (begins_first marks.OpenBrace a.0 us g) ∙ stop) refl) h)

string_stops : (ts : List Atom) (left : ℕ) → string_at ts ≡ Stopped left → Stops Kind (Kind × List Atom) kind_toks [] string_at ts left
unfolding string_at
string_stops ts left e =
    behind_keyword (codes "string") _ ts left e (record { value = kinds.Text None; later = word (codes "string") ∷ []; spelled = refl }) (λ rest f.
    by_test (begins marks.OpenBrace) _ _ rest left (begins_first marks.OpenBrace) f (λ go g.
    behind attrs_read _ rest left g (last (λ (attrs : List Attribute). kinds.Text (Some attrs)) (λ attrs. refl)) (λ attrs behind_brace h i. found_is_no_stop (kinds.Text (Some attrs), behind_brace) left i))
    (λ stop g. found_is_no_stop (kinds.Text None, rest) left g))

kind_takes : (ts : List Atom) (x : Kind × List Atom) → kind_at ts ≡ Found x → ts ≡ kind_toks x.0 ++ x.1
unfolding kind_at
kind_takes ts x e =
    either (names (codes "integer") ts) _ _ (Found x) e
    (λ go f. let a = step (int_at ts) _ x (int_takes ts) f in along (λ (y : Kind × List Atom). ts ≡ kind_toks y.0 ++ y.1) (kinds.Integer a.0.0, a.0.1) x a.2 a.1)
    (λ stop f. either (names (codes "enum") ts) _ _ (Found x) f (λ go. enum_takes ts x) (λ stop. string_takes ts x))

integer_again : (attrs : List Attribute) (rest : List Atom) → kind_at (kind_toks (kinds.Integer attrs) ++ rest) ≡ Found (kinds.Integer attrs, rest)
unfolding kind_at names
integer_again attrs rest = rw (int_again attrs rest) refl

kind_again : (k : Kind) (rest : List Atom) → begins marks.OpenBrace rest ≡ false → kind_at (kind_toks k ++ rest) ≡ Found (k, rest)
unfolding kind_at names string_at keyword_at begins
kind_again (kinds.Integer attrs) rest end = integer_again attrs rest
kind_again (kinds.Enumeration attrs es) rest end = enum_again attrs es rest
kind_again (kinds.Text None) rest end = rw end refl
kind_again (kinds.Text (Some attrs)) rest end = rw (braced_again attr_at attr_toks attr_spells attrs rest) refl

enum_same : (ts : List Atom) (x : Kind × List Atom) → enum_at ts ≡ Found x → (us : List Atom) → kind_at (kind_toks x.0 ++ us) ≡ Found (x.0, us)
unfolding enum_at kind_at names
enum_same ts x e us =
    let a = keyword_step (codes "enum") ts _ x e in
    let b = mark_step marks.Colon a.0 _ x a.2 in
    let c = bind_found (int_at b.0) _ x b.2 in
    let d = mark_step marks.OpenBrace c.0.1 _ x c.2 in
    let f = bind_found (entries_at d.0) _ x d.2 in
    let g = mark_step marks.CloseBrace f.0.1 _ x f.2 in
    along (λ (y : Kind × List Atom). kind_at (kind_toks y.0 ++ us) ≡ Found (y.0, us)) (kinds.Enumeration c.0.0 f.0.0, g.0) x g.2 (enum_again c.0.0 f.0.0 us)

kind_same : (ts : List Atom) (x : Kind × List Atom) → kind_at ts ≡ Found x → (us : List Atom) → StartAlike x.1 us → kind_at (kind_toks x.0 ++ us) ≡ Found (x.0, us)
unfolding kind_at names
kind_same ts x e us h =
    either (names (codes "integer") ts) _ _ (Found x) e
    (λ go f. let a = bind_found (int_at ts) _ x f in along (λ (y : Kind × List Atom). kind_at (kind_toks y.0 ++ us) ≡ Found (y.0, us)) (kinds.Integer a.0.0, a.0.1) x a.2 (integer_again a.0.0 us))
    (λ stop f. either (names (codes "enum") ts) _ _ (Found x) f (λ go g. enum_same ts x g us) (λ stop g. string_same ts x g us h))

kind_stops : (ts : List Atom) (left : ℕ) → kind_at ts ≡ Stopped left → Stops Kind (Kind × List Atom) kind_toks [] kind_at ts left
unfolding kind_at
kind_stops ts left e =
    by_test (names (codes "integer")) _ _ ts left (names_first (codes "integer")) e
    (λ go f. behind int_reads _ ts left f (last (λ (attrs : List Attribute). kinds.Integer attrs) (λ attrs. refl)) (λ attrs rest g h. found_is_no_stop (kinds.Integer attrs, rest) left h))
    (λ stop f. by_test (names (codes "enum")) enum_at string_at ts left (names_first (codes "enum")) f (λ go g. enum_stops ts left g) (λ stop g. string_stops ts left g))

kind_reads : Reads Kind kind_at kind_toks
kind_reads = record { takes = kind_takes; same = kind_same; stops = kind_stops }

kind_opens : (k : Kind) (rest : List Atom) → is_open (kind_toks k ++ rest) ≡ true
unfolding begins
kind_opens (kinds.Text None) rest = refl
kind_opens _ rest = refl

-- ---- brackets

-- what stands between the brackets
abbrev count_toks : Bracket → List Atom
count_toks (brackets.Count n) = number_toks n
count_toks (brackets.Member w) = word w ∷ []

bracket_parts : (b : Bracket) (rest : List Atom) → mark marks.OpenBracket ∷ (count_toks b ++ (mark marks.CloseBracket ∷ rest)) ≡ bracket_toks b ++ rest
bracket_parts (brackets.Count n) rest = simp append_assoc
bracket_parts (brackets.Member w) rest = refl

bracket_whole : (b : Bracket) → bracket_toks b ≡ mark marks.OpenBracket ∷ (count_toks b ++ mark marks.CloseBracket ∷ [])
bracket_whole (brackets.Count n) = refl
bracket_whole (brackets.Member w) = refl

count_takes : (ts : List Atom) (x : Bracket × List Atom) → count_at ts ≡ Found x → ts ≡ count_toks x.0 ++ x.1
unfolding count_at
count_takes (atoms.Word w ∷ ts) x e = along (λ (y : Bracket × List Atom). (word w ∷ ts) ≡ count_toks y.0 ++ y.1) (brackets.Member w, ts) x e refl
count_takes ts x e = number_as brackets.Count count_toks (λ n. refl) ts x e

count_again : (b : Bracket) (rest : List Atom) → count_at (count_toks b ++ rest) ≡ Found (b, rest)
unfolding count_at number_at signed_at
count_again (brackets.Count n) rest = by_sign (λ (m : Number). count_at (number_toks m ++ rest) ≡ Found (brackets.Count m, rest)) n refl refl refl
count_again (brackets.Member w) rest = refl

count_stops : (ts : List Atom) (left : ℕ) → count_at ts ≡ Stopped left → Stops Bracket (Bracket × List Atom) count_toks [] count_at ts left
unfolding count_at
count_stops [] left e = as_if count_at [] left (λ us h. rw h refl) (number_stops_as brackets.Count count_toks (λ n. refl) [] left e)
count_stops (atoms.Word w ∷ ts) left e = found_is_no_stop (brackets.Member w, ts) left e
count_stops (a ∷ ts) left e = as_if count_at (a ∷ ts) left (λ us h. rw h.1 refl) (number_stops_as brackets.Count count_toks (λ n. refl) (a ∷ ts) left e)

count_reads : Reads Bracket count_at count_toks
count_reads = record { takes = count_takes; same = λ ts x e us h. count_again x.0 us; stops = count_stops }

bracket_takes : (ts : List Atom) (x : Bracket × List Atom) → bracket_at ts ≡ Found x → ts ≡ bracket_toks x.0 ++ x.1
unfolding bracket_at
bracket_takes ts x e =
    let a = mark_step marks.OpenBracket ts _ x e in
    let b = step (count_at a.0) _ x (count_takes a.0) a.2 in
    let c = mark_step marks.CloseBracket b.0.1 _ x b.2 in
    let parts = bracket_parts b.0.0 c.0 in cc

bracket_again : (b : Bracket) (rest : List Atom) → bracket_at (bracket_toks b ++ rest) ≡ Found (b, rest)
unfolding bracket_at mark_at
bracket_again b rest = ap bracket_at (sym (bracket_parts b rest)) ∙ rw (count_again b (mark marks.CloseBracket ∷ rest)) refl

bracket_opens : (b : Bracket) (rest : List Atom) → begins marks.OpenBracket (bracket_toks b ++ rest) ≡ true
unfolding begins
bracket_opens b rest = ap (begins marks.OpenBracket) (sym (bracket_parts b rest))

bracket_some : (b : Bracket) → 0 < length (bracket_toks b)
bracket_some (brackets.Count n) = omega arith
bracket_some (brackets.Member w) = omega arith

pub bracket_spells : Spells Bracket (begins marks.OpenBracket) bracket_at bracket_toks Anything
bracket_spells = anywhere bracket_takes bracket_some bracket_again bracket_opens

bracket_stops : (ts : List Atom) (left : ℕ) → bracket_at ts ≡ Stopped left → Stops Bracket (Bracket × List Atom) bracket_toks [] bracket_at ts left
unfolding bracket_at
bracket_stops ts left e =
    behind_mark marks.OpenBracket _ ts left e (record { value = brackets.Member (codes "_"); later = bracket_toks (brackets.Member (codes "_")); spelled = refl }) (λ inside f.
    behind count_reads _ inside left f (ahead (λ (b : Bracket). b) (mark marks.CloseBracket ∷ []) (λ b. bracket_whole b)) (λ b behind_count g h.
    behind_mark marks.CloseBracket _ behind_count left h (record { value = b; later = mark marks.CloseBracket ∷ []; spelled = bracket_whole b }) (λ rest i.
    found_is_no_stop (b, rest) left i)))

brackets_read : Reads (List Bracket) (many (begins marks.OpenBracket) bracket_at) (flat_map bracket_toks)
brackets_read = many_reads (begins_first marks.OpenBracket) bracket_spells (item_reads bracket_spells bracket_stops)

-- ---- members

member_takes : (ts : List Atom) (x : MemberTree × List Atom) → member_at ts ≡ Found x → ts ≡ member_toks x.0 ++ x.1
unfolding member_at
member_takes ts x e =
    let a = step (kind_at ts) _ x (kind_takes ts) e in
    let b = step (word_at a.0.1) _ x (word_takes a.0.1) a.2 in
    let c = step (many (begins marks.OpenBracket) bracket_at b.0.1) _ x (many_take (begins marks.OpenBracket) bracket_at bracket_toks Anything bracket_spells (suc (length b.0.1)) b.0.1) b.2 in
    let d = mark_step marks.Semicolon c.0.1 _ x c.2 in
    along (λ (y : MemberTree × List Atom). ts ≡ member_toks y.0 ++ y.1) (record { kind = a.0.0; name = b.0.0; brackets = c.0.0 }, d.0) x d.2
    (a.1 ∙ ap (λ (us : List Atom). kind_toks a.0.0 ++ us) (b.1 ∙ ap (λ (us : List Atom). word b.0.0 ∷ us) (c.1.0 ∙ ap (λ (us : List Atom). flat_map bracket_toks c.0.0 ++ us) d.1))
    ∙ splice (kind_toks a.0.0) (word b.0.0 ∷ flat_map bracket_toks c.0.0) (mark marks.Semicolon ∷ []) d.0)

member_again : (m : MemberTree) (rest : List Atom) → member_at (member_toks m ++ rest) ≡ Found (m, rest)
unfolding member_at word_at mark_at begins
member_again m rest =
    ap member_at (sym (splice (kind_toks m.kind) (word m.name ∷ flat_map bracket_toks m.brackets) (mark marks.Semicolon ∷ []) rest))
    ∙ rw (
      kind_again m.kind (word m.name ∷ (flat_map bracket_toks m.brackets ++ (mark marks.Semicolon ∷ rest))) refl,
      many_again (begins marks.OpenBracket) bracket_at bracket_toks Anything bracket_spells m.brackets (mark marks.Semicolon ∷ rest) refl tt,
    ) refl

member_opens : (m : MemberTree) (rest : List Atom) → is_open (member_toks m ++ rest) ≡ true
member_opens m rest =
    ap is_open (sym (splice (kind_toks m.kind) (word m.name ∷ flat_map bracket_toks m.brackets) (mark marks.Semicolon ∷ []) rest))
    ∙ kind_opens m.kind (word m.name ∷ (flat_map bracket_toks m.brackets ++ (mark marks.Semicolon ∷ rest)))

pub member_spells : Spells MemberTree is_open member_at member_toks Anything
member_spells = anywhere member_takes (λ m. simp length-append (omega arith)) member_again member_opens

member_stops : (ts : List Atom) (left : ℕ) → member_at ts ≡ Stopped left → Stops MemberTree (MemberTree × List Atom) member_toks [] member_at ts left
unfolding member_at
member_stops ts left e =
    behind kind_reads _ ts left e (ahead (λ (k : Kind). record { kind = k; name = codes "_"; brackets = [] }) (word (codes "_") ∷ mark marks.Semicolon ∷ []) (λ k. simp append_assoc)) (λ k behind_kind f g.
    behind word_reads _ behind_kind left g (ahead (λ (w : List ℕ). record { kind = k; name = w; brackets = [] }) (mark marks.Semicolon ∷ []) (λ w. simp append_assoc)) (λ w behind_name h i.
    behind brackets_read _ behind_name left i (ahead (λ (bs : List Bracket). record { kind = k; name = w; brackets = bs }) (mark marks.Semicolon ∷ []) (λ bs. simp append_assoc)) (λ bs behind_brackets j l.
    behind_mark marks.Semicolon _ behind_brackets left l (record { value = record { kind = k; name = w; brackets = bs }; later = mark marks.Semicolon ∷ []; spelled = simp append_assoc }) (λ rest n.
    found_is_no_stop (record { kind = k; name = w; brackets = bs }, rest) left n))))

member_reads : Reads MemberTree member_at member_toks
member_reads = item_reads member_spells member_stops

-- ---- structures

align_parts : (n : Number) (rest : List Atom)
    → word (codes "align") ∷ (mark marks.OpenParenthesis ∷ (number_toks n ++ (mark marks.CloseParenthesis ∷ rest))) ≡ align_toks (Some n) ++ rest
align_parts n rest = simp append_assoc

align_takes : (ts : List Atom) (x : Option Number × List Atom) → align_at ts ≡ Found x → ts ≡ align_toks x.0 ++ x.1
unfolding align_at
align_takes ts x e =
    either (names (codes "align") ts) _ _ (Found x) e (λ go f.
    let a = keyword_step (codes "align") ts _ x f in
    let b = mark_step marks.OpenParenthesis a.0 _ x a.2 in
    let c = step (number_at b.0) _ x (number_takes b.0) b.2 in
    let d = mark_step marks.CloseParenthesis c.0.1 _ x c.2 in
    along (λ (y : Option Number × List Atom). ts ≡ align_toks y.0 ++ y.1) (Some c.0.0, d.0) x d.2
    (a.1 ∙ ap (λ (us : List Atom). word (codes "align") ∷ us) (b.1 ∙ ap (λ (us : List Atom). mark marks.OpenParenthesis ∷ us) (c.1 ∙ ap (λ (us : List Atom). number_toks c.0.0 ++ us) d.1))
    ∙ align_parts c.0.0 d.0))
    (λ stop f. along (λ (y : Option Number × List Atom). ts ≡ align_toks y.0 ++ y.1) (None, ts) x f refl)

given_again : (n : Number) (rest : List Atom) → align_at (align_toks (Some n) ++ rest) ≡ Found (Some n, rest)
unfolding align_at names keyword_at mark_at
given_again n rest = ap align_at (sym (align_parts n rest)) ∙ rw (number_again n (mark marks.CloseParenthesis ∷ rest)) refl

align_again : (align : Option Number) (rest : List Atom) → names (codes "align") rest ≡ false → align_at (align_toks align ++ rest) ≡ Found (align, rest)
unfolding align_at
align_again None rest end = rw end refl
align_again (Some n) rest end = given_again n rest

align_same : (ts : List Atom) (x : Option Number × List Atom) → align_at ts ≡ Found x → (us : List Atom) → StartAlike x.1 us → align_at (align_toks x.0 ++ us) ≡ Found (x.0, us)
unfolding align_at
align_same ts x e us h =
    either (names (codes "align") ts) _ _ (Found x) e (λ go f.
    let a = keyword_step (codes "align") ts _ x f in
    let b = mark_step marks.OpenParenthesis a.0 _ x a.2 in
    let c = bind_found (number_at b.0) _ x b.2 in
    let d = mark_step marks.CloseParenthesis c.0.1 _ x c.2 in
    along (λ (y : Option Number × List Atom). align_at (align_toks y.0 ++ us) ≡ Found (y.0, us)) (Some c.0.0, d.0) x d.2 (given_again c.0.0 us))
    (λ stop f. along (λ (y : Option Number × List Atom). StartAlike y.1 us → align_at (align_toks y.0 ++ us) ≡ Found (y.0, us)) (None, ts) x f
    (λ g. align_again None us (sym (names_first (codes "align") ts us g) ∙ stop)) h)

align_stops : (ts : List Atom) (left : ℕ) → align_at ts ≡ Stopped left → Stops (Option Number) (Option Number × List Atom) align_toks [] align_at ts left
unfolding align_at
align_stops ts left e =
    let zero : Number = record { sign = None; literal = 0 } in
    by_test (names (codes "align")) _ _ ts left (names_first (codes "align")) e (λ go f.
    behind_keyword (codes "align") _ ts left f (record { value = Some zero; later = align_toks (Some zero); spelled = refl }) (λ named g.
    behind_mark marks.OpenParenthesis _ named left g (record { value = Some zero; later = mark marks.OpenParenthesis ∷ atoms.Number 0 ∷ mark marks.CloseParenthesis ∷ []; spelled = refl }) (λ inside h.
    behind number_reads _ inside left h (ahead (λ (n : Number). Some n) (mark marks.CloseParenthesis ∷ []) (λ n. refl)) (λ n behind_number i j.
    behind_mark marks.CloseParenthesis _ behind_number left j (record { value = Some n; later = mark marks.CloseParenthesis ∷ []; spelled = refl }) (λ rest k.
    found_is_no_stop (Some n, rest) left k)))))
    (λ stop f. found_is_no_stop (None, ts) left f)

align_reads : Reads (Option Number) align_at align_toks
align_reads = record { takes = align_takes; same = align_same; stops = align_stops }

struct_parts : (s : Structure) (rest : List Atom) → word (codes "struct") ∷ (braced (flat_map member_toks s.members) ++ (align_toks s.align ++ rest)) ≡ struct_toks s ++ rest
struct_parts s rest = ap (λ (us : List Atom). word (codes "struct") ∷ us) (sym (append_assoc (braced (flat_map member_toks s.members)) (align_toks s.align) rest))

pub struct_takes : (ts : List Atom) (x : Structure × List Atom) → struct_at ts ≡ Found x → ts ≡ struct_toks x.0 ++ x.1
unfolding struct_at
struct_takes ts x e =
    let a = keyword_step (codes "struct") ts _ x e in
    let b = step (braced_at member_at a.0) _ x (braced_take member_at member_toks member_spells a.0) a.2 in
    let c = step (align_at b.0.1) _ x (align_takes b.0.1) b.2 in
    along (λ (y : Structure × List Atom). ts ≡ struct_toks y.0 ++ y.1) (record { members = b.0.0; align = c.0.0 }, c.0.1) x c.2
    (a.1 ∙ ap (λ (us : List Atom). word (codes "struct") ∷ us) (b.1 ∙ ap (λ (us : List Atom). braced (flat_map member_toks b.0.0) ++ us) c.1)
    ∙ struct_parts (record { members = b.0.0; align = c.0.0 }) c.0.1)

-- a structure is read again where its alignment is
struct_from : (s : Structure) (rest : List Atom) → align_at (align_toks s.align ++ rest) ≡ Found (s.align, rest) → struct_at (struct_toks s ++ rest) ≡ Found (s, rest)
unfolding struct_at keyword_at
struct_from s rest align =
    ap struct_at (sym (struct_parts s rest)) ∙ rw (braced_again member_at member_toks member_spells s.members (align_toks s.align ++ rest), align) refl

pub struct_again : (s : Structure) (rest : List Atom) → names (codes "align") rest ≡ false → struct_at (struct_toks s ++ rest) ≡ Found (s, rest)
struct_again s rest end = struct_from s rest (align_again s.align rest end)

struct_same : (ts : List Atom) (x : Structure × List Atom) → struct_at ts ≡ Found x → (us : List Atom) → StartAlike x.1 us → struct_at (struct_toks x.0 ++ us) ≡ Found (x.0, us)
unfolding struct_at
struct_same ts x e us h =
    let a = keyword_step (codes "struct") ts _ x e in
    let b = bind_found (braced_at member_at a.0) _ x a.2 in
    let c = bind_found (align_at b.0.1) _ x b.2 in
    along (λ (y : Structure × List Atom). StartAlike y.1 us → struct_at (struct_toks y.0 ++ us) ≡ Found (y.0, us)) (record { members = b.0.0; align = c.0.0 }, c.0.1) x c.2
    (λ g. struct_from (record { members = b.0.0; align = c.0.0 }) us (align_same b.0.1 c.0 c.1 us g)) h

struct_stops : (ts : List Atom) (left : ℕ) → struct_at ts ≡ Stopped left → Stops Structure (Structure × List Atom) struct_toks [] struct_at ts left
unfolding struct_at
struct_stops ts left e =
    let empty : Structure = record { members = []; align = None } in
    behind_keyword (codes "struct") _ ts left e (record { value = empty; later = struct_toks empty; spelled = refl }) (λ named f.
    behind (braced_reads member_spells member_reads) _ named left f (last (λ (members : List MemberTree). record { members = members; align = None }) (λ members. ap (λ (us : List Atom). word (codes "struct") ∷ us) (append-nil (braced (flat_map member_toks members))))) (λ members behind_members g h.
    behind align_reads _ behind_members left h (last (λ (align : Option Number). record { members = members; align = align }) (λ align. refl)) (λ align rest i j.
    found_is_no_stop (record { members = members; align = align }, rest) left j)))

pub struct_reads : Reads Structure struct_at struct_toks
struct_reads = record { takes = struct_takes; same = struct_same; stops = struct_stops }
