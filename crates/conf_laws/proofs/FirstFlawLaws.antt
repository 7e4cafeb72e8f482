-- The flaw that a walk over a configuration's objects answers is the first by the table: it stands before each other one that the table
-- knows of.
use Rattle.std.proofs.Common.{◌≡◌, ◌≢◌, ◌⊎◌, ◌+◌, ◌≤◌, ◌&&◌, ◌||◌, ℕ, zero, suc, Bool, true, false, not, cond, List, [], ◌∷◌, ◌++◌, map, get_or, Contains, Option, Some, None, IsSome, unwrap_or, Err, inl, inr, refl, sym, ap, subst, ◌∙◌, arith, codes}
use Rattle.std.specs.Ordering.{is_lt, nat_cmp}
use Rattle.conf_laws.specs.FlawOrder.{NameBefore}
use Rattle.conf_laws.specs.WalkOrder.{Turn, by_itself, its_name, its_class, what_it_lacks, what_it_holds, its_shape, WayBefore, way_to, IsFirstOf}
use Rattle.conf_laws.proofs.Agreement.{Agrees, nothing_agrees, inside_agrees, behind_agrees, Takes, takes_beside, takes_further, item_agrees, IsFrom, from_start, from_next, item_here}
use Rattle.conf_laws.proofs.FirstAtTurn.{value_first, name_first, class_first, shape_first}
use Rattle.conf_laws.proofs.Readings.{some_none, by_found, by_test}
use Rattle.conf_laws.proofs.Sound.{no_rows, map_leads}
use Rattle.conf_laws.proofs.TableFlawLaws.{property, left, class_judged, shape_judged, member_there, parts_of}
use Rattle.conf_laws.proofs.ValueFlawLaws.{IsJudged, value_judged, name_judged}
use Rattle.conf_laws.proofs.WalkOrderLaws.{IsSameOrBefore, alone_first, one_before, From, UpTo, from_turn, up_to_turn, from_less, rank_before, one_turn, above, Leads, leads_judged, leads_joined, Within, leads_within, leads_then, leads_where}
use Rattle.conf_laws.proofs.Words.{Around, Parts, HasBehind, member_of, item_of, IsLeftOut, IsNoClassAt, HasNotItsRows, IsNoShapeAt, IsFlawOf, IsNoValueOf, IsNoNameAt, IsNoKey, Keys, is_by_index, presence_under, Told, rows_of, Place, At, Content, Presence, is_needed, resolved_content, left_out, is_left_out, class_rule, row_there, rows_there, orders_there, all_there, told_by, property_flaws, inner_flaws, item_flaws, member_flaws, content_flaws, configuration_flaws, itself_of, Known, nothing, inside, behind, with_taken, key_of, names_beside, with_names, place_of_properties, item_content, shape_of, Flaw, key, here, within, index, optional, HasMember, refusal, Missing, Unknown, Ascends, IsInOrder, ItemsAscend, MembersAscend, slice_cmp, Data, object, Members, array, Items, no_items, item, no_members, member, get_member, get_item, nat_tests, and_parts, list_all_at, false≢true}
use Rattle.conf_laws.proofs.Words.places
use Rattle.conf_laws.proofs.Words.contents
use Rattle.conf_laws.proofs.Words.keys
use Rattle.conf_laws.proofs.Words.presences

-- ---- the flaws of a value, each at its way

abbrev ItselfAt : Around → Content → Data → List Turn → Flaw → Type 0
ItselfAt around content d q f = (q ≡ by_itself ∷ []) × IsNoValueOf around content d f

-- the row says that an object needs its property, and it has not
abbrev IsLacked : Members → Told → Flaw → Type 0
IsLacked ms row f = (row.presence ≡ presences.Needed) × (get_member row.name ms ≡ None) × (f ≡ within (key row.name) (here Missing))

abbrev LacksAt : Members → List Told → List Turn → Flaw → Type 0
LacksAt ms [] q f = ⊥
LacksAt ms (row ∷ rows) q f = ((q ≡ what_it_lacks row.name ∷ []) × IsLacked ms row f) ⊎ LacksAt ms rows q f

-- a trace type without a byte order
abbrev HasNoOrder : Place → Members → Flaw → Type 0
HasNoOrder place ms f = (place ≡ places.TraceType) × (optional (codes "trace-byte-order") ms ≡ None) × (optional (codes "native-byte-order") ms ≡ None) × (f ≡ within (key (codes "trace-byte-order")) (here Missing))

abbrev MissingAt : Place → Members → List Turn → Flaw → Type 0
MissingAt place ms q f = LacksAt ms (rows_of place) q f ⊎ ((q ≡ what_it_lacks (codes "trace-byte-order") ∷ []) × HasNoOrder place ms f)

-- of the value of a property, with those of what it holds
abbrev PropertyAt : Around → Around → Place → List ℕ → Data → (Content → List Turn → Flaw → Type 0) → Option Content → List Turn → Flaw → Type 0
PropertyAt around inner place name d held None q f = (q ≡ by_itself ∷ []) × (f ≡ here Unknown)
PropertyAt around inner place name d held (Some content) q f = (is_left_out place name d ≡ false) × (ItselfAt inner content d q f ⊎ (((q ≡ its_name ∷ []) × IsNoNameAt around place name d f) ⊎ held content q f))

abbrev mutual
  InnerAt : Data → Around → Content → List Turn → Flaw → Type 0
  InnerAt (array ds) around (At place) q f = ItemsAt ds around place ds 0 q f
  InnerAt (object ms) around (At place) q f =
      ((q ≡ its_class ∷ []) × IsNoClassAt place ms f)
      ⊎ (MissingAt (place_of_properties place ms) ms q f ⊎ (MembersAt ms around (place_of_properties place ms) ms no_members q f ⊎ ((q ≡ its_shape ∷ []) × IsNoShapeAt place ms f)))
  InnerAt _ around content q f = ⊥

  ItemsAt : Items → Around → Place → Items → ℕ → List Turn → Flaw → Type 0
  ItemsAt no_items around place all i q f = ⊥
  ItemsAt (item d rest) around place all i q f =
      Within (index i) (λ p g. ItselfAt (item_of place all i ∷ around) (item_content place) d p g ⊎ InnerAt d (item_of place all i ∷ around) (item_content place) p g) q f ⊎ ItemsAt rest around place all (suc i) q f

  MembersAt : Members → Around → Place → Members → Members → List Turn → Flaw → Type 0
  MembersAt no_members around place all before q f = ⊥
  MembersAt (member name d rest) around place all before q f =
      Within (key name) (PropertyAt around (member_of place all before ∷ around) place name d (λ content. InnerAt d (member_of place all before ∷ around) content) (resolved_content place name)) q f
      ⊎ MembersAt rest around place all (member name d before) q f

abbrev ContentAt : Data → Around → Content → List Turn → Flaw → Type 0
ContentAt d around content q f = ItselfAt around content d q f ⊎ InnerAt d around content q f

-- ---- how they begin

items_behind : (rest : Items) (around : Around) (place : Place) (all : Items) (i : ℕ) (q : List Turn) (f : Flaw) → ItemsAt rest around place all i q f → (j : ℕ) × (p : List Turn) × (i ≤ j) × (q ≡ what_it_holds (index j) ∷ p)
items_behind no_items around place all i q f h = absurd h
items_behind (item d rest) around place all i q f (inl (p, g, is, seen, wrong)) = (i, p, omega arith, is)
items_behind (item d rest) around place all i q f (inr later) = let (j, p, most, is) = items_behind rest around place all (suc i) q f later in (j, p, omega (arith, most), is)

members_behind : (rest : Members) (around : Around) (place : Place) (all before : Members) (q : List Turn) (f : Flaw) → MembersAt rest around place all before q f → (name : List ℕ) × (d : Data) × (p : List Turn) × HasMember name d rest × (q ≡ what_it_holds (key name) ∷ p)
members_behind no_members around place all before q f h = absurd h
members_behind (member name d rest) around place all before q f (inl (p, g, is, seen, wrong)) = (name, d, p, inl (refl, refl), is)
members_behind (member name d rest) around place all before q f (inr later) = let (l, e, p, has, is) = members_behind rest around place all (member name d before) q f later in (l, e, p, inr has, is)

-- what is missing, and a way that begins with it
lacks_turn : (ms : Members) (rows : List Told) (q : List Turn) (f : Flaw) → LacksAt ms rows q f → (row : Told) × Contains rows row × (q ≡ what_it_lacks row.name ∷ []) × IsLacked ms row f
lacks_turn ms [] q f h = absurd h
lacks_turn ms (row ∷ rows) q f (inl (is, lacked)) = (row, (0, omega arith, refl), is, lacked)
lacks_turn ms (row ∷ rows) q f (inr later) = let (r, (i, less, at_i), is, lacked) = lacks_turn ms rows q f later in (r, (suc i, omega (arith, less), at_i), is, lacked)

missing_turn : (place : Place) (ms : Members) (q : List Turn) (f : Flaw) → MissingAt place ms q f → (name : List ℕ) × (q ≡ what_it_lacks name ∷ [])
missing_turn place ms q f (inl lacks) = let (row, among, is, lacked) = lacks_turn ms (rows_of place) q f lacks in (row.name, is)
missing_turn place ms q f (inr (is, h)) = (codes "trace-byte-order", is)

members_from : (n : ℕ) → n ≤ 5 → (rest : Members) (around : Around) (place : Place) (all before : Members) (q : List Turn) (f : Flaw) → MembersAt rest around place all before q f → From n q × UpTo 5 q
members_from n less rest around place all before q f h = let (name, d, p, has, is) = members_behind rest around place all before q f h in (from_turn (what_it_holds (key name)) n q p is less, up_to_turn (what_it_holds (key name)) 5 q p is (omega arith))

inner_from : (d : Data) (around : Around) (content : Content) (q : List Turn) (f : Flaw) → InnerAt d around content q f → From 3 q
inner_from (array ds) around (At place) q f h = let (j, p, most, is) = items_behind ds around place ds 0 q f h in from_turn (what_it_holds (index j)) 3 q p is (omega arith)
inner_from (object ms) around (At place) q f (inl (is, wrong)) = from_turn its_class 3 q [] is (omega arith)
inner_from (object ms) around (At place) q f (inr (inl h)) = let (name, is) = missing_turn (place_of_properties place ms) ms q f h in from_turn (what_it_lacks name) 3 q [] is (omega arith)
inner_from (object ms) around (At place) q f (inr (inr (inl h))) = (members_from 3 (omega arith) ms around (place_of_properties place ms) ms no_members q f h).0
inner_from (object ms) around (At place) q f (inr (inr (inr (is, wrong)))) = from_turn its_shape 3 q [] is (omega arith)
inner_from _ around content q f h = absurd h

-- ---- what is missing is told in byte order

-- the names of the needed rows ascend
abbrev above_needed : List ℕ → List Told → Bool
above_needed name [] = true
above_needed name (row ∷ rows) = (not (is_needed row.presence) || is_lt (slice_cmp nat_cmp name row.name)) && above_needed name rows

abbrev needed_ascend : List Told → Bool
needed_ascend [] = true
needed_ascend (row ∷ rows) = (not (is_needed row.presence) || above_needed row.name rows) && needed_ascend rows

table_ascends : (place : Place) → needed_ascend (rows_of place) ≡ true
unfolding rows_of
table_ascends places.Root = refl
table_ascends _ = refl

below_needed : (name : List ℕ) (rows : List Told) (row : Told) → above_needed name rows ≡ true → Contains rows row → row.presence ≡ presences.Needed → NameBefore name row.name
below_needed name [] row e among needed = grind (arith, among)
below_needed name (r ∷ rows) row e (zero, less, is) needed = grind (arith, nat_tests, e, is, needed)
below_needed name (r ∷ rows) row e (suc i, less, is) needed = below_needed name rows row (and_parts _ _ e).1 (i, omega (arith, less), is) needed

above_there : (name : List ℕ) (rows : List Told) (p : Presence) → p ≡ presences.Needed → (not (is_needed p) || above_needed name rows) ≡ true → above_needed name rows ≡ true
above_there name rows p needed e = subst (λ x. (not (is_needed x) || above_needed name rows) ≡ true) needed e

rows_lead : (ms : Members) (rows : List Told) → needed_ascend rows ≡ true → Leads (told_by (rows_there ms rows)) (LacksAt ms rows)
rows_lead ms [] e = λ q f wrong. wrong
rows_lead ms (row ∷ rows) e =
    let parts = and_parts (not (is_needed row.presence) || above_needed row.name rows) (needed_ascend rows) e in
    let judged : IsJudged (row_there ms row) (IsLacked ms row) = grind (arith, nat_tests) in
    leads_then (λ q f. (q ≡ what_it_lacks row.name ∷ []) × IsLacked ms row f) (LacksAt ms rows) (row_there ms row) (rows_there ms rows) (leads_judged (what_it_lacks row.name) (IsLacked ms row) (row_there ms row) judged (alone_first (IsLacked ms row) (row_there ms row) judged (λ f g one other. one.2 ∙ sym other.2))) (rows_lead ms rows parts.1)
    (λ p q f g a b. let (r, among, is, lacked) = lacks_turn ms rows q g b in one_before (what_it_lacks row.name) (what_it_lacks r.name) [] [] p q (below_needed row.name rows r (above_there row.name rows row.presence a.1.0 parts.0) among lacked.0) a.0 is)

orders_judged : (place : Place) (ms : Members) → IsJudged (orders_there place ms) (HasNoOrder place ms)
unfolding orders_there
orders_judged places.TraceType ms = grind (arith, nat_tests)
orders_judged _ ms = λ f wrong. let same = wrong.0 in cc

-- a trace type needs no other property
no_row_needed : (row : Told) → Contains (rows_of places.TraceType) row → row.presence ≢ presences.Needed
unfolding rows_of
no_row_needed row (i, less, is) needed =
    let fails : not (is_needed (get_or (rows_of places.TraceType) i row).presence) ≡ false = ap (λ r. not (is_needed r.presence)) is ∙ ap (λ p. not (is_needed p)) needed in
    false≢true (sym (list_all_at (λ r. not (is_needed r.presence)) (rows_of places.TraceType) i row less fails))

missing_leads : (place : Place) (ms : Members) → Leads (told_by (all_there place ms)) (MissingAt place ms)
unfolding all_there
missing_leads place ms =
    leads_then (LacksAt ms (rows_of place)) (λ q f. (q ≡ what_it_lacks (codes "trace-byte-order") ∷ []) × HasNoOrder place ms f) (rows_there ms (rows_of place)) (orders_there place ms) (rows_lead ms (rows_of place) (table_ascends place))
    (leads_judged (what_it_lacks (codes "trace-byte-order")) (HasNoOrder place ms) (orders_there place ms) (orders_judged place ms) (alone_first (HasNoOrder place ms) (orders_there place ms) (orders_judged place ms) (λ f g one other. one.3 ∙ sym other.3)))
    (λ p q f g a b. let (row, among, is, lacked) = lacks_turn ms (rows_of place) p f a in absurd (no_row_needed row (subst (λ x. Contains (rows_of x) row) b.1.0 among) lacked.0))

-- ---- the walk has the first of them

content_leads : (k : Known) (around : Around) → Agrees k around → (content : Content) (d : Data) → Leads (inner_flaws k content d) (InnerAt d around content) → Leads (content_flaws k content d) (ContentAt d around content)
content_leads k around h content d inner =
    leads_joined (ItselfAt around content d) (InnerAt d around content) (told_by (itself_of k content d)) (inner_flaws k content d) (leads_judged by_itself (IsNoValueOf around content d) (itself_of k content d) (value_judged k around h content d) (value_first k around h content d)) inner
    (λ p q f g a b. one_turn by_itself 2 p q a.0 (omega arith) (inner_from d around content q g b))

-- of a property, where the walk has the first of what its value holds
module _ (k : Known) (around : Around) (place : Place) (all before : Members) (name : List ℕ) (d : Data) where
  abbrev inner : Around
  inner = member_of place all before ∷ around

  property_leads : Agrees k inner → ((content : Content) → Leads (inner_flaws k content d) (InnerAt d inner content))
      → Leads (property_flaws k place name (resolved_content place name) d (inner_flaws k (unwrap_or (resolved_content place name) contents.Anything) d)) (PropertyAt around inner place name d (InnerAt d inner) (resolved_content place name))
  property_leads h held =
      by_found (λ (o : Option Content). Leads (property_flaws k place name o d (inner_flaws k (unwrap_or o contents.Anything) d)) (PropertyAt around inner place name d (InnerAt d inner) o)) (resolved_content place name)
      (λ none. leads_judged by_itself (λ f. f ≡ here Unknown) (Err (here Unknown)) refl (alone_first (λ f. f ≡ here Unknown) (Err (here Unknown)) refl (λ f g one other. one ∙ sym other)))
      (λ content is. by_test (λ (b : Bool). Leads (cond b [] (told_by (itself_of k content d) ++ (told_by (key_of k place name d) ++ inner_flaws k content d))) (PropertyAt around inner place name d (InnerAt d inner) (Some content))) (is_left_out place name d)
      (λ out q f wrong. false≢true (sym wrong.0 ∙ out))
      (λ stays.
      let Named : List Turn → Flaw → Type 0 = λ q f. (q ≡ its_name ∷ []) × IsNoNameAt around place name d f in
      let Rest : List Turn → Flaw → Type 0 = λ q f. Named q f ⊎ InnerAt d inner content q f in
      leads_where (is_left_out place name d ≡ false) (λ q f. ItselfAt inner content d q f ⊎ Rest q f) (told_by (itself_of k content d) ++ (told_by (key_of k place name d) ++ inner_flaws k content d)) stays
      (leads_joined (ItselfAt inner content d) Rest (told_by (itself_of k content d)) (told_by (key_of k place name d) ++ inner_flaws k content d)
      (leads_judged by_itself (IsNoValueOf inner content d) (itself_of k content d) (value_judged k inner h content d) (value_first k inner h content d))
      (leads_joined Named (InnerAt d inner content) (told_by (key_of k place name d)) (inner_flaws k content d)
      (leads_judged its_name (IsNoNameAt around place name d) (key_of k place name d) (name_judged k around h.taken place name d) (name_first k around h.taken place name d)) (held content)
      (λ p q f g a b. one_turn its_name 2 p q a.0 (omega arith) (inner_from d inner content q g b)))
      (λ p q f g a b. one_turn by_itself 1 p q a.0 (omega arith) (elim b [ inl named ↦ from_turn its_name 2 q [] named.0 (omega arith) | inr wrong ↦ from_less 2 3 q (omega arith) (inner_from d inner content q g wrong) ])))))

mutual
  inner_leads : (d : Data) (k : Known) (around : Around) → Agrees k around → Ascends d → (content : Content) → Leads (inner_flaws k content d) (InnerAt d around content)
  inner_leads (array ds) k around h ascends (At place) = items_lead ds k around h place ds 0 (names_beside place) (takes_beside place ds) (from_start ds) ascends
  inner_leads (object ms) k around h ascends (At place) =
      let own = place_of_properties place ms in
      let Class : List Turn → Flaw → Type 0 = λ q f. (q ≡ its_class ∷ []) × IsNoClassAt place ms f in
      let Lacking : List Turn → Flaw → Type 0 = MissingAt own ms in
      let Held : List Turn → Flaw → Type 0 = MembersAt ms around own ms no_members in
      let Shape : List Turn → Flaw → Type 0 = λ q f. (q ≡ its_shape ∷ []) × IsNoShapeAt place ms f in
      let shape_from : (n : ℕ) (q : List Turn) (f : Flaw) → n ≤ 6 → Shape q f → From n q = λ n q f least wrong. from_turn its_shape n q [] wrong.0 least in
      let rest_from : (n : ℕ) (q : List Turn) (f : Flaw) → n ≤ 5 → Held q f ⊎ Shape q f → From n q = λ n q f least wrong. elim wrong [ inl held ↦ (members_from n least ms around own ms no_members q f held).0 | inr shape ↦ shape_from n q f (omega (arith, least)) shape ] in
      leads_joined Class (λ q f. Lacking q f ⊎ (Held q f ⊎ Shape q f)) (told_by (class_rule place ms)) (told_by (all_there own ms) ++ (member_flaws (inside own ms k) own ms ++ told_by (shape_of place ms)))
      (leads_judged its_class (IsNoClassAt place ms) (class_rule place ms) (class_judged place ms) (class_first place ms))
      (leads_joined Lacking (λ q f. Held q f ⊎ Shape q f) (told_by (all_there own ms)) (member_flaws (inside own ms k) own ms ++ told_by (shape_of place ms))
      (missing_leads own ms)
      (leads_joined Held Shape (member_flaws (inside own ms k) own ms) (told_by (shape_of place ms))
      (members_lead ms (inside own ms k) around own ms no_members (inside_agrees k around h own ms) ascends.0 ascends.1)
      (leads_judged its_shape (IsNoShapeAt place ms) (shape_of place ms) (shape_judged place ms) (shape_first place ms))
      (λ p q f g a b. rank_before 5 p q (members_from 5 (omega arith) ms around own ms no_members p f a).1 (shape_from 6 q g (omega arith) b)))
      (λ p q f g a b. let (name, is) = missing_turn own ms p f a in one_turn (what_it_lacks name) 4 p q is (omega arith) (rest_from 5 q g (omega arith) b)))
      (λ p q f g a b. one_turn its_class 3 p q a.0 (omega arith) (elim b [ inl lacking ↦ let (name, is) = missing_turn own ms q g lacking in from_turn (what_it_lacks name) 4 q [] is (omega arith) | inr rest ↦ rest_from 4 q g (omega arith) rest ]))
  inner_leads _ k around h ascends content = λ q f wrong. wrong

  items_lead : (rest : Items) (k : Known) (around : Around) → Agrees k around → (place : Place) (all : Items) (i : ℕ) (taken : Members) → Takes taken place all i → IsFrom all i rest → ItemsAscend rest → Leads (item_flaws k place taken i rest) (ItemsAt rest around place all i)
  items_lead no_items k around h place all i taken takes from ascend = λ q f wrong. wrong
  items_lead (item d rest) k around h place all i taken takes from ascend =
      let j = with_taken taken k in
      let inside_list = item_of place all i ∷ around in
      let agrees = item_agrees k around taken place all i h takes in
      leads_joined (Within (index i) (ContentAt d inside_list (item_content place))) (ItemsAt rest around place all (suc i)) (map (within (index i)) (content_flaws j (item_content place) d)) (item_flaws k place (with_names d taken) (suc i) rest)
      (leads_within (index i) (ContentAt d inside_list (item_content place)) (content_flaws j (item_content place) d) (content_leads j inside_list agrees (item_content place) d (inner_leads d j inside_list agrees ascend.0 (item_content place))))
      (items_lead rest k around h place all (suc i) (with_names d taken) (takes_further taken place all i d (item_here all i d rest from) takes) (from_next all i d rest from) ascend.1)
      (λ p q f g a b. let (n, way, least, is) = items_behind rest around place all (suc i) q g b in one_before (what_it_holds (index i)) (what_it_holds (index n)) a.0 way p q (omega (arith, least)) a.2 is)

  members_lead : (rest : Members) (k : Known) (around : Around) (place : Place) (all before : Members) → Agrees k (member_of place all before ∷ around) → IsInOrder rest → MembersAscend rest → Leads (member_flaws k place rest) (MembersAt rest around place all before)
  members_lead no_members k around place all before h order ascend = λ q f wrong. wrong
  members_lead (member name d rest) k around place all before h order ascend =
      let there = member_of place all before ∷ around in
      let Here : List Turn → Flaw → Type 0 = PropertyAt around there place name d (InnerAt d there) (resolved_content place name) in
      let first = property_flaws k place name (resolved_content place name) d (inner_flaws k (unwrap_or (resolved_content place name) contents.Anything) d) in
      leads_joined (Within (key name) Here) (MembersAt rest around place all (member name d before)) (map (within (key name)) first) (member_flaws (behind place d k) place rest)
      (leads_within (key name) Here first (property_leads k around place all before name d h (λ content. inner_leads d k there h ascend.0 content)))
      (members_lead rest (behind place d k) around place all (member name d before) (behind_agrees around all before name d place k h) order.1 ascend.1)
      (λ p q f g a b. let (l, e, way, has, is) = members_behind rest around place all (member name d before) q g b in one_before (what_it_holds (key name)) (what_it_holds (key l)) a.0 way p q (above name l e rest order.0 has) a.2 is)

-- ---- each flaw of the table stands at its way

member_found : (around : Around) (place : Place) (all before rest : Members) (q : List Turn) (f : Flaw) → Parts all before rest → MembersAt rest around place all before q f → MembersAt all around place all no_members q f
member_found around place all before rest q f (Parts.at_the_first) h = h
member_found around place all before rest q f (Parts.behind b n e r parts) h = member_found around place all b (member n e r) q f parts (inr h)

item_found : (around : Around) (place : Place) (all rest : Items) (i j n : ℕ) (d : Data) (p : List Turn) (g : Flaw) → n ≡ j + i → get_item j rest ≡ Some d → ContentAt d (item_of place all n ∷ around) (item_content place) p g
    → ItemsAt rest around place all i (what_it_holds (index n) ∷ p) (within (index n) g)
item_found around place all no_items i j n d p g same is h = absurd cc
item_found around place all (item x rest) i zero n d p g same is h =
    let one : x ≡ d = cc in
    let here_it_is : n ≡ i = omega (arith, same) in
    inl (p, g, ap (λ m. what_it_holds (index m) ∷ p) here_it_is, ap (λ m. within (index m) g) here_it_is, subst (λ m. ContentAt x (item_of place all m ∷ around) (item_content place) p g) here_it_is (subst (λ y. ContentAt y (item_of place all n ∷ around) (item_content place) p g) (sym one) h))
item_found around place all (item x rest) i (suc j) n d p g same is h = inr (item_found around place all rest (suc i) j n d p g (omega (arith, same)) is h)

-- a name that an entry cannot have is that of an entry of a map
named_by : (around : Around) (place : Place) (by : Keys) (name : List ℕ) (d : Data) (f : Flaw) → IsNoKey around place by name d f → is_by_index by ≡ false
named_by around place keys.Index name d f wrong = absurd wrong
named_by around place _ name d f wrong = refl

named_property : (around : Around) (place : Place) (name : List ℕ) (d : Data) (f : Flaw) → IsNoNameAt around place name d f → (content : Content) × (resolved_content place name ≡ Some content) × (is_left_out place name d ≡ false)
unfolding is_left_out
named_property around place name d f (entries, is, wrong) =
    let none = no_rows place name entries is in
    (entries.content, (property place name entries.content).1 (map_leads place name entries.content (entries, is, named_by around place entries.keys name d f wrong, refl), λ inherits. let some = subst IsSome none inherits.1 in cc), ap (λ o. left_out o d) none)

property_found : (around : Around) (place : Place) (all before : Members) (name : List ℕ) (d : Data) (o : Option Content) (p : List Turn) (g : Flaw) → HasBehind before name d all → resolved_content place name ≡ o → PropertyAt around (member_of place all before ∷ around) place name d (InnerAt d (member_of place all before ∷ around)) o p g
    → MembersAt all around place all no_members (what_it_holds (key name) ∷ p) (within (key name) g)
property_found around place all before name d o p g (rest, parts) is h =
    member_found around place all before (member name d rest) (what_it_holds (key name) ∷ p) (within (key name) g) parts
    (inl (p, g, refl, refl, subst (λ x. PropertyAt around (member_of place all before ∷ around) place name d (InnerAt d (member_of place all before ∷ around)) x p g) (sym is) h))

lack_found : (ms : Members) (rows : List Told) (row : Told) → Contains rows row → row.presence ≡ presences.Needed → get_member row.name ms ≡ None → LacksAt ms rows (what_it_lacks row.name ∷ []) (within (key row.name) (here Missing))
lack_found ms [] row (i, less, is) needed none = absurd (omega (arith, less))
lack_found ms (r ∷ rows) row (zero, less, is) needed none = subst (λ x. LacksAt ms (x ∷ rows) (what_it_lacks row.name ∷ []) (within (key row.name) (here Missing))) (sym is) (inl (refl, (needed, none, refl)))
lack_found ms (r ∷ rows) row (suc i, less, is) needed none = inr (lack_found ms rows row (i, omega (arith, less), is) needed none)

stands_at : (around : Around) (content : Content) (d : Data) (f : Flaw) (wrong : IsFlawOf around content d f) → ContentAt d around content (way_to wrong) f
unfolding is_left_out
stands_at around content d f (IsFlawOf.wrong_value wrong) = inl (refl, wrong)
stands_at around content d f (IsFlawOf.wrong_class wrong) = inr (inl (refl, wrong))
stands_at around content d f (IsFlawOf.wrong_shape wrong) = inr (inr (inr (inr (refl, wrong))))
stands_at around content d f (IsFlawOf.wrong_rows {place = place} {ms = ms} (HasNotItsRows.missing row has needed none)) = inr (inr (inl (inl (lack_found ms (rows_of (place_of_properties place ms)) row has needed none))))
stands_at around content d f (IsFlawOf.wrong_rows (HasNotItsRows.no_byte_order is one other)) = inr (inr (inl (inr (refl, (is, one, other, refl)))))
stands_at around content d f (IsFlawOf.wrong_rows {place = place} {ms = ms} (HasNotItsRows.unknown name v has none)) =
    let own = place_of_properties place ms in
    let (before, there) = parts_of ms no_members ms name v Parts.at_the_first has in
    let resolved = by_found (λ (o : Option Content). resolved_content own name ≡ o → resolved_content own name ≡ None) (resolved_content own name) (λ no is. is) (λ c is same. absurd (none c ((property own name c).0 same))) refl in
    inr (inr (inr (inl (property_found around own ms before name v None (by_itself ∷ []) (here Unknown) there resolved (refl, refl)))))
stands_at around content d f (IsFlawOf.wrong_name {place = place} {ms = ms} name v g has wrong) =
    let own = place_of_properties place ms in
    let (before, there) = parts_of ms no_members ms name v Parts.at_the_first has in
    let (c, resolved, stays) = named_property around own name v g wrong in
    inr (inr (inr (inl (property_found around own ms before name v (Some c) (its_name ∷ []) g there resolved (stays, inr (inl (refl, wrong)))))))
stands_at around content d f (IsFlawOf.in_property {place = place} {ms = ms} before name v c g there is left_not wrong) =
    let own = place_of_properties place ms in
    let stays = by_test (λ (b : Bool). b ≡ false) (is_left_out own name v) (λ out. absurd (left_not ((left (presence_under own name) v).0 out))) (λ no. refl) in
    let inner = stands_at (member_of own ms before ∷ around) c v g wrong in
    inr (inr (inr (inl (property_found around own ms before name v (Some c) (way_to wrong) g there ((property own name c).1 is) (stays, elim inner [ inl itself ↦ inl itself | inr held ↦ inr (inr held) ])))))
stands_at around content d f (IsFlawOf.in_item {place = place} {ds = ds} i v g is wrong) = inr (item_found around place ds ds 0 i i v (way_to wrong) g (omega arith) is (stands_at (item_of place ds i ∷ around) (item_content place) v g wrong))

-- ---- what stands at a way is a flaw by the table

abbrev FlawAt : Around → Content → Data → List Turn → Flaw → Type 0
FlawAt around content d q f = (wrong : IsFlawOf around content d f) × (way_to wrong ≡ q)

flaw_moved : (around : Around) (content : Content) (d : Data) (p q : List Turn) (f g : Flaw) → q ≡ p → g ≡ f → FlawAt around content d p f → FlawAt around content d q g
flaw_moved around content d p q f g way same h = subst (λ w. FlawAt around content d w g) (sym way) (subst (FlawAt around content d p) (sym same) h)

module _ (around : Around) (place : Place) (all before rest : Members) (name : List ℕ) (d : Data) (parts : Parts all before (member name d rest)) where
  abbrev own : Place
  own = place_of_properties place all

  abbrev around_property : Around
  around_property = member_of own all before ∷ around

  property_is : ((content : Content) (q : List Turn) (f : Flaw) → InnerAt d around_property content q f → FlawAt around_property content d q f) → (o : Option Content) (p : List Turn) (g : Flaw) → resolved_content own name ≡ o → PropertyAt around around_property own name d (InnerAt d around_property) o p g
      → FlawAt around (At place) (object all) (what_it_holds (key name) ∷ p) (within (key name) g)
  unfolding is_left_out
  property_is held None p g resolved (way, is) =
      let has = member_there all before (member name d rest) name d parts (inl (refl, refl)) in
      flaw_moved around (At place) (object all) (what_it_holds (key name) ∷ by_itself ∷ []) (what_it_holds (key name) ∷ p) (within (key name) (here Unknown)) (within (key name) g) (ap (λ w. what_it_holds (key name) ∷ w) way) (ap (within (key name)) is)
      (IsFlawOf.wrong_rows (HasNotItsRows.unknown name d has (λ content is. some_none (resolved_content own name) content ((property own name content).1 is) resolved)), refl)
  property_is held (Some content) p g resolved (stays, wrong) =
      let has = member_there all before (member name d rest) name d parts (inl (refl, refl)) in
      let left_not : ¬ IsLeftOut own name d = λ out. false≢true (sym stays ∙ (left (presence_under own name) d).1 out) in
      let of_value : (w : IsFlawOf around_property content d g) → way_to w ≡ p → FlawAt around (At place) (object all) (what_it_holds (key name) ∷ p) (within (key name) g) = λ w way. (IsFlawOf.in_property before name d content g (rest, parts) ((property own name content).0 resolved) left_not w, ap (λ x. what_it_holds (key name) ∷ x) way) in
      elim wrong [
        | inl (way, itself) ↦ of_value (IsFlawOf.wrong_value itself) (sym way)
        | inr (inl (way, named)) ↦ (IsFlawOf.wrong_name name d g has named, ap (λ x. what_it_holds (key name) ∷ x) (sym way))
        | inr (inr inner) ↦ let (w, way) = held content p g inner in of_value w way
      ]

mutual
  inner_is : (d : Data) (around : Around) (content : Content) (q : List Turn) (f : Flaw) → InnerAt d around content q f → FlawAt around content d q f
  inner_is (array ds) around (At place) q f h = items_are ds around place ds 0 (from_start ds) q f h
  inner_is (object ms) around (At place) q f (inl (way, wrong)) = (IsFlawOf.wrong_class wrong, sym way)
  inner_is (object ms) around (At place) q f (inr (inl (inl h))) =
      let (row, among, way, (needed, none, is)) = lacks_turn ms (rows_of (place_of_properties place ms)) q f h in
      flaw_moved around (At place) (object ms) (what_it_lacks row.name ∷ []) q (within (key row.name) (here Missing)) f way is (IsFlawOf.wrong_rows (HasNotItsRows.missing row among needed none), refl)
  inner_is (object ms) around (At place) q f (inr (inl (inr (way, (same, one, other, is))))) = flaw_moved around (At place) (object ms) (what_it_lacks (codes "trace-byte-order") ∷ []) q (within (key (codes "trace-byte-order")) (here Missing)) f way is (IsFlawOf.wrong_rows (HasNotItsRows.no_byte_order same one other), refl)
  inner_is (object ms) around (At place) q f (inr (inr (inl h))) = members_are ms around place ms no_members Parts.at_the_first q f h
  inner_is (object ms) around (At place) q f (inr (inr (inr (way, wrong)))) = (IsFlawOf.wrong_shape wrong, sym way)
  inner_is _ around content q f h = absurd h

  items_are : (rest : Items) (around : Around) (place : Place) (all : Items) (i : ℕ) → IsFrom all i rest → (q : List Turn) (f : Flaw) → ItemsAt rest around place all i q f → FlawAt around (At place) (array all) q f
  items_are no_items around place all i from q f h = absurd h
  items_are (item d rest) around place all i from q f (inl (p, g, way, is, wrong)) =
      let there = item_here all i d rest from in
      let inside_list = item_of place all i ∷ around in
      let (w, same) : FlawAt inside_list (item_content place) d p g = elim wrong [ inl (by, itself) ↦ (IsFlawOf.wrong_value itself, sym by) | inr held ↦ inner_is d inside_list (item_content place) p g held ] in
      flaw_moved around (At place) (array all) (what_it_holds (index i) ∷ p) q (within (index i) g) f way is (IsFlawOf.in_item i d g there w, ap (λ x. what_it_holds (index i) ∷ x) same)
  items_are (item d rest) around place all i from q f (inr later) = items_are rest around place all (suc i) (from_next all i d rest from) q f later

  members_are : (rest : Members) (around : Around) (place : Place) (all before : Members) → Parts all before rest → (q : List Turn) (f : Flaw) → MembersAt rest around (place_of_properties place all) all before q f → FlawAt around (At place) (object all) q f
  members_are no_members around place all before parts q f h = absurd h
  members_are (member name d rest) around place all before parts q f (inl (p, g, way, is, wrong)) =
      flaw_moved around (At place) (object all) (what_it_holds (key name) ∷ p) q (within (key name) g) f way is
      (property_is around place all before rest name d parts (λ content x y h. inner_is d (member_of (place_of_properties place all) all before ∷ around) content x y h) (resolved_content (place_of_properties place all) name) p g refl wrong)
  members_are (member name d rest) around place all before parts q f (inr later) = members_are rest around place all (member name d before) (Parts.behind before name d rest parts) q f later

content_is : (d : Data) (around : Around) (content : Content) (q : List Turn) (f : Flaw) → ContentAt d around content q f → FlawAt around content d q f
content_is d around content q f (inl (way, itself)) = (IsFlawOf.wrong_value itself, sym way)
content_is d around content q f (inr held) = inner_is d around content q f held

-- ---- a whole configuration

first_of : (d : Data) (flaws : List Flaw) (flaw : Flaw) → Leads flaws (ContentAt d [] (At places.Root)) → refusal flaws ≡ Err flaw → IsFirstOf d flaw
first_of d [] flaw h e = absurd cc
first_of d (g ∷ rest) flaw (p, stands, first) e =
    let same : g ≡ flaw = cc in
    let (told, way) = content_is d [] (At places.Root) p g stands in
    let is : IsFirstOf d g = (told, λ other wrong. subst (λ w. WayBefore w (way_to wrong) ⊎ ((w ≡ way_to wrong) × IsSameOrBefore g other)) (sym way) (first (way_to wrong) other (stands_at [] (At places.Root) d other wrong))) in
    subst (IsFirstOf d) same is

pub first_found : (d : Data) (flaw : Flaw) → Ascends d → refusal (configuration_flaws d) ≡ Err flaw → IsFirstOf d flaw
first_found d flaw h e = first_of d (configuration_flaws d) flaw (content_leads nothing [] nothing_agrees (At places.Root) d (inner_leads d nothing [] nothing_agrees h (At places.Root))) e
