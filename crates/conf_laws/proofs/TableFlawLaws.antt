-- Each flaw of the walk over a configuration's objects is one of them by the table; and where the walk tells of nothing the table knows of
-- none.
use Rattle.std.proofs.Common.{IsTrue, codes, ◌≡◌, ◌≢◌, ◌⊎◌, ◌↔◌, ◌+◌, ℕ, zero, suc, Bool, true, false, cond, List, Option, Some, None, is_some, inl, inr, refl, sym, ap, subst, ◌∙◌, [], ◌∷◌, Contains, Ok, Err, arith, ◌++◌, map, Result, unwrap_or}
use Rattle.conf_laws.proofs.Agreement.{Agrees, nothing_agrees, inside_agrees, behind_agrees, Takes, takes_beside, takes_further, item_agrees, IsFrom, from_start, from_next, item_here}
use Rattle.conf_laws.proofs.Readings.{byte_object, some_none, class_told, only_unsigned, only_static, element_bits, by_element, by_found, by_test}
use Rattle.conf_laws.proofs.Sound.{no_rows, ObjectSound, object_sound, ContentSound, content_sound, flaws_at, property_here, first_flaws, first_item, optional_there}
use Rattle.conf_laws.proofs.ValueFlawLaws.{IsJudged, then_judged, test_judged, class_word, word_excluded, value_judged, name_judged}
use Rattle.conf_laws.proofs.Words.{both_read, refused_here_or_next, IsTaken, is_taken, HasNumber, Around, Parts, HasBehind, member_of, item_of, IsPropertyOf, IsLeftOut, IsNoClassAt, HasNotItsRows, IsByte, IsIdentifier, HasNoBits, IsNoShapeAt, IsFlawOf, IsNoValueOf, IsNoNameAt, words_of_classes, class_words, class_in, admits_class, presence_under, Told, rows_of, Place, At, Content, Presence, class_named, class_of, class_said, other_class, resolved_content, left_out, is_left_out, admitted, class_rule, row_there, rows_there, orders_there, all_there, told_by, property_flaws, inner_flaws, item_flaws, member_flaws, content_flaws, configuration_flaws, itself_of, Known, nothing, inside, behind, with_taken, key_of, names_beside, with_names, natural_in, is_position, place_of_properties, item_content, is_number, is_unsigned_integer, is_static_array, is_eight, is_byte, is_identifier, has_bits, shape_of, Flaw, key, here, within, index, ◌>>=◌, at, wanted, needed, optional, text_of, HasMember, refusal, WrongKind, OutOfRange, Missing, Unknown, lacks_refused, found_there, IsNoWordOf, as_natural, Data, null, object, Members, array, Items, no_items, item, no_members, member, get_member, get_item, as_str, nat_tests, true≢false, false≢true, All-nil, All-cons, All-map, All-append, All-weaker, All-contains, bytes_eq-Decides, All, ⊤}
use Rattle.conf_laws.proofs.Words.places
use Rattle.conf_laws.proofs.Words.contents
use Rattle.conf_laws.proofs.Words.presences

-- ---- properties

-- what an object inherits from is none of its properties
pub property : (place : Place) (name : List ℕ) (content : Content) → (resolved_content place name ≡ Some content) ↔ IsPropertyOf place name content
unfolding resolved_content
property place name content = grind (arith, nat_tests, bytes_eq-Decides name (codes "$inherit"))

-- a null of this presence stands for no value
pub left : (o : Option Presence) (d : Data) → IsTrue (left_out o d) ↔ ((d ≡ null) × ((presence : Presence) × (o ≡ Some presence) × (presence ≢ presences.Needed)))
left o d = grind arith

-- ---- the class

module _ (place : Place) (ms : Members) where
  class_excluded : (d : Data) (w : List ℕ) (class : Place) (flaw : Flaw) → get_member (codes "class") ms ≡ Some d → as_str d ≡ Some w → class_in w class_words ≡ Some class → class_of ms ≡ Some class → admits_class place class ≡ true → ¬ IsNoClassAt place ms flaw
  class_excluded d w class flaw there text found is holds wrong = grind (arith, word_excluded words_of_classes d w, (class_word w).0, there, text, found, is, holds, wrong)

  module _ (position : is_position place ≡ true) (d : Data) (there : get_member (codes "class") ms ≡ Some d) where
    word_judged : (w : List ℕ) → as_str d ≡ Some w → IsJudged (admitted place (class_in w class_words)) (IsNoClassAt place ms)
    unfolding class_of other_class
    word_judged w text =
        by_found (λ (o : Option Place). IsJudged (admitted place o) (IsNoClassAt place ms)) (class_in w class_words)
        (λ none. IsNoClassAt.no_class position (inr (d, here OutOfRange, there, IsNoWordOf.another_word w text (λ among. true≢false (sym ((class_word w).1 among) ∙ ap is_some none)), refl)))
        (λ class found.
        let said : class_of ms ≡ Some class = ap class_said there ∙ ap class_named text ∙ found in
        test_judged (IsNoClassAt place ms) (admits_class place class) (here (other_class place)) (λ fails. grind (arith, position, said, fails, IsNoClassAt.no_array, IsNoClassAt.another_class)) (λ holds flaw. class_excluded d w class flaw there text found said holds))

  no_position : (flaw : Flaw) → is_position place ≡ false → ¬ IsNoClassAt place ms flaw
  unfolding is_position
  no_position flaw is wrong = grind (arith, is, wrong)

  pub class_judged : IsJudged (class_rule place ms) (IsNoClassAt place ms)
  unfolding class_rule
  class_judged =
      by_test (λ (b : Bool). IsJudged (cond b (needed (codes "class") ms >>= (λ d. at (key (codes "class")) (text_of d) >>= (λ w. admitted place (class_in w class_words)))) (Ok tt)) (IsNoClassAt place ms)) (is_position place)
      (λ position. then_judged (IsNoClassAt place ms) (needed (codes "class") ms) _ (λ flaw r. IsNoClassAt.no_class position (inl (lacks_refused (codes "class") ms flaw r))) (λ d went.
      let there = found_there (codes "class") ms d went in
      by_found (λ (o : Option (List ℕ)). IsJudged (at (key (codes "class")) (wanted o) >>= (λ w. admitted place (class_in w class_words))) (IsNoClassAt place ms)) (as_str d) (λ none. IsNoClassAt.no_class position (inr (d, here WrongKind, there, IsNoWordOf.no_text none, refl))) (word_judged position d there)))
      (λ is flaw. no_position flaw is)

-- ---- what is missing

module _ (ms : Members) where
  row_refused : (rows : List Told) (flaw : Flaw) → rows_there ms rows ≡ Err flaw → (row : Told) × Contains rows row × (row.presence ≡ presences.Needed) × (get_member row.name ms ≡ None) × (flaw ≡ within (key row.name) (here Missing))
  row_refused [] flaw e = absurd cc
  row_refused (row ∷ rows) flaw e = elim (refused_here_or_next (row_there ms row) _ flaw e) [
    | inl first ↦ let lacks : (row.presence ≡ presences.Needed) × (get_member row.name ms ≡ None) × (flaw ≡ within (key row.name) (here Missing)) = grind (arith, nat_tests, first) in (row, (0, omega arith, refl), lacks.0, lacks.1, lacks.2)
    | inr (x, went, later) ↦ let (r, among, needed, none, same) = row_refused rows flaw later in (r, (suc among.0, omega (arith, among.1), among.2), needed, none, same)
  ]

  row_kept : (rows : List Told) (row : Told) → rows_there ms rows ≡ Ok tt → Contains rows row → row_there ms row ≡ Ok tt
  row_kept [] row e among = grind (arith, among)
  row_kept (r ∷ rows) row e among = grind (arith, row_kept rows row, e, among)

  order_told : (place : Place) (flaw : Flaw) → orders_there place ms ≡ Err flaw → HasNotItsRows place ms flaw
  unfolding orders_there
  order_told places.TraceType flaw e = grind (arith, nat_tests, e, HasNotItsRows.no_byte_order)
  order_told _ flaw e = absurd cc

  missing_told : (place : Place) (flaw : Flaw) → all_there place ms ≡ Err flaw → HasNotItsRows place ms flaw
  unfolding all_there
  missing_told place flaw e = grind (arith, refused_here_or_next (rows_there ms (rows_of place)) (λ _. orders_there place ms) flaw e, row_refused (rows_of place) flaw, order_told place flaw, HasNotItsRows.missing)

-- ---- what a field type is as a whole

has_number : (name : List ℕ) (ms : Members) (n : ℕ) → IsTrue (is_number (natural_in name ms) n) ↔ HasNumber name ms n
unfolding natural_in
has_number name ms n = grind (arith, nat_tests)

eight : (ms : Members) → IsTrue (is_eight (optional (codes "alignment") ms)) ↔ ((optional (codes "alignment") ms ≡ None) ⊎ HasNumber (codes "alignment") ms 8)
unfolding as_natural
eight ms = grind (arith, nat_tests, optional_there (codes "alignment") ms)

byte : (ms : Members) → IsTrue (is_byte (Some (object ms))) ↔ IsByte ms
byte ms = grind (arith, nat_tests, class_told is_unsigned_integer places.UnsignedInteger only_unsigned (class_of ms), has_number (codes "size") ms 8, eight ms)

identifier : (ms : Members) → IsTrue (is_identifier ms) ↔ IsIdentifier ms
unfolding is_identifier
identifier ms = grind (arith, nat_tests, has_number (codes "length") ms 16, byte_object, byte)

bits_told : (d : Data) → has_bits d ≡ false → HasNoBits d
bits_told d = by_element (λ x. has_bits x ≡ false → HasNoBits x) step d
  where
    step : (d : Data) → ((ms : Members) (x : Data) → d ≡ object ms → get_member (codes "element-field-type") ms ≡ Some x → has_bits x ≡ false → HasNoBits x) → has_bits d ≡ false → HasNoBits d
    step (object ms) inner e = grind (arith, nat_tests, class_told is_static_array places.StaticArray only_static (class_of ms), has_number (codes "length") ms 0, element_bits ms, inner ms, e, HasNoBits.an_empty_array ms, HasNoBits.an_array_of_such ms)
    step _ inner e = absurd cc

no_bits_found : (d : Data) → HasNoBits d → has_bits d ≡ false
no_bits_found d (HasNoBits.an_empty_array ms class length) = grind (arith, nat_tests, has_number (codes "length") ms 0, class, length)
no_bits_found d (HasNoBits.an_array_of_such ms element class there such) = grind (arith, nat_tests, element_bits ms, class, there, no_bits_found element such)

pub shape_judged : (place : Place) (ms : Members) → IsJudged (shape_of place ms) (IsNoShapeAt place ms)
unfolding shape_of
shape_judged places.MagicFeature ms =
    test_judged (IsNoShapeAt places.MagicFeature ms) (is_number (natural_in (codes "size") ms) 32) (here OutOfRange) (λ fails. IsNoShapeAt.no_magic_number refl (λ has. false≢true (sym fails ∙ (has_number (codes "size") ms 32).1 has)))
    (λ holds flaw wrong. elim wrong as (λ f w. ⊥) [ IsNoShapeAt.no_magic_number is other ↦ other ((has_number (codes "size") ms 32).0 holds) | IsNoShapeAt.no_identifier is other ↦ absurd cc | IsNoShapeAt.no_bits is such ↦ absurd cc ])
shape_judged places.IdentifierFeature ms =
    test_judged (IsNoShapeAt places.IdentifierFeature ms) (is_identifier ms) (here OutOfRange) (λ fails. IsNoShapeAt.no_identifier refl (λ is. false≢true (sym fails ∙ (identifier ms).1 is)))
    (λ holds flaw wrong. elim wrong as (λ f w. ⊥) [ IsNoShapeAt.no_magic_number is other ↦ absurd cc | IsNoShapeAt.no_identifier is other ↦ other ((identifier ms).0 holds) | IsNoShapeAt.no_bits is such ↦ absurd cc ])
shape_judged places.DynamicElementType ms =
    test_judged (IsNoShapeAt places.DynamicElementType ms) (has_bits (object ms)) (here OutOfRange) (λ fails. IsNoShapeAt.no_bits refl (bits_told (object ms) fails))
    (λ holds flaw wrong. elim wrong as (λ f w. ⊥) [ IsNoShapeAt.no_magic_number is other ↦ absurd cc | IsNoShapeAt.no_identifier is other ↦ absurd cc | IsNoShapeAt.no_bits is such ↦ false≢true (sym (no_bits_found (object ms) such) ∙ holds) ])
shape_judged _ ms = λ flaw wrong. elim wrong as (λ f w. ⊥) [ IsNoShapeAt.no_magic_number is other ↦ absurd cc | IsNoShapeAt.no_identifier is other ↦ absurd cc | IsNoShapeAt.no_bits is such ↦ absurd cc ]

-- ---- what readings tell

pub refused_all : (P : Flaw → Type 0) (r : Result ⊤ Flaw) → ((flaw : Flaw) → r ≡ Err flaw → P flaw) → All P (told_by r)
refused_all P r told = grind (arith, All-nil, All-cons, told)

-- what a reading refuses is one of these, where it is one of those
told : (P Q : Flaw → Type 0) (r : Result ⊤ Flaw) → IsJudged r P → ((flaw : Flaw) → P flaw → Q flaw) → All Q (told_by r)
told P Q r h to = grind (arith, All-nil, All-cons, h, to)

-- a reading that refuses nothing leaves none
clear : (P : Flaw → Type 0) (r : Result ⊤ Flaw) (flaw : Flaw) → IsJudged r P → r ≡ Ok tt → ¬ P flaw
clear P r flaw h e = grind (arith, h, e)

-- what is told of a part, seen from the whole, before the rest
pub seen : (P Q : Flaw → Type 0) (see : Flaw → Flaw) (xs ys : List Flaw) → All P xs → ((flaw : Flaw) → P flaw → Q (see flaw)) → All Q ys → All Q (map see xs ++ ys)
seen P Q see xs ys h to rest = All-append Q (map see xs) ys (All-map Q see xs (All-weaker P (λ f. Q (see f)) to xs h)) rest

-- ---- what is told is a flaw

pub member_there : (all before rest : Members) (name : List ℕ) (d : Data) → Parts all before rest → HasMember name d rest → HasMember name d all
member_there all before rest name d (Parts.at_the_first) has = has
member_there all before rest name d (Parts.behind b k e r parts) has = member_there all b (member k e r) name d parts (inr has)

value_told : (k : Known) (around : Around) → Agrees k around → (content : Content) (d : Data) → All (IsFlawOf around content d) (inner_flaws k content d) → All (IsFlawOf around content d) (content_flaws k content d)
value_told k around h content d held = All-append (IsFlawOf around content d) (told_by (itself_of k content d)) _ (told (IsNoValueOf around content d) (IsFlawOf around content d) (itself_of k content d) (value_judged k around h content d) (λ f wrong. IsFlawOf.wrong_value wrong)) held

-- the flaws of a property, where those of what its value holds are such
module _ (k : Known) (around : Around) (place : Place) (all before rest : Members) (name : List ℕ) (d : Data) (parts : Parts all before (member name d rest)) where
  abbrev own : Place
  own = place_of_properties place all

  abbrev inner : Around
  inner = member_of own all before ∷ around

  abbrev IsFlawThere : Flaw → Type 0
  IsFlawThere flaw = IsFlawOf around (At place) (object all) (within (key name) flaw)

  property_told : Agrees k inner → ((content : Content) → All (IsFlawOf inner content d) (inner_flaws k content d)) → All IsFlawThere (flaws_at k own name d)
  unfolding is_left_out
  property_told h held =
      let has = member_there all before (member name d rest) name d parts (inl (refl, refl)) in
      by_found (λ (o : Option Content). All IsFlawThere (property_flaws k own name o d (inner_flaws k (unwrap_or o contents.Anything) d))) (resolved_content own name)
      (λ none. All-cons IsFlawThere (here Unknown) [] (IsFlawOf.wrong_rows (HasNotItsRows.unknown name d has (λ content is. some_none (resolved_content own name) content ((property own name content).1 is) none))) (All-nil IsFlawThere))
      (λ content is. by_test (λ (b : Bool). All IsFlawThere (cond b [] (told_by (itself_of k content d) ++ (told_by (key_of k own name d) ++ inner_flaws k content d)))) (is_left_out own name d) (λ out. All-nil IsFlawThere) (λ there.
      let stays : ¬ IsLeftOut own name d = λ out. false≢true (sym there ∙ (left (presence_under own name) d).1 out) in
      let of_value : (f : Flaw) → IsFlawOf inner content d f → IsFlawThere f = λ f wrong. IsFlawOf.in_property before name d content f (rest, parts) ((property own name content).0 is) stays wrong in
      All-append IsFlawThere (told_by (itself_of k content d)) _ (told (IsNoValueOf inner content d) IsFlawThere (itself_of k content d) (value_judged k inner h content d) (λ f wrong. of_value f (IsFlawOf.wrong_value wrong)))
      (All-append IsFlawThere (told_by (key_of k own name d)) _ (told (IsNoNameAt around own name d) IsFlawThere (key_of k own name d) (name_judged k around h.taken own name d) (λ f wrong. IsFlawOf.wrong_name name d f has wrong))
      (All-weaker (IsFlawOf inner content d) IsFlawThere of_value (inner_flaws k content d) (held content)))))

mutual
  inner_told : (d : Data) (k : Known) (around : Around) → Agrees k around → (content : Content) → All (IsFlawOf around content d) (inner_flaws k content d)
  inner_told (array ds) k around h (At place) = items_told ds k around h place ds 0 (names_beside place) (takes_beside place ds) (from_start ds)
  inner_told (object ms) k around h (At place) =
      let p = place_of_properties place ms in
      let P = IsFlawOf around (At place) (object ms) in
      All-append P (told_by (class_rule place ms)) _ (told (IsNoClassAt place ms) P (class_rule place ms) (class_judged place ms) (λ f wrong. IsFlawOf.wrong_class wrong))
      (All-append P (told_by (all_there p ms)) _ (refused_all P (all_there p ms) (λ f e. IsFlawOf.wrong_rows (missing_told ms p f e)))
      (All-append P (member_flaws (inside p ms k) p ms) _ (members_told ms (inside p ms k) around place ms no_members Parts.at_the_first (inside_agrees k around h p ms))
      (told (IsNoShapeAt place ms) P (shape_of place ms) (shape_judged place ms) (λ f wrong. IsFlawOf.wrong_shape wrong))))
  inner_told _ k around h _ = All-nil _

  items_told : (rest : Items) (k : Known) (around : Around) → Agrees k around → (place : Place) (all : Items) (i : ℕ) (taken : Members) → Takes taken place all i → IsFrom all i rest → All (IsFlawOf around (At place) (array all)) (item_flaws k place taken i rest)
  items_told no_items k around h place all i taken takes from = All-nil _
  items_told (item d rest) k around h place all i taken takes from =
      let j = with_taken taken k in
      let inner = item_of place all i ∷ around in
      let agrees = item_agrees k around taken place all i h takes in
      let is = item_here all i d rest from in
      seen (IsFlawOf inner (item_content place) d) (IsFlawOf around (At place) (array all)) (within (index i)) _ _ (value_told j inner agrees (item_content place) d (inner_told d j inner agrees (item_content place))) (λ f wrong. IsFlawOf.in_item i d f is wrong)
      (items_told rest k around h place all (suc i) (with_names d taken) (takes_further taken place all i d is takes) (from_next all i d rest from))

  members_told : (rest : Members) (k : Known) (around : Around) (place : Place) (all before : Members) → Parts all before rest → Agrees k (member_of (place_of_properties place all) all before ∷ around) → All (IsFlawOf around (At place) (object all)) (member_flaws k (place_of_properties place all) rest)
  members_told no_members k around place all before parts h = All-nil _
  members_told (member name d rest) k around place all before parts h =
      let p = place_of_properties place all in
      seen (λ flaw. IsFlawOf around (At place) (object all) (within (key name) flaw)) (IsFlawOf around (At place) (object all)) (within (key name)) _ _
      (property_told k around place all before rest name d parts h (λ content. inner_told d k (member_of p all before ∷ around) h content)) (λ f wrong. wrong)
      (members_told rest (behind p d k) around place all (member name d before) (Parts.behind before name d rest parts) (behind_agrees around all before name d p k h))

-- ---- where none is told there is none

pub parts_of : (all before rest : Members) (name : List ℕ) (d : Data) → Parts all before rest → HasMember name d rest → (b : Members) × HasBehind b name d all
parts_of all before no_members name d parts has = absurd has
parts_of all before (member n e rest) name d parts (inl (same, is)) = (before, (rest, subst (λ x. Parts all before (member x d rest)) (sym same) (subst (λ x. Parts all before (member n x rest)) (sym is) parts)))
parts_of all before (member n e rest) name d parts (inr has) = parts_of all (member n e before) rest name d (Parts.behind before n e rest parts) has

-- what is known at the place of an item, where none is told of its list
item_at : (k : Known) (place : Place) (all rest : Items) (i j : ℕ) (taken : Members) (d : Data) → Takes taken place all i → IsFrom all i rest → item_flaws k place taken i rest ≡ [] → get_item j rest ≡ Some d
    → (t : Members) × Takes t place all (j + i) × ContentSound (with_taken t k) (item_content place) d
item_at k place all no_items i j taken d takes from e is = absurd cc
item_at k place all (item x rest) i zero taken d takes from e is = (taken, subst (Takes taken place all) (omega arith) takes, let same : x ≡ d = cc in subst (ContentSound (with_taken taken k) (item_content place)) same (content_sound (with_taken taken k) (item_content place) x (first_item k place taken i x rest e).0))
item_at k place all (item x rest) i (suc j) taken d takes from e is =
    let (t, more, sound) = item_at k place all rest (suc i) j (with_names x taken) d (takes_further taken place all i x (item_here all i x rest from) takes) (from_next all i x rest from) (first_item k place taken i x rest e).1 is in
    (t, subst (Takes t place all) (omega arith) more, sound)

-- what is known at a member of an object that is sound, and that none is told of it
module _ (k : Known) (around : Around) (h : Agrees k around) (place : Place) (ms : Members) (o : ObjectSound k place ms) where
  known_at : (before rest : Members) → Parts ms before rest → (j : Known) × Agrees j (member_of (place_of_properties place ms) ms before ∷ around) × (member_flaws j (place_of_properties place ms) rest ≡ [])
  known_at before rest Parts.at_the_first = (inside (place_of_properties place ms) ms k, inside_agrees k around h (place_of_properties place ms) ms, o.members)
  known_at before rest (Parts.behind b n d r parts) =
      let p = place_of_properties place ms in
      let (j, agrees, none) = known_at b (member n d r) parts in
      (behind p d j, behind_agrees around ms b n d p j agrees, (first_flaws j p n d r none).1)

  member_at : (before : Members) (name : List ℕ) (d : Data) → HasBehind before name d ms → (j : Known) × Agrees j (member_of (place_of_properties place ms) ms before ∷ around) × (flaws_at j (place_of_properties place ms) name d ≡ [])
  member_at before name d (rest, parts) = let (j, agrees, none) = known_at before (member name d rest) parts in (j, agrees, (first_flaws j (place_of_properties place ms) name d rest none).0)

  named_at : (name : List ℕ) (d : Data) → HasMember name d ms → (j : Known) × ((n : List ℕ) → IsTrue (is_taken j.taken n) ↔ IsTaken around n) × (flaws_at j (place_of_properties place ms) name d ≡ [])
  named_at name d has = let (before, behind_these) = parts_of ms no_members ms name d Parts.at_the_first has in let (j, agrees, none) = member_at before name d behind_these in (j, agrees.taken, none)

-- a property of which none is told is known
known_there : (k : Known) (place : Place) (name : List ℕ) (d : Data) → flaws_at k place name d ≡ [] → (content : Content) × (resolved_content place name ≡ Some content)
known_there k place name d e = grind (arith, e)

none_of : (around : Around) (content : Content) (d : Data) (flaw : Flaw) → IsFlawOf around content d flaw → (k : Known) → Agrees k around → ¬ ContentSound k content d
unfolding is_left_out all_there orders_there
none_of around content d flaw (IsFlawOf.wrong_value wrong) k h sound = clear (IsNoValueOf around content d) (itself_of k content d) flaw (value_judged k around h content d) sound.itself wrong
none_of around content d flaw (IsFlawOf.wrong_class {place = place} {ms = ms} wrong) k h sound = clear (IsNoClassAt place ms) (class_rule place ms) flaw (class_judged place ms) (object_sound k place ms sound.inner).class_fits wrong
none_of around content d flaw (IsFlawOf.wrong_shape {place = place} {ms = ms} wrong) k h sound = clear (IsNoShapeAt place ms) (shape_of place ms) flaw (shape_judged place ms) (object_sound k place ms sound.inner).shape wrong
none_of around content d flaw (IsFlawOf.wrong_rows {place = place} {ms = ms} (HasNotItsRows.missing row has needed none)) k h sound =
    grind (arith, nat_tests, row_kept ms (rows_of (place_of_properties place ms)) row (both_read (rows_there ms (rows_of (place_of_properties place ms))) _ tt (object_sound k place ms sound.inner).there).1 has, needed, none)
none_of around content d flaw (IsFlawOf.wrong_rows {place = place} {ms = ms} (HasNotItsRows.no_byte_order is a b)) k h sound =
    grind (arith, nat_tests, subst (λ p. orders_there p ms ≡ Ok tt) is (both_read (rows_there ms (rows_of (place_of_properties place ms))) _ tt (object_sound k place ms sound.inner).there).2, a, b)
none_of around content d flaw (IsFlawOf.wrong_rows {place = place} {ms = ms} (HasNotItsRows.unknown name v has none)) k h sound =
    let (j, taken, empty) = named_at k around h place ms (object_sound k place ms sound.inner) name v has in
    let (c, is) = known_there j (place_of_properties place ms) name v empty in
    none c ((property (place_of_properties place ms) name c).0 is)
none_of around content d flaw (IsFlawOf.wrong_name {place = place} {ms = ms} name v f has wrong) k h sound =
    let p = place_of_properties place ms in
    let (j, taken, empty) = named_at k around h place ms (object_sound k place ms sound.inner) name v has in
    let (c, is) = known_there j p name v empty in
    clear (IsNoNameAt around p name v) (key_of j p name v) f (name_judged j around taken p name v) (property_here j p name c v is (ap (λ o. left_out o v) (no_rows p name wrong.0 wrong.1)) empty).named wrong
none_of around content d flaw (IsFlawOf.in_property {place = place} {ms = ms} before name v inner f behind_these is left_not wrong) k h sound =
    let p = place_of_properties place ms in
    let (j, agrees, empty) = member_at k around h place ms (object_sound k place ms sound.inner) before name v behind_these in
    let stays = by_test (λ (b : Bool). b ≡ false) (is_left_out p name v) (λ out. absurd (left_not ((left (presence_under p name) v).0 out))) (λ is. refl) in
    none_of (member_of p ms before ∷ around) inner v f wrong j agrees (property_here j p name inner v ((property p name inner).1 is) stays empty).value
none_of around content d flaw (IsFlawOf.in_item {place = place} {ds = ds} i v f is wrong) k h sound =
    let (t, takes, at) = item_at k place ds ds 0 i (names_beside place) v (takes_beside place ds) (from_start ds) sound.inner is in
    none_of (item_of place ds i ∷ around) (item_content place) v f wrong (with_taken t k) (item_agrees k around t place ds i h (subst (Takes t place ds) (omega arith) takes)) at

-- ---- a whole configuration

pub flaw_told : (d : Data) (flaw : Flaw) → Contains (configuration_flaws d) flaw → IsFlawOf [] (At places.Root) d flaw
flaw_told d flaw among = All-contains (IsFlawOf [] (At places.Root) d) (configuration_flaws d) flaw (value_told nothing [] nothing_agrees (At places.Root) d (inner_told d nothing [] nothing_agrees (At places.Root))) among

-- where nothing is told of a whole configuration
pub none_left : (d : Data) → configuration_flaws d ≡ [] → (flaw : Flaw) → ¬ IsFlawOf [] (At places.Root) d flaw
none_left d e flaw wrong = none_of [] (At places.Root) d flaw wrong nothing nothing_agrees (content_sound nothing (At places.Root) d e)

-- the flaw that a walk answers is one that it tells of
pub refused_among : (flaws : List Flaw) (flaw : Flaw) → refusal flaws ≡ Err flaw → Contains flaws flaw
refused_among [] flaw e = absurd cc
refused_among (f ∷ flaws) flaw e = (0, omega arith, cc)

-- what the judge of a configuration's objects answers is a flaw of it
pub refused_told : (d : Data) (flaw : Flaw) → refusal (configuration_flaws d) ≡ Err flaw → IsFlawOf [] (At places.Root) d flaw
refused_told d flaw e = flaw_told d flaw (refused_among (configuration_flaws d) flaw e)

-- a walk that refuses nothing tells of nothing
pub none_refused : (flaws : List Flaw) → refusal flaws ≡ Ok tt → flaws ≡ []
none_refused flaws e = grind (arith, e)
