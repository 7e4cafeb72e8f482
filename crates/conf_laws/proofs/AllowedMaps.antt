-- Names, texts, integers and enumerations that have no flaw and pass no limit are ones that the rules allow.
-- Lists that have an item for each entry of a map, under its name, are in byte order, and no longer than the map: environments and clock
-- types that have no flaw and pass no limit are ones that the rules allow.
use Rattle.std.proofs.Common.{◌≡◌, ℕ, ◌||◌, ◌&&◌, true, List, length, Ok, arith, ◌==◌, ◌%◌, Bool, Some, None, nat_lt, sym, ap, ◌≢◌, ℤ, pos, suc, ◌<◌, ◌≤◌, [], ◌∷◌, ◌++◌, Less, Greater, nat_cmp, refl, subst, ◌∙◌, length-append, All, Option, map, cond, lt-ltb, nat_le, int_le, codes, option_and_then, unwrap_or, negsuc}
use Rattle.conf_laws.proofs.Numbers.{range_read, some_size, natural_is_in, alignment_or, needed_natural}
use Rattle.conf_laws.proofs.Readings.{Says, proved_says, under_no_test, all_joined, same_natural, optional_found, by_found, by_test}
use Rattle.conf_laws.proofs.Sound.{object_read, HasRow, RowsSound, ContentSound, object_sound, content_sound, first_item, first_entry, held_at, needed_sound, optional_sound, rows_sound, IsWithin, AreWithin, object_within, entry_within, optional_within, all_within, fitting_parts, flaws_in, names_of, sorted_names, names_counted}
use Rattle.conf_laws.proofs.Words.{LARGEST_ALIGN, MAX_CLOCK_TYPES, MAX_CONFIG_RANGES, MAX_ENVIRONMENT, MAX_TEXT_BYTES, IsRange, is_alignment, number_or_default, presence_under, rows_of, Needed, entries_of, Place, At, WholeOrText, Whole, Text, Content, member_flaws, item_flaws, inside, behind, itself_of, form_of, Known, with_taken, key_fits, ranges_fit, key_of, key_by, names_beside, with_names, range_of, is_inside, inside_of, numbers_in, item_content, leaf_of, whole_or_text, fits, AllAbove, IsInOrder, both_read, is_passed, name_of, is_reserved, plain_name_of, is_printable, Members, Data, array, Items, no_items, item, no_members, member, object, items_len, optional, as_natural, string, members_len, nat_tests, and_parts, or_parts, leb-true, nat_list_cmp_total, tied_itself, All-from_recursion, All-weaker, slice_cmp, list_any, AllByRecursion, bytes_eq, length-map, low, high, ranges_in, labels_in, enumeration, integer, size_of, object_at, properties, LabelsInOrder, lowest, highest, IsRangeOf, IsEnumeration, unused_keywords, used_keywords, IsConfigName, IsPlainName, IsConfigText, IntType, Mapping, clock_type, clocks_in, clock_types, entry_value, entries_in, environment, natural, word, InByteOrder, IsEnvironmentValue, IsClockType, ClockType, EnvironmentEntry, integer_made as made, integer_align as align_of, default_align, counted_ranges, place_of_properties, is_position, own_place}
use Rattle.conf_laws.proofs.Words.places

pub config_name : (name : List ℕ) → name_of name ≡ Ok tt → IsConfigName name
unfolding name_of
config_name name e = grind (arith, nat_tests, e)

pub plain_name : (name : List ℕ) → plain_name_of name ≡ Ok tt → IsPlainName name
unfolding plain_name_of is_reserved
plain_name name e =
    let named_well = both_read (name_of name) _ tt e in
    let free = or_parts (list_any (bytes_eq name) unused_keywords) (list_any (bytes_eq name) used_keywords) (under_no_test (list_any (bytes_eq name) unused_keywords || list_any (bytes_eq name) used_keywords) tt tt _ named_well.2) in
    record { named = config_name name named_well.1; no_unused_keyword = free.0; no_used_keyword = free.1 }

-- a text that people read
pub config_text : (s : List ℕ) → is_printable s ≡ true → nat_le (length s) MAX_TEXT_BYTES ≡ true → IsConfigText s
config_text s e limit = record { short = leb-true (length s) MAX_TEXT_BYTES limit; printable = e }

pub record IsMade (size align : ℕ) (signed : Bool) (t : IntType) : Type 0 where
  pub size_is : t.size ≡ size
  pub align_is : t.align ≡ align
  pub sign_is : t.signed ≡ signed
  pub no_clock : t.clock ≡ None

pub integer_says : (k : Known) (place : Place) (signed : Bool) (ms : Members) → HasRow place (codes "size") Needed (Whole (pos 1) (pos 64)) → RowsSound k place ms → Says (integer signed ms) (IsMade (size_of ms) (align_of ms) signed)
unfolding integer made size_of align_of
integer_says k place signed ms size h =
    let n = needed_natural k place (codes "size") 1 64 ms size h (omega arith) in
    let is = sym (ap (λ o. unwrap_or o 0) n.1) in
    let default : is_alignment (default_align (size_of ms)) ≡ true = by_test (λ (b : Bool). is_alignment (cond b 8 1) ≡ true) (size_of ms % 8 == 0) (λ is. refl) (λ is. refl) in
    let align = and_parts (nat_lt 0 (align_of ms)) (LARGEST_ALIGN % align_of ms == 0) (alignment_or (codes "alignment") (default_align (size_of ms)) ms default) in
    let P : IntType → Type 0 = IsMade (size_of ms) (align_of ms) signed in
    proved_says P (nat_lt 0 (size_of ms)) _ (subst (λ x. nat_lt 0 x ≡ true) is (lt-ltb 0 n.0 (let a = leb-true 1 n.0 n.2 in omega arith)))
    (λ _. proved_says P (nat_le (size_of ms) 64) _ (subst (λ x. nat_le x 64 ≡ true) is n.3) (λ _. proved_says P (nat_lt 0 (align_of ms)) _ align.0 (λ _. proved_says P (LARGEST_ALIGN % align_of ms == 0) _ align.1 (λ _. (_, refl, record { size_is = refl; align_is = refl; sign_is = refl; no_clock = refl })))))

-- ---- one range

range_is : (d : Data) (x y : ℤ) → IsRange d x y → (x ≡ low d) × (y ≡ high d)
range_is d x y is = grind (arith, is)

-- from low to high, not empty and inside the numbers that are known
abbrev pub is_known : Known → ℤ → ℤ → Bool
is_known k low high = int_le low high && int_le k.numbers.low low && int_le high k.numbers.high

range_inside : (k : Known) (d : Data) → inside_of k.numbers d ≡ Ok tt → is_known k (low d) (high d) ≡ true
unfolding inside_of is_inside
range_inside k d e =
    let (range, read, passed) = both_read (range_of d) _ tt e in grind (arith, nat_tests, range_is d range.low range.high (range_read d range read).0, passed)

-- a range inside these numbers, under a label that people read
pub record IsGoodMapping (k : Known) (m : Mapping) : Type 0 where
  pub inside : is_known k m.low m.high ≡ true
  pub text : IsConfigText m.label

ranges_good : (k : Known) (label : List ℕ) (taken : Members) (i : ℕ) (ds : Items) → IsConfigText label → item_flaws k places.Ranges taken i ds ≡ [] → AllByRecursion (IsGoodMapping k) (ranges_in label ds)
unfolding item_content itself_of form_of
ranges_good k label taken i no_items text f = tt
ranges_good k label taken i (item d ds) text f =
    let first = first_item k places.Ranges taken i d ds f in
    (record { inside = range_inside (with_taken taken k) d (content_sound (with_taken taken k) (item_content places.Ranges) d first.0).itself; text = text }, ranges_good k label (with_names d taken) (suc i) ds text first.1)

-- ---- the labels

labels_good : (k : Known) (labels : Members) → member_flaws k places.Mappings labels ≡ [] → AreWithin places.Mappings labels → AllByRecursion (IsGoodMapping k) (labels_in labels)
unfolding key_of key_by key_fits entries_of behind
labels_good k no_members f h = tt
labels_good k (member label (array ds) ms) f h =
    let sound = first_entry k places.Mappings label (At places.Ranges) (array ds) ms (_, refl, refl, refl) f in
    let within = entry_within places.Mappings (At places.Ranges) (_, refl, refl, refl) label (array ds) ms h in
    all_joined (IsGoodMapping k) (ranges_in label ds) (labels_in ms) (ranges_good k label (names_beside places.Ranges) 0 ds (config_text label (is_passed _ tt tt _ sound.0.named).0 within.1) sound.0.value.inner) (labels_good k ms sound.1 within.2)
labels_good k (member label d ms) f h = labels_good k ms (first_entry k places.Mappings label (At places.Ranges) d ms (_, refl, refl, refl) f).1 (entry_within places.Mappings (At places.Ranges) (_, refl, refl, refl) label d ms h).2

-- ---- how many there are

some_range : (k : Known) (labels : Members) → itself_of k (At places.Mappings) (object labels) ≡ Ok tt → member_flaws k places.Mappings labels ≡ [] → 0 < length (labels_in labels)
unfolding itself_of form_of entries_of
some_range k no_members some f = absurd cc
some_range k (member label (array (item d ds)) ms) some f = omega arith
some_range k (member label d ms) some f = absurd (let e = (first_entry k places.Mappings label (At places.Ranges) d ms (_, refl, refl, refl) f).0.value.itself in cc)

ranges_counted : (label : List ℕ) (ds : Items) → length (ranges_in label ds) ≡ items_len ds
ranges_counted label no_items = refl
ranges_counted label (item d ds) = ap suc (ranges_counted label ds)

pub labels_few : (labels : Members) → length (labels_in labels) ≤ counted_ranges labels
labels_few no_members = omega arith
labels_few (member label (array ds) ms) = omega (arith, labels_few ms, ranges_counted label ds, length-append (ranges_in label ds) (labels_in ms))
labels_few (member label d ms) = omega (arith, labels_few ms)

-- ---- the order of labels

abbrev NotAbove : List ℕ → List ℕ → Type 0
NotAbove a b = slice_cmp nat_cmp a b ≢ Greater

-- this label is above none of them
abbrev NoneBelow : List ℕ → List Mapping → Type 0
NoneBelow label ms = AllByRecursion (λ m. NotAbove label m.label) ms

ranges_below : (k label : List ℕ) (ds : Items) → slice_cmp nat_cmp k label ≡ Less → NoneBelow k (ranges_in label ds)
ranges_below k label no_items below = tt
ranges_below k label (item d ds) below = (λ g. cc, ranges_below k label ds below)

labels_below : (k : List ℕ) (labels : Members) → AllAbove k labels → NoneBelow k (labels_in labels)
labels_below k no_members above = tt
labels_below k (member label (array ds) ms) above = all_joined (λ m. NotAbove k m.label) (ranges_in label ds) (labels_in ms) (ranges_below k label ds above.0) (labels_below k ms above.1)
labels_below k (member label d ms) above = labels_below k ms above.1

-- the ranges of a label before those of the labels that are not below it
ranges_in_order : (label : List ℕ) (ds : Items) (rest : List Mapping) → NoneBelow label rest → LabelsInOrder rest → LabelsInOrder (ranges_in label ds ++ rest)
unfolding LabelsInOrder
ranges_in_order label no_items rest below h = h
ranges_in_order label (item d no_items) [] below h = tt
ranges_in_order label (item d no_items) (b ∷ rest) below h = (below.0, h)
ranges_in_order label (item d (item e ds)) rest below h = (λ g. let same = tied_itself nat_list_cmp_total label in cc, ranges_in_order label (item e ds) rest below h)

pub labels_in_order : (labels : Members) → IsInOrder labels → LabelsInOrder (labels_in labels)
unfolding LabelsInOrder
labels_in_order no_members order = tt
labels_in_order (member label (array ds) ms) order = ranges_in_order label ds (labels_in ms) (labels_below label ms order.0) (labels_in_order ms order.1)
labels_in_order (member label d ms) order = labels_in_order ms order.1

-- labels that have no flaw and pass no limit, one at least
record AreMappings (k : Known) (ms : List Mapping) : Type 0 where
  each : All (IsGoodMapping k) ms
  in_order : LabelsInOrder ms
  some : 0 < length ms
  few : length ms ≤ MAX_CONFIG_RANGES

mappings_good : (k : Known) (labels : Members) → ContentSound k (At places.Mappings) (object labels) → IsWithin (At places.Mappings) (object labels) → AreMappings k (labels_in labels)
unfolding ranges_fit inside place_of_properties is_position own_place
mappings_good k labels h within =
    let flaws = (rows_sound k places.Mappings places.Mappings labels refl (object_sound k places.Mappings labels h.inner)).flaws in
    let all = object_within places.Mappings places.Mappings labels refl within in
    let few = leb-true (counted_ranges labels) MAX_CONFIG_RANGES (fitting_parts places.Mappings (object labels) within.fitting).2 in
    record { each = All-from_recursion (IsGoodMapping k) (labels_in labels) (labels_good k labels flaws all); in_order = labels_in_order labels all.in_order; some = some_range k labels h.itself flaws; few = omega (arith, few, labels_few labels) }

-- ---- the numbers of the integer

abbrev AreNumbersOf : Known → IntType → Type 0
AreNumbersOf k t = (k.numbers.low ≡ lowest t.signed t.size) × (k.numbers.high ≡ highest t.signed t.size)

numbers_are : (k : Known) (signed : Bool) (ms : Members) (t : IntType) → k.numbers ≡ numbers_in signed ms → IsMade (size_of ms) (align_of ms) signed t → AreNumbersOf k t
unfolding size_of numbers_in
numbers_are k signed ms t known says = grind (arith, same_natural (codes "size") ms, some_size signed t.size t.not_empty t.at_most_64, t.not_empty, known, says)

-- a range inside the numbers of an integer of this size and sign
range_in : (k : Known) (t : IntType) (m : Mapping) → AreNumbersOf k t → IsGoodMapping k m → IsRangeOf t m
range_in k t m is h = grind (arith, nat_tests, is, h)

-- ---- the whole

pub enumeration_says : (k : Known) (place : Place) (signed : Bool) (ms : Members) → HasRow place (codes "size") Needed (Whole (pos 1) (pos 64)) → HasRow place (codes "mappings") Needed (At places.Mappings) → k.numbers ≡ numbers_in signed ms → RowsSound k place ms
    → Says (enumeration signed ms) (λ t. AreWithin place ms → IsEnumeration t)
unfolding enumeration properties object_at itself_of form_of
enumeration_says k place signed ms size mappings known h =
    let int = integer_says k place signed ms size h in
    let (d, there, sound) = needed_sound k place (codes "mappings") (At places.Mappings) ms mappings h in
    let labels = object_read d _ sound.value.itself in
    let found = optional_found (codes "mappings") ms (object labels.0) (there ∙ ap Some labels.1) refl in
    let good : AreWithin place ms → IsEnumeration (record { int = int.0; mappings = labels_in labels.0 }) = λ within.
    let all = mappings_good k labels.0 (subst (λ x. ContentSound k (At places.Mappings) x) labels.1 sound.value) (optional_within place (codes "mappings") (At places.Mappings) mappings ms (object labels.0) within found) in record {
      no_clock = int.2.no_clock;
      ranges = All-weaker (IsGoodMapping k) (IsRangeOf int.0) (λ m. range_in k int.0 m (numbers_are k signed ms int.0 known int.2)) (labels_in labels.0) all.each;
      labels = All-weaker (IsGoodMapping k) (λ m. IsConfigText m.label) (λ m h. h.text) (labels_in labels.0) all.each;
      in_order = all.in_order;
      some = all.some;
      few = all.few;
    } in
    (record { int = int.0; mappings = labels_in labels.0 }, rw (int.1, found) refl, good)

-- items that are good, in byte order of their names, and no more than `most`
pub record AreAllowed {A : Type 0} (named : A → List ℕ) (good : A → Type 0) (most : ℕ) (xs : List A) : Type 0 where
  pub each : All good xs
  pub in_order : InByteOrder (map named xs)
  pub few : length xs ≤ most

-- good items under these names
pub record AreUnder {A : Type 0} (named : A → List ℕ) (good : A → Type 0) (names : List (List ℕ)) (xs : List A) : Type 0 where
  pub names_are : map named xs ≡ names
  pub items : AllByRecursion good xs

pub none_under : {A : Type 0} (named : A → List ℕ) (good : A → Type 0) → AreUnder named good [] []
none_under named good = record { names_are = refl; items = tt }

pub one_under : {A : Type 0} (named : A → List ℕ) (good : A → Type 0) (name : List ℕ) (names : List (List ℕ)) (x : A) (xs : List A) → named x ≡ name → good x → AreUnder named good names xs → AreUnder named good (name ∷ names) (x ∷ xs)
one_under named good name names x xs is one h = record { names_are = ap (λ n. n ∷ map named xs) is ∙ ap (λ ns. name ∷ ns) h.names_are; items = (one, h.items) }

pub map_allowed : {A : Type 0} (named : A → List ℕ) (good : A → Type 0) (most : ℕ) (ms : Members) (xs : List A) → IsInOrder ms → nat_le (members_len ms) most ≡ true → AreUnder named good (names_of ms) xs → AreAllowed named good most xs
map_allowed named good most ms xs order few h =
    let short = leb-true (members_len ms) most few in
    let counted : length xs ≡ members_len ms = sym (length-map xs named) ∙ ap length h.names_are ∙ names_counted ms in
    record { each = All-from_recursion good xs h.items; in_order = subst InByteOrder (sym h.names_are) (sorted_names ms order); few = omega (arith, short, counted) }

abbrev entry_content : Content
entry_content = WholeOrText (negsuc 9223372036854775807) (pos 9223372036854775807) MAX_TEXT_BYTES

value_allowed : (k : Known) (d : Data) → ContentSound k entry_content d → IsWithin entry_content d → IsEnvironmentValue (entry_value d)
unfolding itself_of leaf_of whole_or_text fits
value_allowed k (string s) h within = config_text s (is_passed _ tt tt _ h.itself).0 within.fitting
value_allowed k _ h within = tt

abbrev entry_name : EnvironmentEntry → List ℕ
entry_name e = e.name

abbrev pub IsEntry : EnvironmentEntry → Type 0
IsEntry e = IsPlainName e.name × IsEnvironmentValue e.value

entries_under : (k : Known) (ms : Members) → member_flaws k places.Environment ms ≡ [] → AreWithin places.Environment ms → AreUnder entry_name IsEntry (names_of ms) (entries_in ms)
unfolding key_of key_by entries_of behind
entries_under k no_members f h = none_under entry_name IsEntry
entries_under k (member name d ms) f h =
    let sound = first_entry k places.Environment name entry_content d ms (_, refl, refl, refl) f in
    let within = entry_within places.Environment entry_content (_, refl, refl, refl) name d ms h in
    one_under entry_name IsEntry name (names_of ms) (record { name = name; value = entry_value d }) (entries_in ms) refl (plain_name name sound.0.named, value_allowed k d sound.0.value within.0) (entries_under k ms sound.1 within.2)

abbrev pub IsEnvironment : List EnvironmentEntry → Type 0
IsEnvironment es = AreAllowed entry_name IsEntry MAX_ENVIRONMENT es

pub environment_allowed : (k : Known) (ms : Members) → member_flaws k places.Trace ms ≡ [] → AreWithin places.Trace ms → IsEnvironment (environment ms)
unfolding environment entries_of rows_of inside itself_of form_of place_of_properties is_position own_place
environment_allowed k ms f h =
    let all = all_within places.Trace (codes "environment") (refl, refl) (λ j d own. (refl, refl)) ms h in
    map_allowed entry_name IsEntry MAX_ENVIRONMENT _ _ all.0.in_order all.1 (entries_under k _ (flaws_in k places.Trace (codes "environment") (refl, refl) (λ j d own. (refl, refl), λ j own. refl) ms f) all.0)

-- ---- one clock type

description_allowed : (k : Known) (ms : Members) (s : List ℕ) → member_flaws k places.ClockType ms ≡ [] → AreWithin places.ClockType ms → word (codes "description") ms ≡ Some s → IsConfigText s
unfolding itself_of leaf_of fits word rows_of
description_allowed k ms s f h e =
    let there : optional (codes "description") ms ≡ Some (string s) = grind (arith, e) in
    config_text s (is_passed _ tt tt _ (optional_sound k places.ClockType (codes "description") (Text MAX_TEXT_BYTES) ms (string s) (refl, refl) f there).value.itself).0 (optional_within places.ClockType (codes "description") (Text MAX_TEXT_BYTES) (refl, refl) ms (string s) h there).fitting

frequency_positive : (k : Known) (ms : Members) → member_flaws k places.ClockType ms ≡ [] → 0 < number_or_default places.ClockType (codes "frequency") ms
unfolding itself_of leaf_of natural presence_under rows_of
frequency_positive k ms f =
    by_found (λ (o : Option Data). 0 < unwrap_or (option_and_then as_natural o) 1000000000) (optional (codes "frequency") ms) (λ e. omega arith)
    (λ d is. grind (arith, natural_is_in 1 18446744073709551615 d, (optional_sound k places.ClockType (codes "frequency") (Whole (pos 1) (pos 18446744073709551615)) ms d (refl, refl) f is).value.itself))

-- ---- all of them

abbrev clock_name : ClockType → List ℕ
clock_name c = c.name

clocks_under : (k : Known) (ms : Members) → member_flaws k places.ClockTypes ms ≡ [] → AreWithin places.ClockTypes ms → AreUnder clock_name IsClockType (names_of ms) (clocks_in ms)
unfolding key_of key_by entries_of clock_type behind inside itself_of form_of place_of_properties is_position own_place
clocks_under k no_members f h = none_under clock_name IsClockType
clocks_under k (member name d ms) f h =
    let sound = first_entry k places.ClockTypes name (At places.ClockType) d ms (_, refl, refl, refl) f in
    let within = entry_within places.ClockTypes (At places.ClockType) (_, refl, refl, refl) name d ms h in
    let (inner, same, rows) = held_at k places.ClockType d (λ j x ms. (refl, refl)) sound.0.value in
    let good = object_within places.ClockType places.ClockType inner refl (subst (λ x. IsWithin (At places.ClockType) x) same within.0) in
    let one : IsClockType (clock_type name inner) = record { name = plain_name name sound.0.named; description = λ text is. description_allowed k inner text rows.flaws good is; frequency = frequency_positive k inner rows.flaws } in
    subst (λ x. AreUnder clock_name IsClockType (name ∷ names_of ms) (clocks_in (member name x ms))) (sym same)
    (one_under clock_name IsClockType name (names_of ms) (clock_type name inner) (clocks_in ms) refl one (clocks_under k ms sound.1 within.2))

abbrev pub AreClocks : List ClockType → Type 0
AreClocks cs = AreAllowed clock_name IsClockType MAX_CLOCK_TYPES cs

pub clocks_allowed : (k : Known) (ms : Members) → member_flaws k places.TraceType ms ≡ [] → AreWithin places.TraceType ms → AreClocks (clock_types ms)
unfolding clock_types entries_of rows_of inside itself_of form_of place_of_properties is_position own_place
clocks_allowed k ms f h =
    let all = all_within places.TraceType (codes "clock-types") (refl, refl) (λ j d own. (refl, refl)) ms h in
    map_allowed clock_name IsClockType MAX_CLOCK_TYPES _ _ all.0.in_order all.1 (clocks_under k _ (flaws_in k places.TraceType (codes "clock-types") (refl, refl) (λ j d own. (refl, refl), λ j own. refl) ms f) all.0)
