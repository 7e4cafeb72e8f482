-- Each limit that the walk over a configuration tells of is one that it passes by the table.
use Rattle.std.proofs.Common.{◌≡◌, ◌⊎◌, ◌↔◌, ◌*◌, ◌≤◌, ◌<◌, ℕ, zero, suc, Bool, true, false, cond, List, [], ◌∷◌, length, Option, Some, None, inl, inr, refl, sym, ap, subst, ◌∙◌, arith, ◌&&◌, Contains, is_some, Err, codes, unwrap_or, nat_le, nat_eq}
use Rattle.conf_laws.proofs.Agreement.{IsFrom, from_start, from_next, item_here}
use Rattle.conf_laws.proofs.Readings.{some_same, at_member, class_told, only_static, of_element, in_array, by_found, by_test}
use Rattle.conf_laws.proofs.Sound.{fits_there, limits_at, first_limits, first_item_limits}
use Rattle.conf_laws.proofs.TableFlawLaws.{seen, refused_among}
use Rattle.conf_laws.proofs.ValueFlawLaws.{none_there}
use Rattle.conf_laws.proofs.Words.{MAX_ARRAYS, MAX_ELEMENTS, MAX_LABEL_BYTES, All-weaker, All-append, All, HasMember, get_item, IsArray, HasElement, Nest, product, HasTooManyElements, PassesAt, IsLongText, IsLargeNumber, PassesBy, PassesLimitOf, entries_of, content_under, Place, Content, Entries, class_of, told_by, times, at_least_one, elements, elements_in_array, within_limit, bytes_fit, power_fits, is_outermost, arrays_fit, count_of, at_most, ranges_fit, place_fits, fits, key_fits, inner_limits, item_limits, member_limits, configuration_limits, content_limits, natural_in, place_of_properties, item_content, is_static_array, Flaw, key, index, here, within, refusal, Limit, Data, object, Members, array, Items, no_items, item, no_members, member, get_member, nat_tests, mul-one, one-le-mul, leb-true, leb-false, true≢false, and_cases, All-nil, All-cons, All-contains, mul-le, option_map_or}
use Rattle.conf_laws.proofs.Words.places
use Rattle.conf_laws.proofs.Words.contents
use Rattle.conf_laws.proofs.Words.keys

-- ---- static arrays in one another

-- each array counts as one at least
some_count : (o : Option ℕ) → (n : ℕ) × (at_least_one o ≡ Some n) × (1 ≤ n)
some_count None = (1, refl, omega arith)
some_count (Some n) = (cond (nat_eq n 0) 1 n, refl, grind (arith, nat_tests))

-- these stand in one another, with so many elements in all, and no more do
record Counted (levels : ℕ) (d : Data) (m : ℕ) : Type 0 where
  nest : (ns : List ℕ) × Nest d ns × (product ns ≡ m)
  some : 1 ≤ m
  most : (e : Data) (ns : List ℕ) → Nest e ns → e ≡ d → (product ns ≤ m) × (length ns ≤ levels)
  few : (ms : Members) (element : Data) → d ≡ object ms → HasElement ms element → m ≤ MAX_ELEMENTS

-- what is not counted is too deep, or too many
abbrev Measured : ℕ → Data → Option ℕ → Type 0
Measured levels d None = ((ns : List ℕ) × Nest d ns × (levels < length ns)) ⊎ ((ms : Members) × (element : Data) × (ns : List ℕ) × (d ≡ object ms) × HasElement ms element × Nest d ns × (MAX_ELEMENTS < product ns))
Measured levels d (Some m) = Counted levels d m

single : (levels : ℕ) (d : Data) → ((ms : Members) (n : ℕ) → d ≡ object ms → ¬ IsArray ms n) → Counted levels d 1
single levels d none = record { nest = ([], Nest.none d, refl); some = omega arith; most = most; few = λ ms element is has. omega arith }
  where
    most : (e : Data) (ns : List ℕ) → Nest e ns → e ≡ d → (product ns ≤ 1) × (length ns ≤ levels)
    most e ns nest same = grind (arith, none, nest, same)

no_array : (ms ns : Members) (n : ℕ) → option_map_or is_static_array (class_of ms) false ≡ false → object ms ≡ object ns → ¬ IsArray ns n
no_array ms ns n fails same is = let members : ms ≡ ns = cc in true≢false (sym (ap (λ o. option_map_or is_static_array o false) is.0) ∙ ap (λ x. option_map_or is_static_array (class_of x) false) (sym members) ∙ fails)

-- an array of so many
module _ (ms : Members) (n : ℕ) (is_one : IsArray ms n) (some : 1 ≤ n) (levels : ℕ) where
  same_count : (ns : Members) (m : ℕ) → IsArray ns m → object ns ≡ object ms → m ≡ n
  same_count ns m is same = let members : ns ≡ ms = cc in some_same (at_least_one (natural_in (codes "length") ms)) m n (ap (λ x. at_least_one (natural_in (codes "length") x)) (sym members) ∙ is.1) is_one.1

  alone : get_member (codes "element-field-type") ms ≡ None → Counted (suc levels) (object ms) n
  alone none = record { nest = (n ∷ [], Nest.innermost ms n is_one, mul-one n); some = some; most = most; few = λ ns element same has. absurd (let members : ms ≡ ns = cc in cc) }
    where
      most : (e : Data) (ns : List ℕ) → Nest e ns → e ≡ object ms → (product ns ≤ n) × (length ns ≤ suc levels)
      most e ns nest same = grind (arith, some, none, mul-one, same_count, nest, same)

  around : (element : Data) (k : ℕ) → HasElement ms element → Counted levels element k → n * k ≤ MAX_ELEMENTS → Counted (suc levels) (object ms) (n * k)
  around element k has inner fits = record { nest = (n ∷ inner.nest.0, Nest.around_others ms n element inner.nest.0 is_one has inner.nest.1, ap (λ x. n * x) inner.nest.2); some = one-le-mul some inner.some; most = most; few = λ ns e same there. fits }
    where
      most : (e : Data) (ns : List ℕ) → Nest e ns → e ≡ object ms → (product ns ≤ n * k) × (length ns ≤ suc levels)
      most e ns (Nest.none x) same = (one-le-mul some inner.some, omega arith)
      most e ns (Nest.innermost os m is) same = (mul-le m 1 n k (let count = same_count os m is same in omega (arith, count)) inner.some, omega arith)
      most e ns (Nest.around_others os m x rest is there nest) same =
          let members : os ≡ ms = cc in
          let within = inner.most x rest nest (some_same (get_member (codes "element-field-type") ms) x element (subst (λ y. HasElement y x) members there) has) in
          let short = within.1 in
          (mul-le m (product rest) n k (let count = same_count os m is same in omega (arith, count)) within.0, omega (arith, short))

array_measured : (levels : ℕ) (ms : Members) (n : ℕ) → IsArray ms n → 1 ≤ n → ((d : Data) → Measured levels d (elements levels d)) → (o : Option Data) → get_member (codes "element-field-type") ms ≡ o → Measured (suc levels) (object ms) (of_element levels (Some n) o)
array_measured levels ms n is_one some inner None has = alone ms n is_one some levels has
array_measured levels ms n is_one some inner (Some element) has = go (elements levels element) (inner element)
  where
    go : (o : Option ℕ) → Measured levels element o → Measured (suc levels) (object ms) (times (Some n) o)
    go None (inl (ns, nest, deep)) = inl (n ∷ ns, Nest.around_others ms n element ns is_one has nest, omega (arith, deep))
    go None (inr (os, other, ns, same, has_too, nest, many)) = let more : 1 * product ns ≤ n * product ns = mul-le 1 (product ns) n (product ns) some (omega arith) in inr (ms, element, n ∷ ns, refl, has, Nest.around_others ms n element ns is_one has nest, omega (arith, many, more))
    go (Some k) counted =
        by_test (λ (b : Bool). Measured (suc levels) (object ms) (cond b (Some (n * k)) None)) (nat_le (n * k) MAX_ELEMENTS) (λ fits. around ms n is_one some levels element k has counted (leb-true (n * k) MAX_ELEMENTS fits))
        (λ large. inr (ms, element, n ∷ counted.nest.0, refl, has, Nest.around_others ms n element counted.nest.0 is_one has counted.nest.1, subst (λ x. MAX_ELEMENTS < n * x) (sym counted.nest.2) (leb-false (n * k) MAX_ELEMENTS large)))

measured : (levels : ℕ) (d : Data) → Measured levels d (elements levels d)
measured zero (object ms) =
    by_test (λ (b : Bool). Measured 0 (object ms) (cond b None (Some 1))) (option_map_or is_static_array (class_of ms) false)
    (λ is. let some = some_count (natural_in (codes "length") ms) in inl (some.0 ∷ [], Nest.innermost ms some.0 (class_told is_static_array places.StaticArray only_static (class_of ms) is, some.1), omega arith)) (λ is. single 0 (object ms) (λ ns n. no_array ms ns n is))
measured (suc levels) (object ms) =
    let count = at_least_one (natural_in (codes "length") ms) in
    by_test (λ (b : Bool). Measured (suc levels) (object ms) (cond b (elements_in_array levels count ms) (Some 1))) (option_map_or is_static_array (class_of ms) false) (λ is.
    let some = some_count (natural_in (codes "length") ms) in
    subst (Measured (suc levels) (object ms)) (sym (in_array levels count ms ∙ ap (λ c. of_element levels c (get_member (codes "element-field-type") ms)) some.1))
    (array_measured levels ms some.0 (class_told is_static_array places.StaticArray only_static (class_of ms) is, some.1) some.2 (measured levels) _ refl)) (λ is. single (suc levels) (object ms) (λ ns n. no_array ms ns n is))
measured levels d = single levels d (λ ms n is. absurd cc)

elements_told : (d : Data) → elements MAX_ARRAYS d ≡ None → HasTooManyElements d
elements_told d e = elim (subst (Measured MAX_ARRAYS d) e (measured MAX_ARRAYS d)) [
  | inl (ns, nest, deep) ↦ HasTooManyElements.too_deep ns nest deep
  | inr (ms, element, ns, is, has, nest, many) ↦ HasTooManyElements.too_many ms element ns is has nest many
]

counted_few : (d : Data) (m : ℕ) → Counted MAX_ARRAYS d m → ¬ HasTooManyElements d
counted_few d m counted many = grind (arith, counted, many)

-- ---- a value by itself

long_fails : (most : ℕ) (d : Data) → (bytes_fit most d ≡ false) ↔ IsLongText most d
long_fails most d = grind (arith, nat_tests)

power_fails : (high : ℕ) (d : Data) → (power_fits high d ≡ false) ↔ IsLargeNumber high d
unfolding power_fits
power_fails high d = grind (arith, nat_tests)

module _ (place : Place) (d : Data) where
  entries_told : at_most (entries_of place) (count_of d) ≡ false → PassesAt place d
  entries_told e =
      by_found (λ (o : Option Entries). at_most o (count_of d) ≡ false → PassesAt place d) (entries_of place) (λ is f. absurd cc) (λ entries is.
      by_found (λ (o : Option ℕ). option_map_or (nat_le (count_of d)) o true ≡ false → PassesAt place d) entries.most
      (λ most f. absurd cc) (λ n most f. PassesAt.too_many_entries entries n is most (leb-false (count_of d) n f))) e

  arrays_told : arrays_fit place d ≡ false → PassesAt place d
  unfolding arrays_fit
  arrays_told e =
      by_test (λ (b : Bool). cond b (is_some (elements MAX_ARRAYS d)) true ≡ false → PassesAt place d) (is_outermost place) (λ is f. PassesAt.too_many_elements is (elements_told d (none_there (elements MAX_ARRAYS d) f))) (λ is f. absurd cc) e

ranges_told : (place : Place) (d : Data) → ranges_fit place d ≡ false → PassesAt place d
unfolding ranges_fit
ranges_told place d e = grind (arith, nat_tests, e)

at_told : (place : Place) (d : Data) → place_fits place d ≡ false → PassesAt place d
unfolding place_fits
at_told place d e = elim (and_cases (arrays_fit place d) (at_most (entries_of place) (count_of d) && ranges_fit place d) e) [
  | inl arrays ↦ arrays_told place d arrays
  | inr rest ↦ elim (and_cases (at_most (entries_of place) (count_of d)) (ranges_fit place d) rest) [ inl entries ↦ entries_told place d entries | inr ranges ↦ ranges_told place d ranges ]
]

at_fails : (place : Place) (d : Data) → PassesAt place d → place_fits place d ≡ false
unfolding place_fits ranges_fit arrays_fit
at_fails place d (PassesAt.too_many_entries entries most is number_is more) = grind (arith, nat_tests, is, number_is, more)
at_fails place d (PassesAt.too_many_ranges is more) = grind (arith, nat_tests, is, more)
at_fails place d (PassesAt.too_many_elements outermost many) = grind (arith, nat_tests, outermost, by_found (λ (o : Option ℕ). Measured MAX_ARRAYS d o → is_some o ≡ false) (elements MAX_ARRAYS d) (λ none m. refl) (λ m some counted. absurd (counted_few d m counted many)) (measured MAX_ARRAYS d))

pub by_fails : (content : Content) (d : Data) → (fits content d ≡ false) ↔ PassesBy content d
unfolding fits
by_fails (contents.Text most) d = long_fails most d
by_fails (contents.WholeOrText low high most) d = long_fails most d
by_fails (contents.PowerOfTwo high) d = power_fails high d
by_fails (contents.At place) d = (at_told place d, at_fails place d)
by_fails _ d = (λ e. absurd cc, λ passed. absurd passed)

-- ---- labels

abbrev pub IsLongLabel : Place → List ℕ → Type 0
IsLongLabel place name = (entries : Entries) × (entries_of place ≡ Some entries) × (entries.keys ≡ keys.Label) × (MAX_LABEL_BYTES < length name)

pub label_fails : (place : Place) (name : List ℕ) → (key_fits place name ≡ false) ↔ IsLongLabel place name
unfolding key_fits
label_fails place name = grind (arith, nat_tests)

-- ---- each limit that is told of

-- what fails a test is a limit that is passed
limited : (P : Flaw → Type 0) (b : Bool) → (b ≡ false → P (here Limit)) → All P (told_by (within_limit b))
limited P b fails = grind (arith, All-nil, All-cons, fails)

value_told : (content : Content) (d : Data) → All (PassesLimitOf content d) (inner_limits content d) → All (PassesLimitOf content d) (content_limits content d)
value_told content d held = All-append (PassesLimitOf content d) (told_by (within_limit (fits content d))) _ (limited (PassesLimitOf content d) (fits content d) (λ fails. PassesLimitOf.too_large ((by_fails content d).0 fails))) held

-- nothing is asked of what is unknown
pub unknown_fits : (d : Data) → content_limits contents.Anything d ≡ []
unfolding fits
unknown_fits (object ms) = refl
unknown_fits _ = refl

property_told : (place : Place) (all : Members) (name : List ℕ) (d : Data) → HasMember name d all → ((content : Content) → All (PassesLimitOf content d) (inner_limits content d))
    → All (λ flaw. PassesLimitOf (contents.At place) (object all) (within (key name) flaw)) (limits_at (place_of_properties place all) name d)
property_told place all name d has held =
    let p = place_of_properties place all in
    let P : Flaw → Type 0 = λ flaw. PassesLimitOf (contents.At place) (object all) (within (key name) flaw) in
    All-append P (told_by (within_limit (key_fits p name))) _ (limited P (key_fits p name) (λ fails. let (entries, is, label, long) = (label_fails p name).0 fails in PassesLimitOf.long_label name d entries has is label long))
    (by_found (λ (o : Option Content). All P (content_limits (unwrap_or o contents.Anything) d)) (content_under p name) (λ none. subst (All P) (sym (unknown_fits d)) (All-nil P))
    (λ content is. All-weaker (PassesLimitOf content d) P (λ f passed. PassesLimitOf.in_property name d content f has is passed) (content_limits content d) (value_told content d (held content))))

mutual
  inner_told : (d : Data) (content : Content) → All (PassesLimitOf content d) (inner_limits content d)
  inner_told (array ds) (contents.At place) = items_told ds place ds 0 (from_start ds)
  inner_told (object ms) (contents.At place) = members_told ms place ms (λ name d has. has)
  inner_told _ _ = All-nil _

  items_told : (rest : Items) (place : Place) (all : Items) (i : ℕ) → IsFrom all i rest → All (PassesLimitOf (contents.At place) (array all)) (item_limits place i rest)
  items_told no_items place all i from = All-nil _
  items_told (item d rest) place all i from =
      seen (PassesLimitOf (item_content place) d) (PassesLimitOf (contents.At place) (array all)) (within (index i)) _ _ (value_told (item_content place) d (inner_told d (item_content place)))
      (λ f passed. PassesLimitOf.in_item i d f (item_here all i d rest from) passed) (items_told rest place all (suc i) (from_next all i d rest from))

  members_told : (rest : Members) (place : Place) (all : Members) → ((name : List ℕ) (d : Data) → HasMember name d rest → HasMember name d all) → All (PassesLimitOf (contents.At place) (object all)) (member_limits (place_of_properties place all) rest)
  members_told no_members place all there = All-nil _
  members_told (member name d rest) place all there =
      seen (λ flaw. PassesLimitOf (contents.At place) (object all) (within (key name) flaw)) (PassesLimitOf (contents.At place) (object all)) (within (key name)) _ _
      (property_told place all name d (there name d (inl (refl, refl))) (inner_told d)) (λ f passed. passed) (members_told rest place all (λ n x has. there n x (inr has)))

-- ---- where none is told of there is none

item_fits : (place : Place) (rest : Items) (i j : ℕ) (d : Data) → item_limits place i rest ≡ [] → get_item j rest ≡ Some d → content_limits (item_content place) d ≡ []
item_fits place no_items i j d e is = absurd cc
item_fits place (item x rest) i zero d e is = let same : x ≡ d = cc in subst (λ y. content_limits (item_content place) y ≡ []) same (first_item_limits place i x rest e).0
item_fits place (item x rest) i (suc j) d e is = item_fits place rest (suc i) j d (first_item_limits place i x rest e).1 is

member_fits : (place : Place) (ms : Members) (name : List ℕ) (d : Data) → member_limits place ms ≡ [] → HasMember name d ms → limits_at place name d ≡ []
member_fits place ms name d e has = at_member (λ xs. member_limits place xs ≡ []) (λ n x. limits_at place n x ≡ []) (first_limits place) name ms d e has

none_of : (content : Content) (d : Data) (flaw : Flaw) → PassesLimitOf content d flaw → ¬ (content_limits content d ≡ [])
none_of content d flaw (PassesLimitOf.too_large passed) e = true≢false (sym (fits_there (fits content d) _ e).0 ∙ (by_fails content d).1 passed)
none_of content d flaw (PassesLimitOf.long_label {place = place} {ms = ms} label v entries has is labels long) e =
    let p = place_of_properties place ms in
    true≢false (sym (fits_there (key_fits p label) _ (member_fits p ms label v (fits_there (fits content d) _ e).1 has)).0 ∙ (label_fails p label).1 (entries, is, labels, long))
none_of content d flaw (PassesLimitOf.in_property {place = place} {ms = ms} name v inner f has is passed) e =
    let p = place_of_properties place ms in
    let limits = (fits_there (key_fits p name) _ (member_fits p ms name v (fits_there (fits content d) _ e).1 has)).1 in
    none_of inner v f passed (subst (λ o. content_limits (unwrap_or o contents.Anything) v ≡ []) is limits)
none_of content d flaw (PassesLimitOf.in_item {place = place} {ds = ds} i v f is passed) e = none_of (item_content place) v f passed (item_fits place ds 0 i v (fits_there (fits content d) _ e).1 is)

-- ---- a whole configuration

pub limit_told : (d : Data) (flaw : Flaw) → Contains (configuration_limits d) flaw → PassesLimitOf (contents.At places.Root) d flaw
limit_told d flaw told = All-contains (PassesLimitOf (contents.At places.Root) d) (configuration_limits d) flaw (value_told (contents.At places.Root) d (inner_told d (contents.At places.Root))) told

-- where no limit is told of a whole configuration
pub none_passed : (d : Data) (flaw : Flaw) → configuration_limits d ≡ [] → ¬ PassesLimitOf (contents.At places.Root) d flaw
none_passed d flaw e passed = none_of (contents.At places.Root) d flaw passed e

-- what the judge of a configuration's limits answers is a limit that it passes
pub refused_told : (d : Data) (flaw : Flaw) → refusal (configuration_limits d) ≡ Err flaw → PassesLimitOf (contents.At places.Root) d flaw
refused_told d flaw e = limit_told d flaw (refused_among (configuration_limits d) flaw e)
