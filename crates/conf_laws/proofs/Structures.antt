-- Field types, the members of a structure, structures and the extra members of a packet context that have no flaw say something; and where
-- they pass no limit, that is what the rules allow: no array is empty where it stands in a dynamic array, static arrays nest as deep as the
-- rules allow, and the names that members take are apart, also from names that were taken before.
use Rattle.std.proofs.Common.{◌<◌, ◌≡◌, ◌%◌, ◌==◌, ◌&&◌, ℕ, Bool, true, false, cond, Some, nat_lt, nat_le, leb-true, arith, refl, sym, ap, subst, Option, Ok, ◌∙◌, ◌+◌, List, [], ◌∷◌, ◌++◌, length, All, length-append, append_assoc, ◌⊎◌, suc, inl, inr, codes, unwrap_or, option_and_then, zero, ◌*◌, ◌≤◌}
use Rattle.conf_laws.proofs.Agreement.{taken_put}
use Rattle.conf_laws.proofs.AllowedMaps.{plain_name, integer_says, enumeration_says}
use Rattle.conf_laws.proofs.Numbers.{alignment_or, needed_natural}
use Rattle.conf_laws.proofs.Readings.{Says, proved_says, element_is, all_joined, under_no_test, optional_found, some_there, by_found, by_test, element_bits, in_array, by_element, same_natural}
use Rattle.conf_laws.proofs.Sound.{HasRow, RowsSound, ContentSound, ObjectSound, object_sound, needed_sound, type_sound, class_place, object_at, content_sound, first_item, rows_sound, first_entry, optional_sound, IsWithin, AreWithin, AreItemsWithin, object_within, property_within, optional_within, entry_within, is_within, first_item_limits, fitting_parts, TypeSound}
use Rattle.conf_laws.proofs.Words.{LARGEST_ALIGN, MAX_ARRAYS, MAX_CONFIG_MEMBERS, MAX_ELEMENTS, false_from_ne_true, nat_tests, chain_of, and_parts, default_number, is_alignment, presence_under, rows_of, Presence, admits_class, is_dynamic_array, Place, At, entries_of, at_most, itself_of, form_of, Known, inside, is_position, inner_flaws, item_flaws, member_flaws, nothing, with_taken, take, is_taken, key_of, key_by, free_of, is_dynamic, class_of, class_of_member, elements, fits, arrays_fit, is_outermost, shape_of, with_names, names_beside, own_place, place_of_properties, item_content, Members, Data, object, get_member, optional, is_passed, items_len, both_read, plain_name_of, Items, no_items, item, no_members, member, array, as_array, as_object, false≢true, or_parts, All-push, All-nil, All-from_recursion, map-append, bytes_eq-Decides, IsDistinct, option_map_or, AllByRecursion, list_any, bytes_eq, field_type, element, object_at as object_named, list as list_in, member_type, member_said as member_of, behind_done, members_behind, made, align_for, listed, align_of, structure_of, structure, extra_members, names_in, own_names, IsPlainName, IsConfigMember, AreConfigMembers, IsConfigStruct, StructType, length_name, shown_members, Auto, AtMember, Plain, Dyn, MemberType, is_class, any_object, at_least_one, times, natural_in, is_static_array, has_bits, length_of, of_class, natural, IsNest, elements_of, IsConfigLeaf, Int, Enum, Str, Static, FieldType}
use Rattle.conf_laws.proofs.Words.places

-- its static arrays nest no deeper than these levels, and have n elements in all
record Nests (levels n : ℕ) (t : FieldType) : Type 0 where
  deep : length (chain_of t).lengths ≤ levels
  size : elements_of (chain_of t).lengths ≡ n
  few : n ≤ MAX_ELEMENTS

pub record IsAllowed (d : Data) (t : FieldType) : Type 0 where
  pub leaf : IsConfigLeaf (chain_of t).leaf
  pub bits : has_bits d ≡ true → AllByRecursion (λ n. 0 < n) (chain_of t).lengths
  nests : (levels n : ℕ) → elements levels d ≡ Some n → Nests levels n t

pub nest_allowed : (d : Data) (t : FieldType) (n : ℕ) → IsAllowed d t → elements MAX_ARRAYS d ≡ Some n → IsNest (chain_of t).lengths
nest_allowed d t n h e = let nests = h.nests MAX_ARRAYS n e in let size = nests.size in let few = nests.few in record { depth = nests.deep; size = omega (arith, size, few) }

-- no array
module _ (ms : Members) (class : Place) (is : class_of ms ≡ Some class) (other : is_static_array class ≡ false) where
  alone : (t : FieldType) → (chain_of t).lengths ≡ [] → IsConfigLeaf (chain_of t).leaf → IsAllowed (object ms) t
  unfolding elements_of
  alone t none leaf = record {
    leaf = leaf;
    bits = λ some. subst (λ (l : List ℕ). AllByRecursion (λ n. 0 < n) l) (sym none) tt;
    nests = λ levels n e. grind (arith, none, is, other, e);
  }

-- ---- static arrays

-- the product of two counts, where it is not too large
times_told : (a b : Option ℕ) (m : ℕ) → times a b ≡ Some m → (first second : ℕ) × (a ≡ Some first) × (b ≡ Some second) × (m ≡ first * second) × (m ≤ MAX_ELEMENTS)
times_told a b m e = grind (arith, nat_tests, e)

-- an array of so many of these
module _ (ms : Members) (static : option_map_or is_static_array (class_of ms) false ≡ true) (n : ℕ) (is : natural (codes "length") ms ≡ Some n) (value : Data) (inner : FieldType) (there : get_member (codes "element-field-type") ms ≡ Some value) where
  array_allowed : IsAllowed value inner → IsAllowed (object ms) (Static (chain_of inner) (length_of ms))
  unfolding length_of elements_of
  array_allowed one = record { leaf = one.leaf; bits = bits; nests = nests }
    where
      bits : has_bits (object ms) ≡ true → AllByRecursion (λ n. 0 < n) (length_of ms ∷ (chain_of inner).lengths)
      bits some = grind (arith, nat_tests, static, is, there, same_natural (codes "length") ms, element_bits ms, one.bits, some)

      nests : (levels m : ℕ) → elements levels (object ms) ≡ Some m → Nests levels m (Static (chain_of inner) (length_of ms))
      nests zero m e = absurd (let none = rw static at e in cc)
      nests (suc levels) m e =
          let (first, second, counted, within, product, most) = times_told (at_least_one (natural_in (codes "length") ms)) (elements levels value) m (grind (arith, static, there, in_array levels (at_least_one (natural_in (codes "length") ms)) ms, e)) in
          let inside = one.nests levels second within in
          grind (arith, nat_tests, same_natural (codes "length") ms, counted, inside, product, most)

-- ---- a field type by its class

-- what stands as an element says something
abbrev IsSaidAt : Data → Type 0
IsSaidAt d = (k : Known) → ContentSound k (At places.ElementType) d → Says (field_type d) (λ t. IsWithin (At places.ElementType) d → IsAllowed d t)

abbrev ElementsSay : Members → Type 0
ElementsSay ms = (x : Data) → get_member (codes "element-field-type") ms ≡ Some x → IsSaidAt x

array_says : (k : Known) (ms : Members) → class_of ms ≡ Some places.StaticArray → RowsSound k places.StaticArray ms → ElementsSay ms → Says (of_class (Some places.StaticArray) ms (element ms)) (λ t. AreWithin places.StaticArray ms → IsAllowed (object ms) t)
unfolding of_class length_of rows_of
array_says k ms is h inner =
    let (d, found, sound) = needed_sound k places.StaticArray (codes "element-field-type") (At places.ElementType) ms (refl, refl) h in
    let x = inner d found k sound.value in
    let n = needed_natural k places.StaticArray (codes "length") 0 MAX_ELEMENTS ms (refl, refl) h (omega arith) in
    let fits : nat_le (length_of ms) MAX_ELEMENTS ≡ true = subst (λ o. nat_le (unwrap_or o 0) MAX_ELEMENTS ≡ true) (sym n.1) n.3 in
    let said : element ms ≡ Some x.0 = element_is ms ∙ ap (option_and_then field_type) found ∙ x.1 in
    (Static (chain_of x.0) (length_of ms), rw (said, fits) refl, λ good. array_allowed ms (ap (λ o. option_map_or is_static_array o false) is) n.0 n.1 d x.0 found (x.2 (property_within places.StaticArray (codes "element-field-type") (At places.ElementType) (refl, refl) ms d good found)))

-- one whose class may stand in an array, and whose own elements say something
class_says : (k : Known) (class : Place) (ms : Members) → admits_class places.ElementType class ≡ true → class_of ms ≡ Some class → RowsSound (inside class ms k) class ms → ElementsSay ms
    → Says (of_class (Some class) ms (element ms)) (λ t. AreWithin class ms → IsAllowed (object ms) t)
unfolding admits_class is_class of_class inside rows_of
class_says k places.UnsignedInteger ms a is h inner = let x = integer_says k places.UnsignedInteger false ms (refl, refl) h in (Int x.0, rw x.1 refl, λ good. alone ms places.UnsignedInteger is refl (Int x.0) refl x.2.no_clock)
class_says k places.SignedInteger ms a is h inner = let x = integer_says k places.SignedInteger true ms (refl, refl) h in (Int x.0, rw x.1 refl, λ good. alone ms places.SignedInteger is refl (Int x.0) refl x.2.no_clock)
class_says k places.UnsignedEnumeration ms a is h inner =
    let x = enumeration_says _ places.UnsignedEnumeration false ms (refl, refl) (refl, refl) refl h in (Enum x.0, rw x.1 refl, λ good. alone ms places.UnsignedEnumeration is refl (Enum x.0) refl (x.2 good))
class_says k places.SignedEnumeration ms a is h inner =
    let x = enumeration_says _ places.SignedEnumeration true ms (refl, refl) (refl, refl) refl h in (Enum x.0, rw x.1 refl, λ good. alone ms places.SignedEnumeration is refl (Enum x.0) refl (x.2 good))
class_says k places.Str ms a is h inner = (Str, refl, λ good. alone ms places.Str is refl Str refl tt)
class_says k places.StaticArray ms a is h inner = array_says k ms is h inner
class_says k _ ms a is h inner = absurd (false≢true a)

type_by_class : (k : Known) (place : Place) (ms : Members) → is_position place ≡ true → (t : TypeSound k place ms) → admits_class places.ElementType t.class ≡ true → ElementsSay ms → Says (field_type (object ms)) (λ x. IsWithin (At place) (object ms) → IsAllowed (object ms) x)
type_by_class k place ms position t a inner =
    let x = class_says k t.class ms a t.is t.rows inner in
    (x.0, ap (λ o. of_class o ms (element ms)) t.is ∙ x.1, λ h. x.2 (object_within place t.class ms (class_place place ms t.class position t.is) h))

element_says : (d : Data) → IsSaidAt d
unfolding itself_of form_of any_object is_position
element_says d = by_element IsSaidAt step d
  where
    step : (d : Data) → ((ms : Members) (x : Data) → d ≡ object ms → get_member (codes "element-field-type") ms ≡ Some x → IsSaidAt x) → IsSaidAt d
    step (object ms) inner k h =
        let t = type_sound k places.ElementType ms refl (object_sound k places.ElementType ms h.inner) in
        type_by_class k places.ElementType ms refl t t.may_stand (λ x there. inner ms x refl there)
    step d inner k h = absurd (let e : any_object d ≡ Ok tt = h.itself in cc)

-- a field type where one of these classes may stand
pub type_says : (k : Known) (place : Place) (ms : Members) → is_position place ≡ true → (t : TypeSound k place ms) → admits_class places.ElementType t.class ≡ true → Says (field_type (object ms)) (λ x. IsWithin (At place) (object ms) → IsAllowed (object ms) x)
type_says k place ms position t a = type_by_class k place ms position t a (λ x there. element_says x)

-- ---- what a member takes

abbrev names_of : List ℕ × MemberType → List (List ℕ)
names_of (name, Plain t) = name ∷ []
names_of (name, Dyn t Auto) = length_name name ∷ name ∷ []
names_of (name, Dyn t (AtMember i)) = name ∷ []

-- the names of members as a reader shows them
abbrev shown_of : List (List ℕ × MemberType) → List (List ℕ)
shown_of ms = names_in (shown_members 0 ms)

shown_last : (n : ℕ) (ms : List (List ℕ × MemberType)) (name : List ℕ) (m : MemberType) → names_in (shown_members n (ms ++ (name, m) ∷ [])) ≡ names_in (shown_members n ms) ++ names_of (name, m)
unfolding shown_members
shown_last n [] name m = grind arith
shown_last n ((other, Plain t) ∷ ms) name m = ap (λ l. other ∷ l) (shown_last (n + 1) ms name m)
shown_last n ((other, Dyn t Auto) ∷ ms) name m = ap (λ l. length_name other ∷ other ∷ l) (shown_last (n + 2) ms name m)
shown_last n ((other, Dyn t (AtMember i)) ∷ ms) name m = ap (λ l. other ∷ l) (shown_last (n + 1) ms name m)

-- ---- names that are taken

abbrev AreTaken : Members → List (List ℕ) → Type 0
AreTaken taken names = AllByRecursion (λ name. is_taken taken name ≡ true) names

takes_itself : (name : List ℕ) (taken : Members) → is_taken (take name taken) name ≡ true
takes_itself name taken = grind (arith, taken_put name name taken)

all_still_taken : (name : List ℕ) (taken : Members) (names : List (List ℕ)) → AreTaken taken names → AreTaken (take name taken) names
all_still_taken name taken [] h = tt
all_still_taken name taken (other ∷ names) h = ((taken_put other name taken).1 (inr h.0), all_still_taken name taken names h.1)

-- with those of the member
abbrev with_member : List ℕ → Bool → Members → Members
with_member name b taken = take name (cond b (take (length_name name) taken) taken)

keeps_taken : (name : List ℕ) (b : Bool) (taken : Members) (names : List (List ℕ)) → AreTaken taken names → AreTaken (with_member name b taken) names
keeps_taken name b taken names h = by_test (λ (d : Bool). AreTaken (with_member name d taken) names) b (λ is. all_still_taken name (take (length_name name) taken) names (all_still_taken (length_name name) taken names h)) (λ is. all_still_taken name taken names h)

-- a name that is free is none of those that are taken
apart_from_taken : (taken : Members) (name : List ℕ) (names : List (List ℕ)) → is_taken taken name ≡ false → AreTaken taken names → list_any (bytes_eq name) names ≡ false
apart_from_taken taken name [] free h = refl
apart_from_taken taken name (other ∷ names) free h = grind (arith, nat_tests, bytes_eq-Decides name other, apart_from_taken taken name names free h.1, h.0, free)

abbrev AreApart : List (List ℕ) → List (List ℕ) → Type 0
AreApart before names = AllByRecursion (λ name. list_any (bytes_eq name) before ≡ false) names

-- ---- names apart

distinct_last : (xs : List (List ℕ)) (y : List ℕ) → IsDistinct bytes_eq xs → list_any (bytes_eq y) xs ≡ false → IsDistinct bytes_eq (xs ++ y ∷ [])
unfolding IsDistinct
distinct_last [] y h free = (tt, tt)
distinct_last (x ∷ xs) y h free =
    let p = or_parts (bytes_eq y x) (list_any (bytes_eq y) xs) free in
    let apart : bytes_eq x y ≡ false = grind (arith, nat_tests, bytes_eq-Decides x y, bytes_eq-Decides y x, p.0) in
    (all_joined (λ z. bytes_eq x z ≡ false) xs (y ∷ []) h.0 (apart, tt), distinct_last xs y h.1 p.1)

-- names that are taken, apart from each other and from those that were taken before
record AreShown (before shown : List (List ℕ)) (taken : Members) : Type 0 where
  before_taken : AreTaken taken before
  all_taken : AreTaken taken shown
  distinct : IsDistinct bytes_eq shown
  free : AreApart before shown

one_shown : (before shown : List (List ℕ)) (taken : Members) (name : List ℕ) → AreShown before shown taken → is_taken taken name ≡ false → AreShown before (shown ++ name ∷ []) (take name taken)
one_shown before shown taken name h free = record {
  before_taken = all_still_taken name taken before h.before_taken;
  all_taken = all_joined (λ n. is_taken (take name taken) n ≡ true) shown (name ∷ []) (all_still_taken name taken shown h.all_taken) (takes_itself name taken, tt);
  distinct = distinct_last shown name h.distinct (apart_from_taken taken name shown free h.all_taken);
  free = all_joined (λ n. list_any (bytes_eq n) before ≡ false) shown (name ∷ []) h.free (apart_from_taken taken name before free h.before_taken, tt);
}

-- the names that a member takes, by whether it is a dynamic array
abbrev names_by : Bool → List ℕ → List (List ℕ)
names_by true name = length_name name ∷ name ∷ []
names_by false name = name ∷ []

-- a name that is free is free behind that of its length
still_free : (taken : Members) (name : List ℕ) → is_taken taken name ≡ false → is_taken (take (length_name name) taken) name ≡ false
still_free taken name free = false_from_ne_true (is_taken (take (length_name name) taken) name) (λ is. elim ((taken_put name (length_name name) taken).0 is) [
  | inl same ↦ let longer = ap length same in omega (arith, longer, length-append name (codes "_len"))
  | inr there ↦ false≢true (sym free ∙ there)
])

member_shown : (before shown : List (List ℕ)) (taken : Members) (name : List ℕ) (b : Bool) → AreShown before shown taken → is_taken taken name ≡ false → (b && is_taken taken (length_name name)) ≡ false → AreShown before (shown ++ names_by b name) (with_member name b taken)
member_shown before shown taken name false h free long = one_shown before shown taken name h free
member_shown before shown taken name true h free long =
    subst (λ l. AreShown before l (with_member name true taken)) (append_assoc shown (length_name name ∷ []) (name ∷ []))
    (one_shown before (shown ++ length_name name ∷ []) (take (length_name name) taken) name (one_shown before shown taken (length_name name) h long) (still_free taken name free))

-- the members so far
record AreNamed (before : List (List ℕ)) (ms : List (List ℕ × MemberType)) (taken : Members) : Type 0 where
  names : All IsPlainName (names_in ms)
  names_taken : AreTaken taken (names_in ms)
  shown : AreShown before (shown_of ms) taken

one_more_named : (before : List (List ℕ)) (ms : List (List ℕ × MemberType)) (taken : Members) (name : List ℕ) (b : Bool) (m : MemberType) → AreNamed before ms taken → IsPlainName name → is_taken taken name ≡ false → (b && is_taken taken (length_name name)) ≡ false
    → names_by b name ≡ names_of (name, m) → AreNamed before (ms ++ (name, m) ∷ []) (with_member name b taken)
one_more_named before ms taken name b m h plain free long same =
    let named = map-append (λ (e : List ℕ × MemberType). e.0) ms ((name, m) ∷ []) in
    record {
      names = subst (λ l. All IsPlainName l) (sym named) (All-push IsPlainName (names_in ms) name h.names plain);
      names_taken = subst (λ l. AreTaken (with_member name b taken) l) (sym named) (all_joined (λ n. is_taken (with_member name b taken) n ≡ true) (names_in ms) (name ∷ []) (keeps_taken name b taken (names_in ms) h.names_taken) (takes_itself name (cond b (take (length_name name) taken) taken), tt));
      shown = subst (λ l. AreShown before l (with_member name b taken)) (ap (λ ns. shown_of ms ++ ns) same ∙ sym (shown_last 0 ms name m)) (member_shown before (shown_of ms) taken name b h.shown free long);
    }

-- ---- the type of a member

abbrev IsTyped : Bool → MemberType → Type 0
IsTyped dynamic m = (name : List ℕ) → names_by dynamic name ≡ names_of (name, m)

-- the elements of a dynamic array
elements_say : (k : Known) (ms : Members) → RowsSound k places.DynamicArray ms → Says (element ms) (λ t. AreWithin places.DynamicArray ms → IsConfigMember (Dyn t Auto))
unfolding itself_of form_of is_position admits_class fits arrays_fit is_outermost shape_of rows_of
elements_say k ms h =
    let (d, there, at) = needed_sound k places.DynamicArray (codes "element-field-type") (At places.DynamicElementType) ms (refl, refl) h in
    let (os, same, sound) = object_at k places.DynamicElementType d at.value refl in
    let t = type_sound k places.DynamicElementType os refl sound in
    let x = type_says k places.DynamicElementType os refl t t.may_stand in
    let found : get_member (codes "element-field-type") ms ≡ Some (object os) = there ∙ ap Some same in
    let allowed : AreWithin places.DynamicArray ms → IsConfigMember (Dyn x.0 Auto) = λ h.
    let good = property_within places.DynamicArray (codes "element-field-type") (At places.DynamicElementType) (refl, refl) ms (object os) h found in
    let nests = some_there (elements MAX_ARRAYS (object os)) (fitting_parts places.DynamicElementType (object os) good.fitting).0 in
    let one = x.2 good in
    ((one.leaf, nest_allowed (object os) x.0 nests.0 one nests.1), All-from_recursion (λ n. 0 < n) (chain_of x.0).lengths (one.bits (is_passed _ tt tt _ t.shape).0)) in
    (x.0, element_is ms ∙ ap (option_and_then field_type) found ∙ x.1, allowed)

member_class : (class : Place) → admits_class places.MemberType class ≡ true → (class ≡ places.DynamicArray) ⊎ ((is_dynamic_array class ≡ false) × (admits_class places.ElementType class ≡ true))
unfolding admits_class
member_class class a = grind (arith, a)

member_says : (k : Known) (ms : Members) → ObjectSound k places.MemberType ms → Says (member_type ms) (λ m. IsTyped (option_map_or is_dynamic_array (class_of ms) false) m × (IsWithin (At places.MemberType) (object ms) → IsConfigMember m))
unfolding member_type is_position inside fits arrays_fit is_outermost
member_says k ms h =
    let t = type_sound k places.MemberType ms refl h in
    elim (member_class t.class t.may_stand) [
      | inl same ↦
          let is : class_of ms ≡ Some places.DynamicArray = t.is ∙ ap Some same in
          let dynamic : option_map_or is_dynamic_array (class_of ms) false ≡ true = ap (λ o. option_map_or is_dynamic_array o false) is in
          let x = elements_say k ms (subst (λ p. RowsSound (inside p ms k) p ms) same t.rows) in
          (Dyn x.0 Auto, rw (dynamic, x.1) refl, ((λ name. ap (λ b. names_by b name) dynamic), λ good. x.2 (object_within places.MemberType places.DynamicArray ms (class_place places.MemberType ms places.DynamicArray refl is) good)))
      | inr other ↦
          let plain : option_map_or is_dynamic_array (class_of ms) false ≡ false = ap (λ o. option_map_or is_dynamic_array o false) t.is ∙ other.0 in
          let x = type_says k places.MemberType ms refl t other.1 in
          (Plain x.0, rw (plain, x.1) refl, ((λ name. ap (λ b. names_by b name) plain), λ good. let nests = some_there (elements MAX_ARRAYS (object ms)) (fitting_parts places.MemberType (object ms) good.fitting).0 in let allowed = x.2 good in (allowed.leaf, nest_allowed (object ms) x.0 nests.0 allowed nests.1)))
    ]

-- what the value of an entry tells of
told_says : (k : Known) (x : Data) → ContentSound k (At places.Member) x → Says (member_of x) (λ m. IsTyped (is_dynamic x) m × (IsWithin (At places.Member) x → IsConfigMember m))
unfolding itself_of form_of place_of_properties is_position own_place inside object_named is_dynamic rows_of
told_says k x h =
    let (os, same, sound) = object_at k places.Member x h refl in
    let (d, there, at) = needed_sound k places.Member (codes "field-type") (At places.MemberType) os (refl, refl) (rows_sound k places.Member places.Member os refl sound) in
    let (ys, type_is, of_type) = object_at k places.MemberType d at.value refl in
    let m = member_says k ys of_type in
    let found : get_member (codes "field-type") os ≡ Some (object ys) = there ∙ ap Some type_is in
    let there = optional_found (codes "field-type") os (object ys) found refl in
    let dynamic : is_dynamic x ≡ option_map_or is_dynamic_array (class_of ys) false =
    ap (λ z. option_map_or is_dynamic_array (class_of_member z) false) same ∙ ap (λ q. option_map_or is_dynamic_array (option_and_then class_of (option_and_then as_object q)) false) found in
    let allowed : IsWithin (At places.Member) x → IsConfigMember m.0 = λ good.
    let own = object_within places.Member places.Member os refl (subst (λ z. IsWithin (At places.Member) z) same good) in
    m.2.1 (property_within places.Member (codes "field-type") (At places.MemberType) (refl, refl) os (object ys) own found) in
    (m.0, ap member_of same ∙ ap (λ q. option_and_then member_type (option_and_then as_object q)) there ∙ m.1, ((λ name. ap (λ b. names_by b name) dynamic ∙ m.2.0 name), allowed))

-- ---- an entry

entry_shape : (d : Data) → form_of nothing places.Entry d ≡ Ok tt → (name : List ℕ) × (x : Data) × (d ≡ object (member name x no_members))
unfolding form_of
entry_shape (object (member name x no_members)) e = (name, x, refl)
entry_shape (object (member name x (member other y ms))) e = absurd (grind (arith, nat_tests, e))
entry_shape _ e = absurd cc

-- ---- the list

-- the members of a list, with those that are done before its items from place i on
record AreRead (place : Place) (before : List (List ℕ)) (i : ℕ) (done : List (List ℕ × MemberType)) (ds : Items) (ms : List (List ℕ × MemberType)) : Type 0 where
  after : Members
  named : AreNamed before ms after
  counted : length ms ≡ length done + items_len ds
  types : All (λ m. IsConfigMember m.1) done → AreItemsWithin place i ds → All (λ m. IsConfigMember m.1) ms

module _ (k : Known) (place : Place) (before : List (List ℕ)) (entries : item_content place ≡ At places.Entry) where
  items_say : (ds : Items) (taken : Members) (i : ℕ) (done : List (List ℕ × MemberType)) → AreNamed before done taken → item_flaws k place taken i ds ≡ [] → Says (members_behind done ds) (AreRead place before i done ds)
  unfolding itself_of form_of place_of_properties is_position own_place inside behind_done key_of key_by entries_of free_of
  items_say no_items taken i done h f = (done, refl, record { after = taken; named = h; counted = omega arith; types = λ all good. all })
  items_say (item d ds) taken i done h f =
      let first = first_item k place taken i d ds f in
      let j = with_taken taken k in
      let sound = subst (λ c. ContentSound j c d) entries (content_sound j (item_content place) d first.0) in
      let s = entry_shape d sound.itself in
      let name = s.0 in
      let ms = member name s.1 no_members in
      let rows = rows_sound j places.Entry places.Entry ms refl (object_sound j places.Entry ms (subst (λ x. inner_flaws j (At places.Entry) x ≡ []) s.2 sound.inner)) in
      let entry = (first_entry j places.Entry name (At places.Member) s.1 no_members (_, refl, refl, refl) rows.flaws).0 in
      let m = told_says j s.1 entry.value in
      let judged = both_read (plain_name_of name) _ tt entry.named in
      let own = or_parts (is_taken taken name) (is_dynamic s.1 && is_taken taken (length_name name)) (under_no_test _ tt tt _ judged.2) in
      let b = is_dynamic s.1 in
      let free = apart_from_taken taken name (names_in done) own.0 h.names_taken in
      let named = one_more_named before done taken name b m.0 h (plain_name name judged.1) own.0 own.1 (m.2.0 name) in
      let more = done ++ (name, m.0) ∷ [] in
      let rest = items_say ds (with_member name b taken) (suc i) more named (subst (λ x. item_flaws k place (with_names x taken) (suc i) ds ≡ []) s.2 first.1) in
      let step : members_behind done (item (object ms) ds) ≡ members_behind more ds = rw (m.1, free) refl in
      let counted = rest.2.counted in
      let types : All (λ (n : List ℕ × MemberType). IsConfigMember n.1) done → AreItemsWithin place i (item d ds) → All (λ (n : List ℕ × MemberType). IsConfigMember n.1) rest.0 = λ all good.
      let limits = first_item_limits place i d ds good.limits in
      let first = subst (λ x. IsWithin (At places.Entry) x) s.2 (subst (λ c. IsWithin c d) entries (is_within (item_content place) d limits.0 good.ascend.0)) in
      let value = (entry_within places.Entry (At places.Member) (_, refl, refl, refl) name s.1 no_members (object_within places.Entry places.Entry ms refl first)).0 in
      rest.2.types (All-push (λ (n : List ℕ × MemberType). IsConfigMember n.1) done (name, m.0) all (m.2.1 value)) (record { limits = limits.1; ascend = good.ascend.1 }) in
      let read : AreRead place before i done (item d ds) rest.0 = record { after = rest.2.after; named = rest.2.named; counted = omega (arith, counted, length-append done ((name, m.0) ∷ [])); types = types } in
      (rest.0, ap (λ x. members_behind done (item x ds)) s.2 ∙ step ∙ rest.1, read)

no_members_allowed : AreConfigMembers []
unfolding shown_members IsDistinct
no_members_allowed = record { types = All-nil (λ m. IsConfigMember m.1); names = All-nil IsPlainName; distinct = tt; few = omega arith }

-- the members of a list of at most so many entries, apart from names that were taken before
module _ (k : Known) (around : Place) {place : Place} (name : List ℕ) {presence : Presence} (row : HasRow around name presence (At place)) (ms : Members) (form : (d : Data) → itself_of k (At place) d ≡ form_of nothing places.Members d) (entries : item_content place ≡ At places.Entry)
    (most : (n : ℕ) → at_most (entries_of place) n ≡ nat_le n MAX_CONFIG_MEMBERS) (f : member_flaws k around ms ≡ []) (before : List (List ℕ)) (taken : AreTaken (names_beside place) before) where
  abbrev IsListed : List (List ℕ × MemberType) → Type 0
  IsListed members = AreApart before (shown_of members) × (AreWithin around ms → AreConfigMembers members)

  found_says : (d : Data) → optional name ms ≡ Some d → Says (members_behind [] (unwrap_or (as_array d) no_items)) IsListed
  unfolding shown_members IsDistinct form_of
  found_says d is =
      let none : AreNamed before [] (names_beside place) = record { names = All-nil IsPlainName; names_taken = tt; shown = record { before_taken = taken; all_taken = tt; distinct = tt; free = tt } } in
      let sound = (optional_sound k around name (At place) ms d row f is).value in
      let formed : form_of nothing places.Members d ≡ Ok tt = sym (form d) ∙ sound.itself in
      let s : (ds : Items) × (d ≡ array ds) = grind (arith, formed) in
      let all = items_say k place before entries s.0 (names_beside place) 0 [] none (subst (λ x. inner_flaws k (At place) x ≡ []) s.1 sound.inner) in
      let named = all.2.named in
      let counted = all.2.counted in
      let allowed : AreWithin around ms → AreConfigMembers all.0 = λ h.
      let good = subst (λ x. IsWithin (At place) x) s.1 (optional_within around name (At place) row ms d h is) in
      let short = leb-true (items_len s.0) MAX_CONFIG_MEMBERS (sym (most (items_len s.0)) ∙ (fitting_parts place (array s.0) good.fitting).1) in
      record { types = all.2.types (All-nil (λ m. IsConfigMember m.1)) (record { limits = good.inner; ascend = good.ascends }); names = named.names; distinct = named.shown.distinct; few = omega (arith, counted, short) } in
      subst (λ x. Says (members_behind [] (unwrap_or (as_array x) no_items)) IsListed) (sym s.1) (all.0, all.1, (named.shown.free, allowed))

  listed_says : Says (listed name ms) IsListed
  unfolding listed list_in shown_members
  listed_says = by_found (λ (o : Option Data). Says (members_behind [] (unwrap_or (option_and_then as_array o) no_items)) IsListed) (optional name ms) (λ is. ([], refl, (tt, λ h. no_members_allowed))) found_says

-- ---- structures

made_says : (members : List (List ℕ × MemberType)) (align : ℕ) → is_alignment align ≡ true → Says (made members align) (λ s. (s.members ≡ members) × (s.min_align ≡ align))
unfolding made
made_says members align a =
    let p = and_parts (nat_lt 0 align) (LARGEST_ALIGN % align == 0) a in
    proved_says (λ s. (s.members ≡ members) × (s.min_align ≡ align)) (nat_lt 0 align) _ p.0 (λ _. proved_says (λ s. (s.members ≡ members) × (s.min_align ≡ align)) (LARGEST_ALIGN % align == 0) _ p.1 (λ _. (_, refl, (refl, refl))))

aligned : (members : List (List ℕ × MemberType)) (align : ℕ) → is_alignment align ≡ true → is_alignment (align_for members align) ≡ true
aligned members align a = grind (arith, a)

-- a structure without members aligns nothing
struct_of : (members : List (List ℕ × MemberType)) (align : ℕ) (s : StructType) → (s.members ≡ members) × (s.min_align ≡ align_for members align) → AreConfigMembers members → IsConfigStruct s
struct_of members align s (all, least) h = record { members = subst (λ l. AreConfigMembers l) (sym all) h; empty = λ none. least ∙ ap (λ l. align_for l align) (sym all ∙ none) }

object_says : (k : Known) (ms : Members) → RowsSound k places.Structure ms → Says (structure_of ms) (λ s. AreWithin places.Structure ms → IsConfigStruct s)
unfolding structure_of align_of itself_of form_of item_content entries_of names_beside presence_under rows_of
object_says k ms h =
    let members = listed_says k places.Structure (codes "members") (refl, refl) ms (λ d. refl) refl (λ n. refl) h.flaws [] tt in
    let s = made_says members.0 (align_for members.0 (align_of ms)) (aligned members.0 (align_of ms) (alignment_or (codes "minimum-alignment") (default_number places.Structure (codes "minimum-alignment")) ms refl)) in
    (s.0, ap (option_and_then (λ all. made all (align_for all (align_of ms)))) members.1 ∙ s.1, λ good. struct_of members.0 (align_of ms) s.0 s.2 (members.2.1 good))

type_structure : (k : Known) (d : Data) → ContentSound k (At places.StructureType) d → Says (option_map_or structure_of (as_object d) (made [] 1)) (λ s. IsWithin (At places.StructureType) d → IsConfigStruct s)
unfolding itself_of form_of is_position inside admits_class
type_structure k d h =
    let (os, is, sound) = object_at k places.StructureType d h refl in
    let t = type_sound k places.StructureType os refl sound in
    let same : t.class ≡ places.Structure = grind (arith, t.may_stand) in
    let s = object_says k os (subst (λ p. RowsSound (inside p os k) p os) same t.rows) in
    (s.0, ap (λ x. option_map_or structure_of (as_object x) (made [] 1)) is ∙ s.1, λ good. s.2 (object_within places.StructureType places.Structure os (class_place places.StructureType os places.Structure refl (t.is ∙ ap Some same)) (subst (λ x. IsWithin (At places.StructureType) x) is good)))

pub structure_says : (k : Known) (place : Place) (name : List ℕ) {presence : Presence} → HasRow place name presence (At places.StructureType) → (ms : Members) → member_flaws k place ms ≡ [] → Says (structure name ms) (λ s. AreWithin place ms → IsConfigStruct s)
unfolding structure object_named
structure_says k place name row ms f =
    by_found (λ (o : Option Data). Says (option_map_or structure_of (option_and_then as_object o) (made [] 1)) (λ s. AreWithin place ms → IsConfigStruct s)) (optional name ms)
    (λ is. let s = made_says [] 1 refl in (s.0, s.1, λ good. struct_of [] 1 s.0 s.2 no_members_allowed))
    (λ d is. let s = type_structure k d (optional_sound k place name (At places.StructureType) ms d row f is).value in (s.0, s.1, λ good. s.2 (optional_within place name (At places.StructureType) row ms d good is)))

pub record AreExtras (s : StructType) : Type 0 where
  pub members : AreConfigMembers s.members
  pub align : s.min_align ≡ 1
  pub no_own_name : All (λ name. list_any (bytes_eq name) own_names ≡ false) (names_in (shown_members 0 s.members))

pub extras_says : (k : Known) (ms : Members) → member_flaws k places.StreamType ms ≡ [] → Says (extra_members (codes "packet-context-field-type-extra-members") ms) (λ s. AreWithin places.StreamType ms → AreExtras s)
unfolding extra_members itself_of form_of item_content entries_of names_beside rows_of
extras_says k ms f =
    let members = listed_says k places.StreamType (codes "packet-context-field-type-extra-members") (refl, refl) ms (λ d. refl) refl (λ n. refl) f own_names (refl, (refl, (refl, (refl, (refl, (refl, tt)))))) in
    let s = made_says members.0 1 refl in
    let all = s.2.0 in (
      s.0,
      ap (option_and_then (λ all. made all 1)) members.1 ∙ s.1,
      λ good. record {
        members = subst (λ l. AreConfigMembers l) (sym all) (members.2.1 good);
        align = s.2.1;
        no_own_name = subst (λ l. All (λ name. list_any (bytes_eq name) own_names ≡ false) (names_in (shown_members 0 l))) (sym all) (All-from_recursion (λ name. list_any (bytes_eq name) own_names ≡ false) (shown_of members.0) members.2.0);
      },
    )
