-- What small steps and readings say that went well; what is computed from the first property of a name; and what holds of a field type
-- where it holds of its element.
use Rattle.std.proofs.Common.{arith, ◌≡◌, ℕ, Bool, true, false, List, Option, Some, None, is_some, refl, ap, [], ◌∷◌, ◌++◌, cond, Ok, Err, option_map, option_and_then, codes}
use Rattle.conf_laws.proofs.Words.{is_byte, is_null, HasMember, Place, is_unsigned_integer, is_static_array, times, elements, elements_in_array, natural_in, has_bits, element_has_bits, Flaw, optional, proved, as_natural, Data, object, Members, no_members, member, get_member, nat_list_cmp_total, tied_itself, is_eq-slice_cmp, bytes_eq-Decides, AllByRecursion, option_map_or, bytes_eq, field_type, element, natural}
use Rattle.conf_laws.proofs.Words.places

pub some_none : {A P : Type 0} (o : Option A) (x : A) → o ≡ Some x → o ≡ None → P
some_none o x p q = absurd cc

pub some_same : {A : Type 0} (o : Option A) (x y : A) → o ≡ Some x → o ≡ Some y → x ≡ y
some_same o x y p q = cc

pub some_there : {A : Type 0} (o : Option A) → is_some o ≡ true → (x : A) × (o ≡ Some x)
some_there o e = grind (arith, e)

-- something is said, of which this holds
abbrev pub Says : {A : Type 0} → Option A → (A → Type 0) → Type 0
Says {A = A} o P = (x : A) × (o ≡ Some x) × P x

pub proved_says : {A : Type 0} (P : A → Type 0) (b : Bool) (f : b ≡ true → Option A) → b ≡ true → ((h : b ≡ true) → Says (f h) P) → Says (proved b f) P
proved_says P true f e says = says refl
proved_says P false f e says = absurd cc

pub mapped_says : {A B : Type 0} (P : A → Type 0) (Q : B → Type 0) (f : A → B) (o : Option A) → ((x : A) → P x → Q (f x)) → Says o P → Says (option_map f o) Q
mapped_says P Q f o each (x, is, h) = (f x, ap (option_map f) is, each x h)

pub by_test : (P : Bool → Type 0) (b : Bool) → (b ≡ true → P true) → (b ≡ false → P false) → P b
by_test P true holds fails = holds refl
by_test P false holds fails = fails refl

pub by_found : {A : Type 0} (P : Option A → Type 0) (o : Option A) → (o ≡ None → P None) → ((x : A) → o ≡ Some x → P (Some x)) → P o
by_found P None without with = without refl
by_found P (Some x) without with = with x refl

pub all_joined : {A : Type 0} (P : A → Type 0) (xs ys : List A) → AllByRecursion P xs → AllByRecursion P ys → AllByRecursion P (xs ++ ys)
all_joined P [] ys h k = k
all_joined P (x ∷ xs) ys h k = (h.0, all_joined P xs ys h.1 k)

-- ---- what a look-up says of the property

pub byte_object : (o : Option Data) → is_byte o ≡ true → (ms : Members) × (o ≡ Some (object ms))
byte_object o e = grind (arith, e)

pub same_natural : (name : List ℕ) (ms : Members) → natural name ms ≡ natural_in name ms
unfolding natural natural_in as_natural
same_natural name ms = grind arith

-- ---- tests

-- a class that is told is the one that it is
pub class_told : (is_such : Place → Bool) (class : Place) → ((c : Place) → is_such c ≡ true → c ≡ class) → (o : Option Place) → option_map_or is_such o false ≡ true → o ≡ Some class
class_told is_such class same o e = grind (arith, same, e)

pub only_unsigned : (c : Place) → is_unsigned_integer c ≡ true → c ≡ places.UnsignedInteger
only_unsigned c e = grind (arith, e)

pub only_static : (c : Place) → is_static_array c ≡ true → c ≡ places.StaticArray
only_static c e = grind (arith, e)

-- what is answered where a test fails
pub under_no_test : {A : Type 0} (b : Bool) (x y : A) (flaw : Flaw) → cond b (Err flaw) (Ok x) ≡ Ok y → b ≡ false
under_no_test b x y flaw e = grind (arith, e)

-- what is there and is not null
pub optional_found : (name : List ℕ) (ms : Members) (d : Data) → get_member name ms ≡ Some d → is_null d ≡ false → optional name ms ≡ Some d
optional_found name ms d found some = grind (arith, found, some)

-- ---- what is at a name

-- the first member of a name is found, and another one is passed over
found_here : (name k : List ℕ) (d : Data) (ms : Members) → get_member name (member k d ms) ≡ cond (bytes_eq k name) (Some d) (get_member name ms)
found_here name k d ms = grind (arith, bytes_eq-Decides k name, bytes_eq-Decides name k, is_eq-slice_cmp name k, tied_itself nat_list_cmp_total name)

-- what is computed from the first property of a name, and else from none
pub at_name : {X : Type 0} (name : List ℕ) (walk : Members → X) (made : Option Data → X) → walk no_members ≡ made None → ((k : List ℕ) (d : Data) (ms : Members) → walk (member k d ms) ≡ cond (bytes_eq k name) (made (Some d)) (walk ms))
    → (ms : Members) → walk ms ≡ made (get_member name ms)
at_name name walk made none step no_members = none
at_name name walk made none step (member k d ms) = grind (arith, step k d ms, found_here name k d ms, at_name name walk made none step ms)

-- what holds of each property and of those behind it holds of each one, and of the one that is found
module _ (P : Members → Type 0) (Q : List ℕ → Data → Type 0) (each : (k : List ℕ) (d : Data) (ms : Members) → P (member k d ms) → Q k d × P ms) where
  pub at_member : (name : List ℕ) (ms : Members) (d : Data) → P ms → HasMember name d ms → Q name d
  at_member name no_members d h has = absurd has
  at_member name (member k e ms) d h has = grind (arith, each k e ms h, at_member name ms d (each k e ms h).1, has)

  pub at_found : (name : List ℕ) (ms : Members) (d : Data) → P ms → get_member name ms ≡ Some d → Q name d
  at_found name no_members d h is = absurd cc
  at_found name (member k e ms) d h is = grind (arith, bytes_eq-Decides k name, found_here name k e ms, each k e ms h, at_found name ms d (each k e ms h).1, is)

pub element_is : (ms : Members) → element ms ≡ option_and_then field_type (get_member (codes "element-field-type") ms)
element_is ms = at_name (codes "element-field-type") element (option_and_then field_type) refl (λ k d rest. refl) ms

pub element_bits : (ms : Members) → element_has_bits ms ≡ option_map_or has_bits (get_member (codes "element-field-type") ms) true
element_bits ms = at_name (codes "element-field-type") element_has_bits (λ o. option_map_or has_bits o true) refl (λ k d rest. refl) ms

module _ (levels : ℕ) (count : Option ℕ) where
  -- the elements of an array of so many, where this is what each of them is
  abbrev pub of_element : Option Data → Option ℕ
  of_element None = count
  of_element (Some element) = times count (elements levels element)

  pub in_array : (ms : Members) → elements_in_array levels count ms ≡ of_element (get_member (codes "element-field-type") ms)
  in_array ms = at_name (codes "element-field-type") (elements_in_array levels count) of_element refl (λ k d rest. refl) ms

module _ (P : Data → Type 0) (step : (d : Data) → ((ms : Members) (x : Data) → d ≡ object ms → get_member (codes "element-field-type") ms ≡ Some x → P x) → P d) where
  abbrev Each : Members → Type 0
  Each no_members = Unit
  Each (member k d ms) = P d × Each ms

  mutual
    pub by_element : (d : Data) → P d
    by_element (object ms) = step (object ms) (λ ns x is there. at_found Each (λ n y. P y) (λ n y rest h. h) (codes "element-field-type") ms x (each ms) (let same : ms ≡ ns = cc in rw same there))
    by_element d = step d (λ ns x is there. absurd cc)

    each : (ms : Members) → Each ms
    each no_members = tt
    each (member k d ms) = (by_element d, each ms)
