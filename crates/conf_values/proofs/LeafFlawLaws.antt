-- What a reading refuses is a flaw of its value: the steps that all readings are made of, and the readings of single values.
use Rattle.std.proofs.Common.{◌≡◌, ◌⊎◌, ℕ, ℤ, ◌<ℤ◌, Bool, true, false, cond, ◌&&◌, ◌||◌, List, [], ◌∷◌, length, Contains, Option, Some, None, suc, Result, Ok, Err, inl, inr, refl, sym, ap, subst, ◌∙◌, arith}
use Rattle.std.specs.Prelude.{nat_le, nat_eq, int_le}
use Rattle.std.specs.List.{list_any}
use Rattle.std.specs.Str.{bytes_eq}
use Rattle.std.proofs.lemmas.Bool.{true≢false, false≢true, and_cases, or_cases, or_parts, leb-false, eq-eqb}
use Rattle.std.proofs.lemmas.List.Folds.{Any-from_list_any}
use Rattle.std.proofs.lemmas.Slice.Eq.{bytes_eq-Decides}
use borrow.Author.Differences.{le-false, below_in}
use Rattle.serde_json.specs.Data.{Data, Num, unsigned, negative, float, Members}
use Rattle.serde_json.specs.Find.{get_member, as_object, as_array, as_str, as_bool, as_number, as_integer}
use Rattle.ctf_types.specs.Names.{is_identifier, unused_keywords, used_keywords}
use Rattle.ctf_types.specs.declared.limits.TheConstants.{MAX_NAME_BYTES}
use Rattle.conf_tree.specs.declared.fault_kind.FaultKind.TheVariants.{WrongKind, NotWhole, OutOfRange, Missing, BadName, ReservedName}
use Rattle.conf_tree.specs.Flaw.{Flaw, Place as Step, key, here, within}
use Rattle.conf_tree.specs.Reading.{◌>>=◌, at, wanted, object_of, list_of, text_of, flag_of, whole_or_not, whole_of, needed}
use Rattle.conf_values.specs.Scalar.{is_printable}
use Rattle.conf_values.specs.Name.{name_of, is_reserved, plain_name_of}
use Rattle.conf_values.specs.Broken.{Lacks}
use Rattle.conf_values.specs.LeafFlaws.{IsNoObject, IsNoList, IsNoText, IsNoFlag, IsNoWhole, IsControl, IsNoName, IsReserved, IsNoPlainName}

-- ---- steps

-- the flaw of a refusal is one
pub same_flaw : {A : Type 0} (f g : Flaw) (r : Result A Flaw) → r ≡ Err f → r ≡ Err g → f ≡ g
same_flaw f g r p q = cc

-- a refusal of two steps is the first one's, or the second one's after the first went well
pub refused_here_or_next : {A B : Type 0} (r : Result A Flaw) (next_step : A → Result B Flaw) (flaw : Flaw) → (r >>= next_step) ≡ Err flaw → (r ≡ Err flaw) ⊎ ((x : A) × (r ≡ Ok x) × (next_step x ≡ Err flaw))
refused_here_or_next (Ok x) next_step flaw e = inr (x, refl, e)
refused_here_or_next (Err f) next_step flaw e = inl (ap Err (same_flaw f flaw (Err f >>= next_step) refl e))

-- a refusal at a place is one of the value there
pub refused_there : {A : Type 0} (place : Step) (r : Result A Flaw) (flaw : Flaw) → at place r ≡ Err flaw → (f : Flaw) × (r ≡ Err f) × (flaw ≡ within place f)
refused_there place (Ok x) flaw e = absurd cc
refused_there place (Err f) flaw e = (f, refl, sym (same_flaw (within place f) flaw (at place (Err f)) refl e))

-- a test that was not passed
pub refused_test : {A : Type 0} (b : Bool) (x : A) (f flaw : Flaw) → cond b (Ok x) (Err f) ≡ Err flaw → (b ≡ false) × (flaw ≡ f)
refused_test true x f flaw e = absurd cc
refused_test false x f flaw e = (refl, cc)

-- the other way round
pub refused_where : {A : Type 0} (b : Bool) (x : A) (f flaw : Flaw) → cond b (Err f) (Ok x) ≡ Err flaw → (b ≡ true) × (flaw ≡ f)
refused_where true x f flaw e = (refl, cc)
refused_where false x f flaw e = absurd cc

pub wanted_refused : {A : Type 0} (o : Option A) (flaw : Flaw) → wanted o ≡ Err flaw → (o ≡ None) × (flaw ≡ here WrongKind)
wanted_refused None flaw e = (refl, cc)
wanted_refused (Some x) flaw e = absurd cc

pub wanted_found : {A : Type 0} (o : Option A) (x : A) → wanted o ≡ Ok x → o ≡ Some x
wanted_found None x e = absurd cc
wanted_found (Some y) x e = cc

-- a step that always goes well refuses nothing
pub none_refused : {A : Type 0} {P : Type 0} (x : A) (flaw : Flaw) → Ok x ≡ Err flaw → P
none_refused x flaw e = absurd cc

-- what holds of the flaw that a step told
pub holds_of : (R : Flaw → Type 0) (f flaw : Flaw) → flaw ≡ f → R f → R flaw
holds_of R f flaw same h = subst R (sym same) h

-- ---- properties that are needed

missing_told : (name : List ℕ) (found : Option Data) (ms : Members) (flaw : Flaw) → get_member name ms ≡ found → needed name ms ≡ Err flaw → Lacks name ms flaw
missing_told name None ms flaw is e = (is, let f : needed name ms ≡ Err (within (key name) (here Missing)) = rw is refl in same_flaw flaw (within (key name) (here Missing)) (needed name ms) e f)
missing_told name (Some d) ms flaw is e = let f : needed name ms ≡ Ok d = rw is refl in absurd cc

-- a needed property that is not there
pub lacks_refused : (name : List ℕ) (ms : Members) (flaw : Flaw) → needed name ms ≡ Err flaw → Lacks name ms flaw
lacks_refused name ms flaw e = missing_told name (get_member name ms) ms flaw refl e

found_told : (name : List ℕ) (found : Option Data) (ms : Members) (d : Data) → get_member name ms ≡ found → needed name ms ≡ Ok d → get_member name ms ≡ Some d
found_told name None ms d is e = let f : needed name ms ≡ Err (within (key name) (here Missing)) = rw is refl in absurd cc
found_told name (Some v) ms d is e = let f : needed name ms ≡ Ok v = rw is refl in let same : v ≡ d = cc in is ∙ ap Some same

-- a needed property that is there
pub found_there : (name : List ℕ) (ms : Members) (d : Data) → needed name ms ≡ Ok d → get_member name ms ≡ Some d
found_there name ms d e = found_told name (get_member name ms) ms d refl e

-- ---- values of another kind

pub object_refused : (d : Data) (flaw : Flaw) → object_of d ≡ Err flaw → IsNoObject d flaw
object_refused d flaw e = let told = wanted_refused (as_object d) flaw e in holds_of (IsNoObject d) (here WrongKind) flaw told.1 (IsNoObject.no_object told.0)

pub list_refused : (d : Data) (flaw : Flaw) → list_of d ≡ Err flaw → IsNoList d flaw
list_refused d flaw e = let told = wanted_refused (as_array d) flaw e in holds_of (IsNoList d) (here WrongKind) flaw told.1 (IsNoList.no_list told.0)

pub text_refused : (d : Data) (flaw : Flaw) → text_of d ≡ Err flaw → IsNoText d flaw
text_refused d flaw e = let told = wanted_refused (as_str d) flaw e in holds_of (IsNoText d) (here WrongKind) flaw told.1 (IsNoText.no_text told.0)

pub flag_refused : (d : Data) (flaw : Flaw) → flag_of d ≡ Err flaw → IsNoFlag d flaw
flag_refused d flaw e = let told = wanted_refused (as_bool d) flaw e in holds_of (IsNoFlag d) (here WrongKind) flaw told.1 (IsNoFlag.no_flag told.0)

-- ---- numbers

-- the test of an order, failed
lt_of_not-int_le : (a b : ℤ) → int_le a b ≡ false → b <ℤ a
lt_of_not-int_le a b e = below_in b a (le-false a b e)

whole_in_refused : (low high : ℤ) (d : Data) (m : Num) (found : Option ℤ) (flaw : Flaw) → as_number d ≡ Some m → as_integer m ≡ found → whole_or_not low high found ≡ Err flaw → IsNoWhole low high d flaw
whole_in_refused low high d m (Some z) flaw is whole e =
    let told = refused_test (int_le low z && int_le z high) z (here OutOfRange) flaw e in
    holds_of (IsNoWhole low high d) (here OutOfRange) flaw told.1 (elim (and_cases (int_le low z) (int_le z high) told.0) [
      | inl small ↦ IsNoWhole.too_small m z is whole (lt_of_not-int_le low z small)
      | inr large ↦ IsNoWhole.too_large m z is whole (lt_of_not-int_le z high large)
    ])
whole_in_refused low high d (unsigned n) None flaw is whole e = absurd cc
whole_in_refused low high d (negative z) None flaw is whole e = absurd cc
whole_in_refused low high d (float x) None flaw is whole e = holds_of (IsNoWhole low high d) (here NotWhole) flaw (same_flaw flaw (here NotWhole) (whole_or_not low high None) e refl) (IsNoWhole.a_fraction x is)

pub whole_refused : (low high : ℤ) (d : Data) (flaw : Flaw) → whole_of low high d ≡ Err flaw → IsNoWhole low high d flaw
unfolding whole_of
whole_refused low high d flaw e =
    elim (refused_here_or_next (wanted (as_number d)) (λ n. whole_or_not low high (as_integer n)) flaw e) [
      | inl none ↦ let told = wanted_refused (as_number d) flaw none in holds_of (IsNoWhole low high d) (here WrongKind) flaw told.1 (IsNoWhole.no_number told.0)
      | inr (m, there, refused) ↦ whole_in_refused low high d m (as_integer m) flaw (wanted_found (as_number d) m there) refl refused
    ]

-- ---- texts

control_told : (c : ℕ) → (nat_le 32 c || nat_eq c 10 || nat_eq c 9) ≡ false → IsControl c
control_told c e =
    let a = or_parts (nat_le 32 c || nat_eq c 10) (nat_eq c 9) e in
    let b = or_parts (nat_le 32 c) (nat_eq c 10) a.0 in
    (leb-false 32 c b.0, λ same. false≢true (sym b.1 ∙ eq-eqb c 10 same), λ same. false≢true (sym a.1 ∙ eq-eqb c 9 same))

-- a text that is not shown has a control character
pub control_there : (s : List ℕ) → is_printable s ≡ false → (c : ℕ) × Contains s c × IsControl c
control_there [] e = absurd (true≢false e)
control_there (x ∷ s) e =
    elim (and_cases (nat_le 32 x || nat_eq x 10 || nat_eq x 9) (is_printable s) e) [
      | inl first ↦ (x, (0, omega arith, refl), control_told x first)
      | inr later ↦ let there = control_there s later in (there.0, (suc there.1.0, omega (arith, there.1.1), there.1.2), there.2)
    ]

-- ---- names

pub name_refused : (name : List ℕ) (flaw : Flaw) → name_of name ≡ Err flaw → IsNoName name flaw
unfolding name_of
name_refused name flaw e =
    let told = refused_test (is_identifier name && nat_le (length name) MAX_NAME_BYTES) tt (here BadName) flaw e in
    holds_of (IsNoName name) (here BadName) flaw told.1 (elim (and_cases (is_identifier name) (nat_le (length name) MAX_NAME_BYTES) told.0) [
      | inl none ↦ IsNoName.no_identifier none
      | inr long ↦ IsNoName.too_long (leb-false (length name) MAX_NAME_BYTES long)
    ])

-- a name that a list has by its bytes is one of the list
pub listed : (names : List (List ℕ)) (name : List ℕ) → list_any (bytes_eq name) names ≡ true → Contains names name
listed names name e =
    let found = Any-from_list_any (bytes_eq name) names e in
    let same : name ≡ found.1 = (bytes_eq-Decides name found.1).0 found.4 in
    subst (λ n. Contains names n) (sym same) (found.0, found.2, found.3)

pub plain_name_refused : (name : List ℕ) (flaw : Flaw) → plain_name_of name ≡ Err flaw → IsNoPlainName name flaw
unfolding plain_name_of is_reserved
plain_name_refused name flaw e =
    elim (refused_here_or_next (name_of name) _ flaw e) [
      | inl none ↦ IsNoPlainName.no_name flaw (name_refused name flaw none)
      | inr (x, went, refused) ↦
          let told = refused_where (list_any (bytes_eq name) unused_keywords || list_any (bytes_eq name) used_keywords) tt (here ReservedName) flaw refused in
          let among : IsReserved name = elim (or_cases (list_any (bytes_eq name) unused_keywords) (list_any (bytes_eq name) used_keywords) told.0) [ inl unused ↦ inl (listed unused_keywords name unused) | inr used ↦ inr (listed used_keywords name used) ] in
          holds_of (IsNoPlainName name) (here ReservedName) flaw told.1 (IsNoPlainName.a_reserved_word among)
    ]
