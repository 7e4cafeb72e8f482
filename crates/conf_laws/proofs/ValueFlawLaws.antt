-- What is told of a value by itself, and of the name of an entry, is a flaw of it; and where nothing is told it has none.
use Rattle.std.proofs.Common.{IsTrue, ◌≡◌, ◌≢◌, ◌⊎◌, ◌↔◌, ◌≤◌, ◌^◌, ◌&&◌, ◌||◌, ℕ, suc, ℤ, pos, ◌<ℤ◌, Bool, true, false, not, cond, List, [], ◌∷◌, map, Contains, Option, Some, None, is_some, Result, Ok, Err, inl, inr, refl, sym, ap, subst, ◌∙◌, arith, get_or, codes, unwrap_or, option_map, nat_lt, nat_le, nat_eq, int_le}
use Rattle.conf_laws.proofs.Agreement.{Agrees, dynamic_told, told_dynamic}
use Rattle.conf_laws.proofs.Numbers.{whole_read, lowest_end, highest_end, IsRead, range_read, some_size}
use Rattle.conf_laws.proofs.Readings.{some_none, some_same, by_found, by_test, under_no_test}
use Rattle.conf_laws.proofs.Words.{false_from_ne_true, Around, enumeration_around, HasBits, IsTaken, IsPowerOfTwo, IsNoPowerOfTwo, IsNoLevel, IsNoWholeOrText, IsNoDefault, IsWhole, IsPair, IsRange, IsNoRange, IsNoSomeList, IsNoSomeObject, IsNoEntry, IsNoFeature, IsNoSizeFeature, IsNoneAt, words_of_classes, IsNoValueOf, IsNoMemberName, IsNoLabel, IsNoKey, IsNoNameAt, ClassWord, class_words, class_in, entries_of, words_of, Place, Content, Entries, Keys, any_object, feature_form as feature, size_feature, form_of, itself_of, Known, only_if, whole_from, is_power_of_two, power_of, whole_or_text, level, leaf_of, is_dynamic, is_taken, free_of, key_by, key_of, all_numbers, natural_in, numbers_of, numbers_in, end_of, pair_of, range_of, is_inside, inside_of, Flaw, PathPart, index, here, within, single_of, ◌>>=◌, at, wanted, text_of, flag_of, whole_of, WrongKind, OutOfRange, ReservedName, NameClash, refused_here_or_next, none_refused, whole_refused, control_there, name_refused, plain_name_refused, word_listed as listed, both_read, IsNoObject, IsNoList, IsNoText, IsNoFlag, IsNoWhole, IsNoConfigText, IsNoUuid, IsNoWordOf, IsControl, IsNoName, IsNoPlainName, name_of, is_reserved, plain_name_of, is_printable, uuid_in, Data, array, Items, no_items, item, Members, no_members, member, items_len, members_len, as_object, as_array, as_str, as_bool, as_number, as_integer, pow_mono, true≢false, false≢true, and_from, option_map_or, or_parts, cases_lt, ltb-false, agree_below_at, list_any_at, list_all_at, bytes_eq-Decides, list_any, bytes_eq, lowest, highest, length_name, unused_keywords, used_keywords, divisors_of_pow, parsed, le-true, le-false, lt_out, below_in, nat_tests, ⊤}
use Rattle.conf_laws.proofs.Words.places
use Rattle.conf_laws.proofs.Words.contents
use Rattle.conf_laws.proofs.Words.keys

-- ---- judgements

-- what a reading refuses is such a flaw, and where it goes well there is none
abbrev pub IsJudged : {A : Type 0} → Result A Flaw → (Flaw → Type 0) → Type 0
IsJudged (Ok x) P = (flaw : Flaw) → ¬ P flaw
IsJudged (Err flaw) P = P flaw

pub both_judged : {A : Type 0} (P : Flaw → Type 0) (r : Result A Flaw) → ((flaw : Flaw) → r ≡ Err flaw → P flaw) → ((x : A) → r ≡ Ok x → (flaw : Flaw) → ¬ P flaw) → IsJudged r P
both_judged P r told clear = grind (arith, told, clear)

pub then_judged : {A B : Type 0} (P : Flaw → Type 0) (r : Result A Flaw) (step : A → Result B Flaw) → ((flaw : Flaw) → r ≡ Err flaw → P flaw) → ((x : A) → r ≡ Ok x → IsJudged (step x) P) → IsJudged (r >>= step) P
then_judged P r step first rest = grind (arith, first, rest)

-- of a value at a place, after whose reading two steps follow
at_judged : {A B C : Type 0} (P : Flaw → Type 0) (place : PathPart) (r : Result A Flaw) (step : A → Result B Flaw) (last : B → Result C Flaw) → ((flaw : Flaw) → r ≡ Err flaw → P (within place flaw)) → ((x : A) → r ≡ Ok x → IsJudged (step x >>= last) P)
    → IsJudged ((at place r >>= step) >>= last) P
at_judged P place r step last first rest = grind (arith, first, rest)

-- of a value of a kind
pub kind_judged : {A B : Type 0} (P : Flaw → Type 0) (o : Option A) (step : A → Result B Flaw) → (o ≡ None → P (here WrongKind)) → ((x : A) → o ≡ Some x → IsJudged (step x) P) → IsJudged (wanted o >>= step) P
kind_judged P o step none each = grind (arith, none, each)

-- of a test
pub test_judged : (P : Flaw → Type 0) (b : Bool) (f : Flaw) → (b ≡ false → P f) → (b ≡ true → (flaw : Flaw) → ¬ P flaw) → IsJudged {A = ⊤} (cond b (Ok tt) (Err f)) P
test_judged P b f fails holds = grind (arith, fails, holds)

-- of a text
text_judged : (P : Flaw → Type 0) (test : List ℕ → Bool) (d : Data) → (as_str d ≡ None → P (here WrongKind)) → ((s : List ℕ) → as_str d ≡ Some s → test s ≡ false → P (here OutOfRange))
    → ((s : List ℕ) → as_str d ≡ Some s → test s ≡ true → (flaw : Flaw) → ¬ P flaw) → IsJudged (text_of d >>= (λ s. only_if (test s))) P
text_judged P test d none fails holds = kind_judged P (as_str d) _ none (λ s is. test_judged P (test s) (here OutOfRange) (fails s is) (holds s is))

-- ---- numbers

-- two orders that cannot both be
not_both_ways : (a b : ℤ) → int_le a b ≡ true → b <ℤ a → ⊥
not_both_ways a b e less = omega (arith, le-true a b e, lt_out b a less)

whole_same : (d : Data) (x z : ℤ) → IsWhole d x → IsWhole d z → x ≡ z
whole_same d x z (m, is, whole) (n, there, integer) = let same : m ≡ n = some_same (as_number d) m n is there in some_same (as_integer n) x z (ap as_integer (sym same) ∙ whole) integer

pub whole_excluded : (low high : ℤ) (d : Data) (z : ℤ) (flaw : Flaw) → IsWhole d z → (int_le low z ≡ true) × (int_le z high ≡ true) → ¬ IsNoWhole low high d flaw
whole_excluded low high d z flaw whole within wrong = grind (arith, not_both_ways, whole, within, wrong)

whole_judged : (low high : ℤ) (d : Data) → IsJudged (whole_from low high d) (IsNoWhole low high d)
unfolding whole_from
whole_judged low high d = then_judged (IsNoWhole low high d) (whole_of low high d) _ (whole_refused low high d) (λ z went flaw. let (whole, least, most) = whole_read low high d z went in whole_excluded low high d z flaw whole (least, most))

no_power : (z : ℤ) → int_le z (pos 18446744073709551615) ≡ true → is_power_of_two z ≡ false → ¬ IsPowerOfTwo z
no_power z most e (k, is) =
    elim (cases_lt k 64) [
      | inl small ↦ false≢true (sym e ∙ ap is_power_of_two is ∙ (agree_below_at (λ j. is_power_of_two (pos (2 ^ j))) (λ j. true) 64 k refl small))
      | inr large ↦
          let above : 2 ^ 64 ≤ 2 ^ k = pow_mono large in
          let below : int_le (pos (2 ^ k)) (pos 18446744073709551615) ≡ true = ap (λ x. int_le x (pos 18446744073709551615)) (sym is) ∙ most in
          omega (arith, above, le-true (pos (2 ^ k)) (pos 18446744073709551615) below)
    ]

power_judged : (d : Data) → IsJudged (power_of d) (IsNoPowerOfTwo d)
unfolding power_of
power_judged d = then_judged (IsNoPowerOfTwo d) (whole_of (pos 1) (pos 18446744073709551615) d) _ (λ flaw r. IsNoPowerOfTwo.no_number (whole_refused (pos 1) (pos 18446744073709551615) d flaw r)) (λ z went. grind (arith, nat_tests, whole_read (pos 1) (pos 18446744073709551615) d z went, whole_excluded (pos 1) (pos 18446744073709551615) d z, divisors_of_pow 63, no_power z, whole_same, IsNoPowerOfTwo.no_power))

-- ---- kinds

some_object : (d : Data) (ms : Members) (flaw : Flaw) → as_object d ≡ Some ms → ¬ IsNoObject d flaw
some_object d ms flaw is (IsNoObject.no_object none) = some_none (as_object d) ms is none

some_list : (d : Data) (ds : Items) (flaw : Flaw) → as_array d ≡ Some ds → ¬ IsNoList d flaw
some_list d ds flaw is (IsNoList.no_list none) = some_none (as_array d) ds is none

some_flag : (d : Data) (b : Bool) (flaw : Flaw) → as_bool d ≡ Some b → ¬ IsNoFlag d flaw
some_flag d b flaw is (IsNoFlag.no_flag none) = some_none (as_bool d) b is none

object_judged : (d : Data) → IsJudged (any_object d) (IsNoObject d)
unfolding any_object
object_judged d = kind_judged (IsNoObject d) (as_object d) _ IsNoObject.no_object (λ ms is flaw. some_object d ms flaw is)

feature_judged : (d : Data) → IsJudged (feature d) (IsNoFeature d)
unfolding feature
feature_judged d = grind (arith, object_judged d)

size_judged : (d : Data) → IsJudged (size_feature d) (IsNoSizeFeature d)
unfolding size_feature
size_judged d = grind (arith, object_judged d, IsNoSizeFeature.no_feature, IsNoSizeFeature.is_off)

items_judged : (d : Data) (ds : Items) → as_array d ≡ Some ds → IsJudged (only_if (nat_lt 0 (items_len ds))) (IsNoSomeList d)
items_judged d no_items is = IsNoSomeList.has_none is
items_judged d (item a ds) is =
    test_judged (IsNoSomeList d) (nat_lt 0 (suc (items_len ds))) (here OutOfRange) (λ fails. absurd (let few = ltb-false 0 (suc (items_len ds)) fails in omega (arith, few)))
    (λ holds flaw wrong. elim wrong as (λ f w. ⊥) [ IsNoSomeList.no_list w ↦ some_list d (item a ds) _ is w | IsNoSomeList.has_none none ↦ absurd cc ])

members_judged : (d : Data) (ms : Members) → as_object d ≡ Some ms → IsJudged (only_if (nat_lt 0 (members_len ms))) (IsNoSomeObject d)
members_judged d no_members is = IsNoSomeObject.has_none is
members_judged d (member k a ms) is =
    test_judged (IsNoSomeObject d) (nat_lt 0 (suc (members_len ms))) (here OutOfRange) (λ fails. absurd (let few = ltb-false 0 (suc (members_len ms)) fails in omega (arith, few)))
    (λ holds flaw wrong. elim wrong as (λ f w. ⊥) [ IsNoSomeObject.no_object w ↦ some_object d (member k a ms) _ is w | IsNoSomeObject.has_none none ↦ absurd cc ])

entry_judged : (d : Data) (ms : Members) → as_object d ≡ Some ms → IsJudged {A = ⊤} (cond (nat_eq (members_len ms) 1) (Ok tt) (Err (here WrongKind))) (IsNoEntry d)
entry_judged d ms is = grind (arith, nat_tests, some_object d ms, is, IsNoEntry.not_one_property)

-- ---- flags and texts

default_judged : (k : Known) (around : Around) → Agrees k around → (d : Data) → IsJudged (flag_of d >>= (λ b. only_if (not (b && k.has_default)))) (IsNoDefault around d)
default_judged k around h d = grind (arith, nat_tests, some_flag d, h.second, IsNoDefault.no_flag, IsNoFlag.no_flag, IsNoDefault.a_second)

-- no character of a text that is shown is one of control
shown_character : (s : List ℕ) (c : ℕ) → is_printable s ≡ true → Contains s c → ¬ IsControl c
shown_character s c e (k, among, is) control =
    let tested : (nat_le 32 c || nat_eq c 10 || nat_eq c 9) ≡ false = grind (arith, nat_tests, control) in
    true≢false (sym e ∙ list_all_at (λ x. nat_le 32 x || nat_eq x 10 || nat_eq x 9) s k c among (ap (λ x. nat_le 32 x || nat_eq x 10 || nat_eq x 9) is ∙ tested))

printable_judged : (d : Data) → IsJudged (text_of d >>= (λ s. only_if (is_printable s))) (IsNoConfigText d)
printable_judged d =
    text_judged (IsNoConfigText d) is_printable d IsNoConfigText.no_text (λ s is fails. let control = control_there s fails in IsNoConfigText.has_control s control.0 is control.1 control.2) (λ s is holds flaw wrong. elim wrong as (λ f w. ⊥) [
      | IsNoConfigText.no_text none ↦ some_none (as_str d) s is none
      | IsNoConfigText.has_control t c there among control ↦ shown_character t c (ap is_printable (some_same (as_str d) t s there is) ∙ holds) among control
    ])

pub none_there : {A : Type 0} (o : Option A) → is_some o ≡ false → o ≡ None
none_there o e = grind (arith, e)

uuid_excluded : (d : Data) (s : List ℕ) (flaw : Flaw) → as_str d ≡ Some s → is_some (parsed s) ≡ true → ¬ IsNoUuid d flaw
uuid_excluded d s flaw is holds (IsNoUuid.no_text none) = some_none (as_str d) s is none
uuid_excluded d s flaw is holds (IsNoUuid.no_uuid t there none) = true≢false (sym holds ∙ ap (λ x. is_some (parsed x)) (some_same (as_str d) s t is there) ∙ ap is_some none)

choice_judged : (d : Data) → IsJudged (text_of d >>= (λ s. only_if (bytes_eq s (codes "auto") || is_some (uuid_in s)))) (λ flaw. (as_str d ≢ Some (codes "auto")) × IsNoUuid d flaw)
unfolding uuid_in
choice_judged d =
    text_judged (λ flaw. (as_str d ≢ Some (codes "auto")) × IsNoUuid d flaw) (λ s. bytes_eq s (codes "auto") || is_some (uuid_in s)) d (λ none. (λ is. some_none (as_str d) (codes "auto") is none, IsNoUuid.no_text none))
    (λ s is fails.
    let parts = or_parts (bytes_eq s (codes "auto")) (is_some (uuid_in s)) fails in
    (λ auto. false≢true (sym parts.0 ∙ (bytes_eq-Decides s (codes "auto")).1 (some_same (as_str d) s (codes "auto") is auto)), IsNoUuid.no_uuid s is (none_there (parsed s) parts.1)))
    (λ s is holds flaw wrong. grind (arith, (bytes_eq-Decides s (codes "auto")).0, uuid_excluded d s, is, holds, wrong))

-- a word of the list is one that the list has by its bytes
pub has_by_bytes : (words : List (List ℕ)) (w : List ℕ) → Contains words w → list_any (bytes_eq w) words ≡ true
has_by_bytes words w (k, among, is) = list_any_at (bytes_eq w) words k w among ((bytes_eq-Decides w (get_or words k w)).1 (sym is))

pub word_excluded : (words : List (List ℕ)) (d : Data) (s : List ℕ) (flaw : Flaw) → as_str d ≡ Some s → Contains words s → ¬ IsNoWordOf words d flaw
word_excluded words d s flaw is among wrong = grind (arith, is, among, wrong)

word_judged : (words : List (List ℕ)) (test : List ℕ → Bool) (d : Data) → ((s : List ℕ) → IsTrue (test s) ↔ Contains words s) → IsJudged (text_of d >>= (λ s. only_if (test s))) (IsNoWordOf words d)
word_judged words test d same =
    text_judged (IsNoWordOf words d) test d IsNoWordOf.no_text (λ s is fails. IsNoWordOf.another_word s is (λ among. false≢true (sym fails ∙ (same s).1 among))) (λ s is holds flaw. word_excluded words d s flaw is ((same s).0 holds))

class_by_bytes : (cs : List ClassWord) (w : List ℕ) → is_some (class_in w cs) ≡ list_any (bytes_eq w) (map (λ c. c.word) cs)
class_by_bytes [] w = refl
class_by_bytes (c ∷ cs) w = grind (arith, nat_tests, bytes_eq-Decides c.word w, bytes_eq-Decides w c.word, class_by_bytes cs w)

pub class_word : (s : List ℕ) → IsTrue (is_some (class_in s class_words)) ↔ Contains words_of_classes s
class_word s = let same = class_by_bytes class_words s in (λ e. listed words_of_classes s (sym same ∙ e), λ among. same ∙ has_by_bytes words_of_classes s among)

whole_or_text_judged : (low high : ℤ) (d : Data) → IsJudged (whole_or_text low high d) (IsNoWholeOrText low high d)
unfolding whole_or_text
whole_or_text_judged low high d = grind (arith, printable_judged d, whole_judged low high d, IsNoWholeOrText.no_number, IsNoWholeOrText.has_control)

level_judged : (levels : Members) (high : ℤ) (d : Data) → IsJudged (level levels high d) (IsNoLevel levels high d)
unfolding level
level_judged levels high d = grind (arith, whole_judged (pos 0) high, IsNoLevel.no_level, IsNoLevel.no_alias, IsNoLevel.alias_is_no_level)

-- ---- ranges

pub list_no_number : (d : Data) (ds : Items) (z : ℤ) → as_array d ≡ Some ds → ¬ IsWhole d z
list_no_number d ds z is whole = grind (arith, is, whole)

pub firsts : (d a b c e : Data) → IsPair d a b → IsPair d c e → (a ≡ c) × (b ≡ e)
firsts d a b c e p q = let same = some_same (as_array d) (item a (item b no_items)) (item c (item e no_items)) p q in (cc, cc)

range_same : (d : Data) (x y low high : ℤ) → IsRange d x y → IsRange d low high → (x ≡ low) × (y ≡ high)
range_same d x y low high one other = grind (arith, whole_same, list_no_number, one, other)

-- a smaller number fails the test
fails_below : (a b : ℤ) → a <ℤ b → int_le b a ≡ false
fails_below a b less = false_from_ne_true (int_le b a) (λ is. not_both_ways b a is less)

module _ (around : Around) where
  -- what holds of the numbers of the enumeration around a value, where they are not all
  sized : {P : Type 0} (test : _ → Bool) → test all_numbers ≡ true → ((signed : Bool) (n : ℕ) → HasBits around signed n → test (record { low = lowest signed n; high = highest signed n }) ≡ false → P) → test (unwrap_or (option_map (λ (e : Bool × Members). numbers_in e.0 e.1) (enumeration_around around)) all_numbers) ≡ false → P
  unfolding numbers_in numbers_of natural_in
  sized {P = P} test all sized_so e = grind (arith, nat_tests, all, sized_so, e)

  numbers_there : (signed : Bool) (n : ℕ) → HasBits around signed n → unwrap_or (option_map (λ (e : Bool × Members). numbers_in e.0 e.1) (enumeration_around around)) all_numbers ≡ numbers_of signed n
  unfolding numbers_in natural_in
  numbers_there signed n bits = grind (arith, bits)

  -- a number that a configuration can hold is outside of those of the enumeration where it is outside of its integer's
  module _ (numbers : _) (agrees : numbers ≡ unwrap_or (option_map (λ (e : Bool × Members). numbers_in e.0 e.1) (enumeration_around around)) all_numbers) (z : ℤ) where
    ends_of : (signed : Bool) (n : ℕ) → HasBits around signed n → (numbers.low ≡ lowest signed n) × (numbers.high ≡ highest signed n)
    ends_of signed n bits = grind (arith, agrees, numbers_there signed n bits, some_size signed n bits.3 bits.4)

    below : int_le lowest_end z ≡ true → (int_le numbers.low z ≡ false) ↔ ((signed : Bool) × (n : ℕ) × HasBits around signed n × (z <ℤ lowest signed n))
    unfolding numbers_in numbers_of natural_in
    below least = grind (arith, nat_tests, agrees, ends_of, least, le-false, below_in, fails_below)

    above : int_le z highest_end ≡ true → (int_le z numbers.high ≡ false) ↔ ((signed : Bool) × (n : ℕ) × HasBits around signed n × (highest signed n <ℤ z))
    above most = (
      λ e. sized (λ s. int_le z s.high) most (λ signed n bits more. (signed, n, bits, below_in (highest signed n) z (le-false z (highest signed n) more))) (ap (λ s. int_le z s.high) (sym agrees) ∙ e),
      λ (signed, n, bits, more). ap (int_le z) (ends_of signed n bits).1 ∙ fails_below (highest signed n) z more,
    )

  -- outside of the numbers of the integer, or empty
  abbrev IsOutside : ℤ → ℤ → Type 0
  IsOutside x y = (y <ℤ x) ⊎ (((signed : Bool) × (n : ℕ) × HasBits around signed n × (x <ℤ lowest signed n)) ⊎ ((signed : Bool) × (n : ℕ) × HasBits around signed n × (highest signed n <ℤ y)))

  inside_excluded : (d : Data) (flaw : Flaw) (x y : ℤ) → IsRead d x y → ¬ IsOutside x y → ¬ IsNoRange around d flaw
  inside_excluded d flaw x y (IsRange.one_number z one, end, last) inside (IsNoRange.wrong_number list wrong) = whole_excluded lowest_end highest_end d z flaw one end wrong
  inside_excluded d flaw x y (IsRange.two_numbers a b z w pair first second, end, last) inside (IsNoRange.wrong_number list wrong) = some_none (as_array d) (item a (item b no_items)) pair list
  inside_excluded d flaw x y (IsRange.one_number z one, end, last) inside (IsNoRange.no_pair ds is other) = list_no_number d ds z is one
  inside_excluded d flaw x y (IsRange.two_numbers a b z w pair first second, end, last) inside (IsNoRange.no_pair ds is other) = other (ap items_len (some_same (as_array d) ds (item a (item b no_items)) is pair))
  inside_excluded d flaw x y (IsRange.one_number z one, end, last) inside (IsNoRange.wrong_low a b f pair wrong) = list_no_number d (item a (item b no_items)) z pair one
  inside_excluded d flaw x y (IsRange.two_numbers a b z w pair first second, end, last) inside (IsNoRange.wrong_low c e f other wrong) = whole_excluded lowest_end highest_end c z f (subst (λ v. IsWhole v z) (firsts d a b c e pair other).0 first) end wrong
  inside_excluded d flaw x y (IsRange.one_number z one, end, last) inside (IsNoRange.wrong_high a b f pair wrong) = list_no_number d (item a (item b no_items)) z pair one
  inside_excluded d flaw x y (IsRange.two_numbers a b z w pair first second, end, last) inside (IsNoRange.wrong_high c e f other wrong) = whole_excluded lowest_end highest_end e w f (subst (λ v. IsWhole v w) (firsts d a b c e pair other).1 second) last wrong
  inside_excluded d flaw x y (read, end, last) inside (IsNoRange.low_above_high low high is less) = let same = range_same d x y low high read is in inside (inl (subst (λ z. y <ℤ z) (sym same.0) (subst (λ z. z <ℤ low) (sym same.1) less)))
  inside_excluded d flaw x y (read, end, last) inside (IsNoRange.below_the_integer low high signed n is bits less) = inside (inr (inl (signed, n, bits, subst (λ z. z <ℤ lowest signed n) (sym (range_same d x y low high read is).0) less)))
  inside_excluded d flaw x y (read, end, last) inside (IsNoRange.above_the_integer low high signed n is bits more) = inside (inr (inr (signed, n, bits, subst (λ z. highest signed n <ℤ z) (sym (range_same d x y low high read is).1) more)))

  module _ (numbers : _) (agrees : numbers ≡ unwrap_or (option_map (λ (e : Bool × Members). numbers_in e.0 e.1) (enumeration_around around)) all_numbers) where
    read_judged : (d : Data) (range : _) → range_of d ≡ Ok range → IsJudged {A = ⊤} (cond (is_inside numbers range) (Ok tt) (Err (here OutOfRange))) (IsNoRange around d)
    unfolding is_inside
    read_judged d range went =
        let read = range_read d range went in
        let is_range = read.0 in
        let x = range.low in
        let y = range.high in
        let low = below numbers agrees x read.1.0 in
        let high = above numbers agrees y read.2.1 in
        test_judged (IsNoRange around d) (int_le x y && int_le numbers.low x && int_le y numbers.high) (here OutOfRange) (λ fails. grind (arith, nat_tests, fails, is_range, low.0, high.0, below_in y x, le-false x y, IsNoRange.low_above_high, IsNoRange.below_the_integer, IsNoRange.above_the_integer)) (λ holds flaw. inside_excluded d flaw x y read (λ outside. grind (arith, not_both_ways x y, low.1, high.1, holds, outside)))

    range_judged : (d : Data) → IsJudged (inside_of numbers d) (IsNoRange around d)
    unfolding inside_of range_of pair_of
    range_judged (array (item a (item b no_items))) =
        let d = array (item a (item b no_items)) in
        at_judged (IsNoRange around d) (index 0) (end_of a) _ _ (λ flaw r. IsNoRange.wrong_low a b flaw refl (whole_refused lowest_end highest_end a flaw r)) (λ x first.
        at_judged (IsNoRange around d) (index 1) (end_of b) _ _ (λ flaw r. IsNoRange.wrong_high a b flaw refl (whole_refused lowest_end highest_end b flaw r)) (λ y second. read_judged d (record { low = x; high = y }) (rw (first, second) refl)))
    range_judged (array ds) = IsNoRange.no_pair ds refl (λ two. omega (arith, two))
    range_judged d =
        then_judged (IsNoRange around d) (single_of d) _ (λ flaw r. elim (refused_here_or_next (end_of d) _ flaw r) [ inl none ↦ IsNoRange.wrong_number refl (whole_refused lowest_end highest_end d flaw none) | inr (x, went, never) ↦ none_refused _ flaw never ])
        (λ range went. read_judged d range went)

-- ---- all values

module _ (k : Known) (around : Around) (h : Agrees k around) where
  none_judged : (place : Place) (d : Data) → IsJudged (form_of k place d) (IsNoneAt around place d)
  unfolding form_of
  none_judged places.Members d = kind_judged (IsNoList d) (as_array d) _ IsNoList.no_list (λ ds is flaw. some_list d ds flaw is)
  none_judged places.ExtraMembers d = kind_judged (IsNoList d) (as_array d) _ IsNoList.no_list (λ ds is flaw. some_list d ds flaw is)
  none_judged places.Ranges d = kind_judged (IsNoSomeList d) (as_array d) _ (λ none. IsNoSomeList.no_list (IsNoList.no_list none)) (items_judged d)
  none_judged places.Range d = range_judged around k.numbers h.numbers d
  none_judged places.Entry d = kind_judged (IsNoEntry d) (as_object d) _ (λ none. IsNoEntry.no_object (IsNoObject.no_object none)) (entry_judged d)
  none_judged places.Mappings d = kind_judged (IsNoSomeObject d) (as_object d) _ (λ none. IsNoSomeObject.no_object (IsNoObject.no_object none)) (members_judged d)
  none_judged places.Feature d = feature_judged d
  none_judged places.MagicFeature d = feature_judged d
  none_judged places.IdentifierFeature d = feature_judged d
  none_judged places.SizeFeature d = size_judged d
  none_judged places.Scalar d = λ flaw wrong. wrong
  none_judged places.Ignored d = λ flaw wrong. wrong
  none_judged _ d = object_judged d

  pub value_judged : (content : Content) (d : Data) → IsJudged (itself_of k content d) (IsNoValueOf around content d)
  unfolding itself_of leaf_of uuid_in
  value_judged (contents.Whole low high) d = whole_judged low high d
  value_judged (contents.PowerOfTwo high) d = power_judged d
  value_judged contents.Flag d = kind_judged (IsNoFlag d) (as_bool d) _ IsNoFlag.no_flag (λ b is flaw. some_flag d b flaw is)
  value_judged contents.OneFlag d = default_judged k around h d
  value_judged (contents.Text most) d = printable_judged d
  value_judged contents.ClockName d = kind_judged (IsNoText d) (as_str d) _ IsNoText.no_text (λ s is flaw wrong. elim wrong as (λ f w. ⊥) [ IsNoText.no_text none ↦ some_none (as_str d) s is none ])
  value_judged contents.Identifier d = text_judged (IsNoUuid d) (λ s. is_some (uuid_in s)) d IsNoUuid.no_text (λ s is fails. IsNoUuid.no_uuid s is (none_there (parsed s) fails)) (λ s is holds flaw. uuid_excluded d s flaw is holds)
  value_judged contents.IdentifierOrAuto d = choice_judged d
  value_judged (contents.Word words) d = word_judged (words_of words) (λ s. list_any (bytes_eq s) (words_of words)) d (λ s. (listed (words_of words) s, has_by_bytes (words_of words) s))
  value_judged contents.Class d = word_judged words_of_classes (λ s. is_some (class_in s class_words)) d class_word
  value_judged (contents.WholeOrText low high most) d = whole_or_text_judged low high d
  value_judged (contents.Level high) d = subst (λ levels. IsJudged (level k.levels high d) (IsNoLevel levels high d)) h.levels (level_judged k.levels high d)
  value_judged (contents.At place) d = none_judged place d
  value_judged contents.Anything d = λ flaw wrong. wrong

-- ---- the names of entries

pub name_excluded : (name : List ℕ) (flaw : Flaw) → name_of name ≡ Ok tt → ¬ IsNoName name flaw
unfolding name_of
name_excluded name flaw e wrong = grind (arith, nat_tests, e, wrong)

pub plain_judged : (name : List ℕ) → IsJudged (plain_name_of name) (IsNoPlainName name)
unfolding plain_name_of is_reserved
plain_judged name =
    both_judged (IsNoPlainName name) (plain_name_of name) (plain_name_refused name) (λ x went flaw wrong. elim wrong as (λ f w. ⊥) [
      | IsNoPlainName.no_name f none ↦ name_excluded name f (both_read (name_of name) _ x went).1 none
      | IsNoPlainName.a_reserved_word reserved ↦
          let free = or_parts (list_any (bytes_eq name) unused_keywords) (list_any (bytes_eq name) used_keywords) (under_no_test _ tt x (here ReservedName) (both_read (name_of name) _ x went).2) in
          elim reserved [ inl there ↦ false≢true (sym free.0 ∙ has_by_bytes unused_keywords name there) | inr there ↦ false≢true (sym free.1 ∙ has_by_bytes used_keywords name there) ]
    ])

module _ (k : Known) (around : Around) (h : (name : List ℕ) → IsTrue (is_taken k.taken name) ↔ IsTaken around name) where
  clash_judged : (name : List ℕ) (d : Data) → ((flaw : Flaw) → ¬ IsNoPlainName name flaw) → IsJudged (free_of k.taken name d) (IsNoMemberName around name d)
  unfolding free_of
  clash_judged name d plain =
      let long = is_dynamic d && is_taken k.taken (length_name name) in
      by_test (λ (b : Bool). IsJudged {A = ⊤} (cond b (Err (here NameClash)) (Ok tt)) (IsNoMemberName around name d)) (is_taken k.taken name || long) (λ clash. grind (arith, nat_tests, (h name).0, (h (length_name name)).0, dynamic_told d, clash, IsNoMemberName.name_clash, IsNoMemberName.length_clash))
      (λ free flaw wrong. let p = or_parts (is_taken k.taken name) long free in elim wrong as (λ f w. ⊥) [
        | IsNoMemberName.no_name w ↦ plain _ w
        | IsNoMemberName.name_clash taken ↦ false≢true (sym p.0 ∙ (h name).1 taken)
        | IsNoMemberName.length_clash dynamic taken ↦ false≢true (sym p.1 ∙ and_from (is_dynamic d) (is_taken k.taken (length_name name)) (told_dynamic d dynamic) ((h (length_name name)).1 taken))
      ])

  pub key_judged : (place : Place) (by : Keys) (name : List ℕ) (d : Data) → IsJudged (key_by k place by name d) (IsNoKey around place by name d)
  unfolding key_by
  key_judged place keys.Name name d = both_judged (IsNoName name) (name_of name) (name_refused name) (λ x went flaw. name_excluded name flaw went)
  key_judged places.Entry keys.PlainName name d =
      then_judged (IsNoMemberName around name d) (plain_name_of name) _ (λ flaw r. IsNoMemberName.no_name (plain_name_refused name flaw r)) (λ x went. clash_judged name d (subst (λ r. IsJudged r (IsNoPlainName name)) went (plain_judged name)))
  key_judged _ keys.PlainName name d = plain_judged name
  key_judged place keys.Label name d =
      test_judged (IsNoLabel name) (is_printable name) (here OutOfRange) (λ fails. let control = control_there name fails in IsNoLabel.has_control control.0 control.1 control.2)
      (λ holds flaw wrong. elim wrong as (λ f w. ⊥) [ IsNoLabel.has_control c among control ↦ shown_character name c holds among control ])
  key_judged place keys.Index name d = λ flaw wrong. wrong

  pub name_judged : (place : Place) (name : List ℕ) (d : Data) → IsJudged (key_of k place name d) (IsNoNameAt around place name d)
  unfolding key_of
  name_judged place name d =
      by_found (λ (o : Option Entries). IsJudged (option_map_or (λ x. key_by k place x.keys name d) o (Ok tt)) (IsNoNameAt around place name d)) (entries_of place)
      (λ none flaw wrong. some_none (entries_of place) wrong.0 wrong.1 none) (λ entries is. grind (arith, is, key_judged place entries.keys name d))
