-- What is told of a value at one turn of a walk is the first of the flaws that it has there. Most values have one at most.
use Rattle.std.proofs.Common.{◌≡◌, ◌≢◌, ◌↔◌, ℕ, ℤ, Bool, true, false, cond, List, pos, Option, Some, None, is_some, Result, Ok, Err, inl, inr, refl, sym, ap, subst, ◌∙◌, arith, codes, IsTrue}
use Rattle.conf_values.proofs.LeafFlawLaws.{refused_there}
use Rattle.conf_values.specs.Broken.{SaysNot}
use Rattle.conf_laws.specs.FlawOrder.{BeforeAtTurn}
use Rattle.conf_laws.proofs.Agreement.{Agrees}
use Rattle.conf_laws.proofs.Numbers.{whole_read, lowest_end, highest_end, IsRead, range_read}
use Rattle.conf_laws.proofs.Readings.{some_none, some_same, by_found, by_test}
use Rattle.conf_laws.proofs.TableFlawLaws.{class_judged, shape_judged}
use Rattle.conf_laws.proofs.ValueFlawLaws.{IsJudged, value_judged, whole_excluded, firsts, list_no_number, name_excluded, plain_judged, key_judged, class_word}
use Rattle.conf_laws.proofs.WalkOrderLaws.{IsSameOrBefore, TellsFirst, IsAlone, alone_first}
use Rattle.conf_laws.proofs.Words.{Around, levels_around, IsTaken, IsWhole, IsPair, IsRange, IsNoPowerOfTwo, IsNoLevel, IsNoWholeOrText, IsNoDefault, IsNoRange, IsNoSomeList, IsNoSomeObject, IsNoEntry, IsNoFeature, IsNoSizeFeature, IsNoneAt, IsNoValueOf, IsNoClassAt, IsNoShapeAt, IsNoMemberName, IsNoLabel, IsNoKey, IsNoNameAt, words_of_classes, words_of, class_of, class_rule, shape_of, entries_of, Place, Content, Entries, Keys, form_of, itself_of, Known, is_taken, free_of, key_by, key_of, end_of, single_of, pair_of, range_of, inside_of, Flaw, index, here, within, ◌>>=◌, at, WrongKind, OutOfRange, ReservedName, NameClash, refused_here_or_next, none_refused, whole_refused, name_refused, plain_name_refused, read_there, IsNoObject, IsNoList, IsNoText, IsNoFlag, IsNoWhole, IsNoConfigText, IsNoUuid, IsNoWordOf, IsNoName, IsNoPlainName, name_of, plain_name_of, only_if, Data, array, Items, no_items, item, items_len, Members, no_members, as_array, as_bool, as_object, as_str, class_named, class_said, option_map_or, ⊤}
use Rattle.conf_laws.proofs.Words.places
use Rattle.conf_laws.proofs.Words.contents
use Rattle.conf_laws.proofs.Words.keys

-- ---- values of one flaw at most

whole_alone : (low high : ℤ) (d : Data) → IsAlone (IsNoWhole low high d)
whole_alone low high d = λ f g one other. grind (arith, one, other)

-- a flaw of the value and a whole number that it is: the number is outside
outside_alone : (low high z : ℤ) (d : Data) (f : Flaw) → IsWhole d z → IsNoWhole low high d f → f ≡ here OutOfRange
outside_alone low high z d f whole wrong = grind (arith, whole, wrong)

power_alone : (d : Data) (f g : Flaw) → IsNoPowerOfTwo d f → IsNoPowerOfTwo d g → f ≡ g
power_alone d f g (IsNoPowerOfTwo.no_number one) (IsNoPowerOfTwo.no_number other) = whole_alone (pos 1) (pos 18446744073709551615) d f g one other
power_alone d f g (IsNoPowerOfTwo.no_number one) (IsNoPowerOfTwo.no_power m z is whole none) = outside_alone (pos 1) (pos 18446744073709551615) z d f (m, is, whole) one
power_alone d f g (IsNoPowerOfTwo.no_power m z is whole none) (IsNoPowerOfTwo.no_number other) = sym (outside_alone (pos 1) (pos 18446744073709551615) z d g (m, is, whole) other)
power_alone d f g (IsNoPowerOfTwo.no_power m z is whole none) (IsNoPowerOfTwo.no_power n y there integer neither) = refl

flag_alone : (d : Data) → IsAlone (IsNoFlag d)
flag_alone d = λ f g one other. grind (arith, one, other)

default_alone : (around : Around) (d : Data) (f g : Flaw) → IsNoDefault around d f → IsNoDefault around d g → f ≡ g
default_alone around d f g (IsNoDefault.no_flag one) (IsNoDefault.no_flag other) = flag_alone d f g one other
default_alone around d f g (IsNoDefault.no_flag (IsNoFlag.no_flag none)) (IsNoDefault.a_second is behind) = some_none (as_bool d) true is none
default_alone around d f g (IsNoDefault.a_second is behind) (IsNoDefault.no_flag (IsNoFlag.no_flag none)) = some_none (as_bool d) true is none
default_alone around d f g (IsNoDefault.a_second is behind) (IsNoDefault.a_second too second) = refl

config_text_alone : (d : Data) → IsAlone (IsNoConfigText d)
config_text_alone d = λ f g one other. grind (arith, one, other)

text_alone : (d : Data) → IsAlone (IsNoText d)
text_alone d = λ f g one other. grind (arith, one, other)

uuid_alone : (d : Data) (f g : Flaw) → IsNoUuid d f → IsNoUuid d g → f ≡ g
uuid_alone d f g (IsNoUuid.no_text none) (IsNoUuid.no_text neither) = refl
uuid_alone d f g (IsNoUuid.no_text none) (IsNoUuid.no_uuid s is bad) = some_none (as_str d) s is none
uuid_alone d f g (IsNoUuid.no_uuid s is bad) (IsNoUuid.no_text none) = some_none (as_str d) s is none
uuid_alone d f g (IsNoUuid.no_uuid s is bad) (IsNoUuid.no_uuid t there worse) = refl

word_alone : (words : List (List ℕ)) (d : Data) → IsAlone (IsNoWordOf words d)
word_alone words d = λ f g one other. grind (arith, one, other)

whole_or_text_alone : (low high : ℤ) (d : Data) → IsAlone (IsNoWholeOrText low high d)
whole_or_text_alone low high d = λ f g one other. grind (arith, whole_alone low high d, config_text_alone d, one, other)

level_alone : (levels : Members) (high : ℤ) (d : Data) → IsAlone (IsNoLevel levels high d)
level_alone levels high d = λ f g one other. grind (arith, whole_alone, one, other)

object_alone : (d : Data) → IsAlone (IsNoObject d)
object_alone d = λ f g one other. grind (arith, one, other)

list_alone : (d : Data) → IsAlone (IsNoList d)
list_alone d = λ f g one other. grind (arith, one, other)

some_list_alone : (d : Data) (f g : Flaw) → IsNoSomeList d f → IsNoSomeList d g → f ≡ g
some_list_alone d f g (IsNoSomeList.no_list one) (IsNoSomeList.no_list other) = list_alone d f g one other
some_list_alone d f g (IsNoSomeList.no_list (IsNoList.no_list none)) (IsNoSomeList.has_none is) = some_none (as_array d) no_items is none
some_list_alone d f g (IsNoSomeList.has_none is) (IsNoSomeList.no_list (IsNoList.no_list none)) = some_none (as_array d) no_items is none
some_list_alone d f g (IsNoSomeList.has_none is) (IsNoSomeList.has_none too) = refl

some_object_alone : (d : Data) (f g : Flaw) → IsNoSomeObject d f → IsNoSomeObject d g → f ≡ g
some_object_alone d f g (IsNoSomeObject.no_object one) (IsNoSomeObject.no_object other) = object_alone d f g one other
some_object_alone d f g (IsNoSomeObject.no_object (IsNoObject.no_object none)) (IsNoSomeObject.has_none is) = some_none (as_object d) no_members is none
some_object_alone d f g (IsNoSomeObject.has_none is) (IsNoSomeObject.no_object (IsNoObject.no_object none)) = some_none (as_object d) no_members is none
some_object_alone d f g (IsNoSomeObject.has_none is) (IsNoSomeObject.has_none too) = refl

entry_is : (d : Data) (f : Flaw) → IsNoEntry d f → f ≡ here WrongKind
entry_is d f (IsNoEntry.no_object (IsNoObject.no_object none)) = refl
entry_is d f (IsNoEntry.not_one_property ms is other) = refl

entry_alone : (d : Data) → IsAlone (IsNoEntry d)
entry_alone d = λ f g one other. entry_is d f one ∙ sym (entry_is d g other)

feature_alone : (d : Data) → IsAlone (IsNoFeature d)
feature_alone d = λ f g one other. object_alone d f g one.1 other.1

size_alone : (d : Data) (f g : Flaw) → IsNoSizeFeature d f → IsNoSizeFeature d g → f ≡ g
size_alone d f g (IsNoSizeFeature.no_feature one) (IsNoSizeFeature.no_feature other) = feature_alone d f g one other
size_alone d f g (IsNoSizeFeature.no_feature (none, object)) (IsNoSizeFeature.is_off is) = some_none (as_bool d) false is none
size_alone d f g (IsNoSizeFeature.is_off is) (IsNoSizeFeature.no_feature (none, object)) = some_none (as_bool d) false is none
size_alone d f g (IsNoSizeFeature.is_off is) (IsNoSizeFeature.is_off too) = refl

-- ---- ranges: the ends by index, and then the range

no_list_range : (d : Data) (low high : ℤ) → as_array d ≡ None → IsRange d low high → (z : ℤ) × IsWhole d z
no_list_range d low high none (IsRange.one_number z one) = (z, one)
no_list_range d low high none (IsRange.two_numbers a b x y pair first second) = some_none (as_array d) (item a (item b no_items)) pair none

no_pair_range : (ds : Items) (low high : ℤ) → items_len ds ≢ 2 → ¬ IsRange (array ds) low high
no_pair_range ds low high other (IsRange.one_number z one) = list_no_number (array ds) ds z refl one
no_pair_range ds low high other (IsRange.two_numbers a b x y pair first second) = other (ap items_len (some_same (Some ds) ds (item a (item b no_items)) refl pair))

module _ (around : Around) where
  module _ (d a b : Data) (pair : IsPair d a b) where
    abbrev two : Items
    two = item a (item b no_items)

    first_end : (f g : Flaw) → IsNoWhole lowest_end highest_end a f → IsNoRange around d g → IsSameOrBefore (within (index 0) f) g
    first_end f g wrong (IsNoRange.wrong_number list w) = some_none (as_array d) two pair list
    first_end f g wrong (IsNoRange.no_pair ds is other) = absurd (other (ap items_len (some_same (as_array d) ds two is pair)))
    first_end f g wrong (IsNoRange.wrong_low x y h same w) = inl (ap (within (index 0)) (whole_alone lowest_end highest_end a f h wrong (subst (λ v. IsNoWhole lowest_end highest_end v h) (sym (firsts d a b x y pair same).0) w)))
    first_end f g wrong (IsNoRange.wrong_high x y h same w) = inr (inl (inl (omega arith)))
    first_end f g wrong (IsNoRange.low_above_high low high is less) = inr (inl tt)
    first_end f g wrong (IsNoRange.below_the_integer low high signed n is bits less) = inr (inl tt)
    first_end f g wrong (IsNoRange.above_the_integer low high signed n is bits more) = inr (inl tt)

    second_end : (f g : Flaw) → ((h : Flaw) → ¬ IsNoWhole lowest_end highest_end a h) → IsNoWhole lowest_end highest_end b f → IsNoRange around d g → IsSameOrBefore (within (index 1) f) g
    second_end f g fine wrong (IsNoRange.wrong_number list w) = some_none (as_array d) two pair list
    second_end f g fine wrong (IsNoRange.no_pair ds is other) = absurd (other (ap items_len (some_same (as_array d) ds two is pair)))
    second_end f g fine wrong (IsNoRange.wrong_low x y h same w) = absurd (fine h (subst (λ v. IsNoWhole lowest_end highest_end v h) (sym (firsts d a b x y pair same).0) w))
    second_end f g fine wrong (IsNoRange.wrong_high x y h same w) = inl (ap (within (index 1)) (whole_alone lowest_end highest_end b f h wrong (subst (λ v. IsNoWhole lowest_end highest_end v h) (sym (firsts d a b x y pair same).1) w)))
    second_end f g fine wrong (IsNoRange.low_above_high low high is less) = inr (inl tt)
    second_end f g fine wrong (IsNoRange.below_the_integer low high signed n is bits less) = inr (inl tt)
    second_end f g fine wrong (IsNoRange.above_the_integer low high signed n is bits more) = inr (inl tt)

  -- of what was read as a range
  read_alone : (d : Data) (g : Flaw) (x y : ℤ) → IsRead d x y → IsNoRange around d g → g ≡ here OutOfRange
  read_alone d g x y (IsRange.one_number z one, end, last) (IsNoRange.wrong_number list wrong) = absurd (whole_excluded lowest_end highest_end d z g one end wrong)
  read_alone d g x y (IsRange.two_numbers a b z w pair first second, end, last) (IsNoRange.wrong_number list wrong) = some_none (as_array d) (item a (item b no_items)) pair list
  read_alone d g x y (IsRange.one_number z one, end, last) (IsNoRange.no_pair ds is other) = absurd (list_no_number d ds z is one)
  read_alone d g x y (IsRange.two_numbers a b z w pair first second, end, last) (IsNoRange.no_pair ds is other) = absurd (other (ap items_len (some_same (as_array d) ds (item a (item b no_items)) is pair)))
  read_alone d g x y (IsRange.one_number z one, end, last) (IsNoRange.wrong_low a b f pair wrong) = absurd (list_no_number d (item a (item b no_items)) z pair one)
  read_alone d g x y (IsRange.two_numbers a b z w pair first second, end, last) (IsNoRange.wrong_low c e f other wrong) = absurd (whole_excluded lowest_end highest_end c z f (subst (λ v. IsWhole v z) (firsts d a b c e pair other).0 first) end wrong)
  read_alone d g x y (IsRange.one_number z one, end, last) (IsNoRange.wrong_high a b f pair wrong) = absurd (list_no_number d (item a (item b no_items)) z pair one)
  read_alone d g x y (IsRange.two_numbers a b z w pair first second, end, last) (IsNoRange.wrong_high c e f other wrong) = absurd (whole_excluded lowest_end highest_end e w f (subst (λ v. IsWhole v w) (firsts d a b c e pair other).1 second) last wrong)
  read_alone d g x y read (IsNoRange.low_above_high low high is less) = refl
  read_alone d g x y read (IsNoRange.below_the_integer low high signed n is bits less) = refl
  read_alone d g x y read (IsNoRange.above_the_integer low high signed n is bits more) = refl

  -- of a list that is no pair
  no_pair_alone : (ds : Items) (g : Flaw) → items_len ds ≢ 2 → IsNoRange around (array ds) g → g ≡ here WrongKind
  no_pair_alone ds g other (IsNoRange.wrong_number list wrong) = some_none (Some ds) ds refl list
  no_pair_alone ds g other (IsNoRange.no_pair es is few) = refl
  no_pair_alone ds g other (IsNoRange.wrong_low a b f pair wrong) = absurd (other (ap items_len (some_same (Some ds) ds (item a (item b no_items)) refl pair)))
  no_pair_alone ds g other (IsNoRange.wrong_high a b f pair wrong) = absurd (other (ap items_len (some_same (Some ds) ds (item a (item b no_items)) refl pair)))
  no_pair_alone ds g other (IsNoRange.low_above_high low high is less) = absurd (no_pair_range ds low high other is)
  no_pair_alone ds g other (IsNoRange.below_the_integer low high signed n is bits less) = absurd (no_pair_range ds low high other is)
  no_pair_alone ds g other (IsNoRange.above_the_integer low high signed n is bits more) = absurd (no_pair_range ds low high other is)

  -- of one number
  number_alone : (d : Data) (f g : Flaw) → as_array d ≡ None → IsNoWhole lowest_end highest_end d f → IsNoRange around d g → f ≡ g
  number_alone d f g none wrong (IsNoRange.wrong_number list w) = whole_alone lowest_end highest_end d f g wrong w
  number_alone d f g none wrong (IsNoRange.no_pair ds is other) = some_none (as_array d) ds is none
  number_alone d f g none wrong (IsNoRange.wrong_low a b h pair w) = some_none (as_array d) (item a (item b no_items)) pair none
  number_alone d f g none wrong (IsNoRange.wrong_high a b h pair w) = some_none (as_array d) (item a (item b no_items)) pair none
  number_alone d f g none wrong (IsNoRange.low_above_high low high is less) = let (z, one) = no_list_range d low high none is in outside_alone lowest_end highest_end z d f one wrong
  number_alone d f g none wrong (IsNoRange.below_the_integer low high signed n is bits less) = let (z, one) = no_list_range d low high none is in outside_alone lowest_end highest_end z d f one wrong
  number_alone d f g none wrong (IsNoRange.above_the_integer low high signed n is bits more) = let (z, one) = no_list_range d low high none is in outside_alone lowest_end highest_end z d f one wrong

  -- the test of what was read
  tested_first : (d : Data) (range : _) (test : Bool) (flaw other : Flaw) → range_of d ≡ Ok range → only_if test ≡ Err flaw → IsNoRange around d other → IsSameOrBefore flaw other
  tested_first d range true flaw other went e wrong = absurd cc
  tested_first d range false flaw other went e wrong = let told : here OutOfRange ≡ flaw = cc in inl (sym told ∙ sym (read_alone d other range.low range.high (range_read d range went) wrong))

  range_first : (numbers : _) (d : Data) → TellsFirst (inside_of numbers d) (IsNoRange around d)
  unfolding inside_of range_of pair_of
  range_first numbers (array (item a (item b no_items))) = λ flaw e other wrong.
      let d = array (item a (item b no_items)) in
      elim (refused_here_or_next (pair_of (item a (item b no_items))) _ flaw e) [
        | inl none ↦ elim (refused_here_or_next (at (index 0) (end_of a)) _ flaw none) [
          | inl first ↦ let (f, refused, is) = refused_there (index 0) (end_of a) flaw first in subst (λ x. IsSameOrBefore x other) (sym is) (first_end d a b refl f other (whole_refused lowest_end highest_end a f refused) wrong)
          | inr (x, went, next) ↦ elim (refused_here_or_next (at (index 1) (end_of b)) _ flaw next) [
            | inl second ↦
                let (f, refused, is) = refused_there (index 1) (end_of b) flaw second in
                let (whole, least, most) = whole_read lowest_end highest_end a x (read_there (index 0) (end_of a) x went) in
                subst (λ z. IsSameOrBefore z other) (sym is) (second_end d a b refl f other (λ h. whole_excluded lowest_end highest_end a x h whole (least, most)) (whole_refused lowest_end highest_end b f refused) wrong)
            | inr (y, there, never) ↦ none_refused _ flaw never
          ]
        ]
        | inr (range, went, last) ↦ tested_first d range _ flaw other went last wrong
      ]
  range_first numbers (array ds) = λ flaw e other wrong. let told : here WrongKind ≡ flaw = cc in inl (sym told ∙ sym (no_pair_alone ds other (λ two. omega (arith, two)) wrong))
  range_first numbers d = λ flaw e other wrong.
      elim (refused_here_or_next (single_of d) _ flaw e) [
        | inl none ↦ elim (refused_here_or_next (end_of d) _ flaw none) [
          | inl refused ↦ inl (number_alone d flaw other refl (whole_refused lowest_end highest_end d flaw refused) wrong)
          | inr (x, went, never) ↦ none_refused _ flaw never
        ]
        | inr (range, went, last) ↦ tested_first d range _ flaw other went last wrong
      ]

-- ---- all values

abbrev is_range : Content → Bool
is_range (contents.At places.Range) = true
is_range _ = false

range_there : (content : Content) → is_range content ≡ true → content ≡ contents.At places.Range
range_there content e = grind (arith, e)

module _ (k : Known) (around : Around) (h : Agrees k around) where
  none_alone : (place : Place) (d : Data) → is_range (contents.At place) ≡ false → IsAlone (IsNoneAt around place d)
  none_alone places.Members d other = list_alone d
  none_alone places.ExtraMembers d other = list_alone d
  none_alone places.Ranges d other = some_list_alone d
  none_alone places.Range d other = absurd cc
  none_alone places.Entry d other = entry_alone d
  none_alone places.Mappings d other = some_object_alone d
  none_alone places.Feature d other = feature_alone d
  none_alone places.MagicFeature d other = feature_alone d
  none_alone places.IdentifierFeature d other = feature_alone d
  none_alone places.SizeFeature d other = size_alone d
  none_alone places.Scalar d other = λ f g one two. absurd one
  none_alone places.Ignored d other = λ f g one two. absurd one
  none_alone _ d other = object_alone d

  value_alone : (content : Content) (d : Data) → is_range content ≡ false → IsAlone (IsNoValueOf around content d)
  value_alone (contents.Whole low high) d other = whole_alone low high d
  value_alone (contents.PowerOfTwo high) d other = power_alone d
  value_alone contents.Flag d other = flag_alone d
  value_alone contents.OneFlag d other = default_alone around d
  value_alone (contents.Text most) d other = config_text_alone d
  value_alone contents.ClockName d other = text_alone d
  value_alone contents.Identifier d other = uuid_alone d
  value_alone contents.IdentifierOrAuto d other = λ f g one two. uuid_alone d f g one.1 two.1
  value_alone (contents.Word words) d other = word_alone (words_of words) d
  value_alone contents.Class d other = word_alone words_of_classes d
  value_alone (contents.WholeOrText low high most) d other = whole_or_text_alone low high d
  value_alone (contents.Level high) d other = level_alone (levels_around around) high d
  value_alone (contents.At place) d other = none_alone place d other
  value_alone contents.Anything d other = λ f g one two. absurd one

  range_value : (d : Data) → TellsFirst (itself_of k (contents.At places.Range) d) (IsNoValueOf around (contents.At places.Range) d)
  unfolding itself_of form_of
  range_value d = range_first around k.numbers d

  pub value_first : (content : Content) (d : Data) → TellsFirst (itself_of k content d) (IsNoValueOf around content d)
  value_first content d =
      by_test (λ (b : Bool). is_range content ≡ b → TellsFirst (itself_of k content d) (IsNoValueOf around content d)) (is_range content)
      (λ is e. subst (λ c. TellsFirst (itself_of k c d) (IsNoValueOf around c d)) (sym (range_there content e)) (range_value d))
      (λ is e. alone_first (IsNoValueOf around content d) (itself_of k content d) (value_judged k around h content d) (value_alone content d e)) refl

-- ---- names

-- refused where this holds
abbrev where_so : Bool → Flaw → Result ⊤ Flaw
where_so b f = cond b (Err f) (Ok tt)

cond_refused : (b : Bool) (f flaw : Flaw) → where_so b f ≡ Err flaw → f ≡ flaw
cond_refused true f flaw e = cc
cond_refused false f flaw e = absurd cc

name_alone : (name : List ℕ) (f g : Flaw) → IsNoName name f → IsNoName name g → f ≡ g
name_alone name f g one other = grind (arith, one, other)

bad_first : (name : List ℕ) (f g : Flaw) → IsNoName name f → IsNoPlainName name g → IsSameOrBefore f g
bad_first name f g one (IsNoPlainName.no_name h none) = inl (name_alone name f g one none)
bad_first name f g (IsNoName.no_identifier none) (IsNoPlainName.a_reserved_word reserved) = inr (inr (refl, (9, 10, omega arith, refl, refl)))
bad_first name f g (IsNoName.too_long long) (IsNoPlainName.a_reserved_word reserved) = inr (inr (refl, (9, 10, omega arith, refl, refl)))

plain_first : (name : List ℕ) → TellsFirst (plain_name_of name) (IsNoPlainName name)
unfolding plain_name_of
plain_first name = λ flaw e other wrong.
    elim (refused_here_or_next (name_of name) _ flaw e) [
      | inl bad ↦ bad_first name flaw other (name_refused name flaw bad) wrong
      | inr (x, went, refused) ↦ elim wrong as (λ g w. IsSameOrBefore flaw g) [
        | IsNoPlainName.no_name g none ↦ absurd (name_excluded name g went none)
        | IsNoPlainName.a_reserved_word reserved ↦ inl (sym (cond_refused _ (here ReservedName) flaw refused))
      ]
    ]

-- what is wrong with a name by itself comes before that it is taken
before_clash : (name : List ℕ) (f : Flaw) → IsNoPlainName name f → BeforeAtTurn f (here NameClash)
before_clash name f (IsNoPlainName.no_name g (IsNoName.no_identifier none)) = inr (refl, (9, 11, omega arith, refl, refl))
before_clash name f (IsNoPlainName.no_name g (IsNoName.too_long long)) = inr (refl, (9, 11, omega arith, refl, refl))
before_clash name f (IsNoPlainName.a_reserved_word reserved) = inr (refl, (10, 11, omega arith, refl, refl))

label_alone : (name : List ℕ) → IsAlone (IsNoLabel name)
label_alone name = λ f g one other. grind (arith, one, other)

module _ (k : Known) (around : Around) (h : (name : List ℕ) → IsTrue (is_taken k.taken name) ↔ IsTaken around name) where
  member_name_first : (name : List ℕ) (d : Data) → TellsFirst (plain_name_of name >>= (λ x. free_of k.taken name d)) (IsNoMemberName around name d)
  unfolding free_of
  member_name_first name d = λ flaw e other wrong.
      elim (refused_here_or_next (plain_name_of name) _ flaw e) [
        | inl bad ↦ elim wrong as (λ g w. IsSameOrBefore flaw g) [
          | IsNoMemberName.no_name w ↦ plain_first name flaw bad _ w
          | IsNoMemberName.name_clash taken ↦ inr (before_clash name flaw (plain_name_refused name flaw bad))
          | IsNoMemberName.length_clash dynamic taken ↦ inr (before_clash name flaw (plain_name_refused name flaw bad))
        ]
        | inr (x, went, refused) ↦
            let told : here NameClash ≡ flaw = cond_refused _ (here NameClash) flaw refused in
            let plain : (g : Flaw) → ¬ IsNoPlainName name g = subst (λ r. IsJudged r (IsNoPlainName name)) went (plain_judged name) in
            elim wrong as (λ g w. IsSameOrBefore flaw g) [
              | IsNoMemberName.no_name w ↦ absurd (plain _ w)
              | IsNoMemberName.name_clash taken ↦ inl (sym told)
              | IsNoMemberName.length_clash dynamic taken ↦ inl (sym told)
            ]
      ]

  key_first : (place : Place) (by : Keys) (name : List ℕ) (d : Data) → TellsFirst (key_by k place by name d) (IsNoKey around place by name d)
  unfolding key_by
  key_first place keys.Name name d = λ flaw e other wrong. inl (name_alone name flaw other (name_refused name flaw e) wrong)
  key_first places.Entry keys.PlainName name d = member_name_first name d
  key_first _ keys.PlainName name d = plain_first name
  key_first place keys.Label name d = alone_first (IsNoLabel name) (key_by k place keys.Label name d) (key_judged k around h place keys.Label name d) (label_alone name)
  key_first place keys.Index name d = λ flaw e other wrong. absurd wrong

  pub name_first : (place : Place) (name : List ℕ) (d : Data) → TellsFirst (key_of k place name d) (IsNoNameAt around place name d)
  unfolding key_of
  name_first place name d =
      by_found (λ (o : Option Entries). TellsFirst (option_map_or (λ x. key_by k place x.keys name d) o (Ok tt)) (IsNoNameAt around place name d)) (entries_of place)
      (λ none flaw e other wrong. absurd cc)
      (λ entries is flaw e other wrong.
      let same : wrong.0 ≡ entries = some_same (entries_of place) wrong.0 entries wrong.1 is in
      key_first place entries.keys name d flaw e other (subst (λ (x : Entries). IsNoKey around place x.keys name d other) same wrong.2))

-- ---- classes and shapes

-- a class that is told is a word of the list
class_is_word : (ms : Members) (class : Place) (f : Flaw) → class_of ms ≡ Some class → ¬ SaysNot (codes "class") (IsNoWordOf words_of_classes) ms f
unfolding class_of
class_is_word ms class f is (inl (none, same)) = some_none (class_of ms) class is (ap class_said none)
class_is_word ms class f is (inr (d, g, there, IsNoWordOf.no_text none, same)) = some_none (class_of ms) class is (ap class_said there ∙ ap class_named none)
class_is_word ms class f is (inr (d, g, there, IsNoWordOf.another_word s text other, same)) = other ((class_word s).0 (ap is_some (sym (ap class_said there ∙ ap class_named text) ∙ is)))

says_alone : (name : List ℕ) (words : List (List ℕ)) (ms : Members) (f g : Flaw) → SaysNot name (IsNoWordOf words) ms f → SaysNot name (IsNoWordOf words) ms g → f ≡ g
says_alone name words ms f g one other = grind (arith, word_alone words, one, other)

class_alone : (place : Place) (ms : Members) (f g : Flaw) → IsNoClassAt place ms f → IsNoClassAt place ms g → f ≡ g
class_alone place ms f g (IsNoClassAt.no_class p says) (IsNoClassAt.no_class q told) = says_alone (codes "class") words_of_classes ms f g says told
class_alone place ms f g (IsNoClassAt.no_class p says) (IsNoClassAt.another_class class q other is fails) = absurd (class_is_word ms class f is says)
class_alone place ms f g (IsNoClassAt.no_class p says) (IsNoClassAt.no_array class same is fails) = absurd (class_is_word ms class f is says)
class_alone place ms f g (IsNoClassAt.another_class class q other is fails) (IsNoClassAt.no_class p says) = absurd (class_is_word ms class g is says)
class_alone place ms f g (IsNoClassAt.no_array class same is fails) (IsNoClassAt.no_class p says) = absurd (class_is_word ms class g is says)
class_alone place ms f g (IsNoClassAt.another_class class q other is fails) (IsNoClassAt.another_class c p differs has not) = refl
class_alone place ms f g (IsNoClassAt.another_class class q other is fails) (IsNoClassAt.no_array c same has not) = absurd (other same)
class_alone place ms f g (IsNoClassAt.no_array class same is fails) (IsNoClassAt.another_class c q other has not) = absurd (other same)
class_alone place ms f g (IsNoClassAt.no_array class same is fails) (IsNoClassAt.no_array c alike has not) = refl

pub class_first : (place : Place) (ms : Members) → TellsFirst (class_rule place ms) (IsNoClassAt place ms)
class_first place ms = alone_first (IsNoClassAt place ms) (class_rule place ms) (class_judged place ms) (class_alone place ms)

shape_is : (place : Place) (ms : Members) (f : Flaw) → IsNoShapeAt place ms f → f ≡ here OutOfRange
shape_is place ms f (IsNoShapeAt.no_magic_number is other) = refl
shape_is place ms f (IsNoShapeAt.no_identifier is other) = refl
shape_is place ms f (IsNoShapeAt.no_bits is such) = refl

pub shape_first : (place : Place) (ms : Members) → TellsFirst (shape_of place ms) (IsNoShapeAt place ms)
shape_first place ms = alone_first (IsNoShapeAt place ms) (shape_of place ms) (shape_judged place ms) (λ f g one other. shape_is place ms f one ∙ sym (shape_is place ms g other))
