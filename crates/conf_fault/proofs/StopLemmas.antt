-- What stands at a place of a text, where a text is cut or goes on.
use Rattle.std.proofs.Common.{◌≡◌, ◌≢◌, ◌∙◌, ℕ, ◌+◌, ◌-◌, ◌<◌, ◌≤◌, List, true, false, arith, drop, get_or, length, length-drop, inl, inr, length-take, refl, subst, sym, take, ap, Bool}
use Rattle.std.specs.Prelude.{Some}
use Rattle.std.specs.Char.{is_ascii_digit}
use Rattle.std.specs.Float.{float_is_finite}
use Rattle.std.specs.Float.Ieee.{Float, binary64}
use Rattle.std.specs.Float.Parse.{parse_float}
use Rattle.std.specs.List.{count_by, prefix_len}
use Rattle.std.proofs.lemmas.Bool.{cases_lt}
use Rattle.std.proofs.lemmas.List.{drop-take, get_or-drop, get_or-take, take-take}
use Rattle.std.proofs.lemmas.List.Sums.{prefix_len-le-length, prefix_len_passes}
use Rattle.std.proofs.lemmas.Option.{get_or_from_slice_get, slice_get-get_or, slice_get_within}
use Rattle.conf_fault.specs.declared.stop.Reason.{Reason}
use Rattle.conf_fault.specs.declared.stop.Reason.TheVariants as reasons
use Rattle.conf_fault.specs.declared.stop.Stop.{Stop}
use Rattle.conf_fault.specs.declared.stop.TheConstants.{MOST_LEVELS}
use Rattle.conf_fault.specs.Stop.{EndsInDigit, HasReason, IsHalf, IsStop, IsTooLarge, Stands, is_8_to_f, is_backslash, is_d, is_u, opens}

-- how many digits stand at a place, and that the text has as many bytes
pub digits_within : (text : List ℕ) (from count : ℕ) → count ≡ prefix_len is_ascii_digit (drop from text) → count ≢ 0 → from + count ≤ length text
digits_within text from count e some =
    let most = prefix_len-le-length is_ascii_digit (drop from text) in
    let rest = length-drop from text in omega (arith, e, some, most, rest)

pub digits_stand : (text : List ℕ) (from count end : ℕ) → count ≡ prefix_len is_ascii_digit (drop from text) → count ≢ 0 → end ≡ from + count → EndsInDigit text end
digits_stand text from count end e some is =
    let within = digits_within text from count e some in
    let before : end - 1 ≡ from + (count - 1) = omega (arith, some, is) in
    let last : is_ascii_digit (get_or (drop from text) (count - 1) 0) ≡ true = prefix_len_passes is_ascii_digit (drop from text) (count - 1) 0 (omega (arith, e, some)) in (
      omega (arith, some, is),
      (get_or text (end - 1) 0, slice_get-get_or text (end - 1) 0 (omega (arith, some, is, within)), ap (λ i. is_ascii_digit (get_or text i 0)) before ∙ ap is_ascii_digit (sym (get_or-drop from text (count - 1) 0)) ∙ last),
    )

-- the last digit of a number too large
pub too_large : (text : List ℕ) (from end at : ℕ) (number : Float) → EndsInDigit text end → at ≡ end - 1 → parse_float binary64 (take (end - from) (drop from text)) ≡ Some number → float_is_finite number ≡ false
    → IsTooLarge text at
too_large text from end at number digit is parsed infinite =
    let same : end ≡ at + 1 = omega (arith, digit.0, is) in (
      subst (λ (i : ℕ). Stands is_ascii_digit text i) (sym is) digit.1,
      (from, number, subst (λ (i : ℕ). parse_float binary64 (take (i - from) (drop from text)) ≡ Some number) same parsed, infinite),
    )

-- ---- in a text what stands in its front

stands_further : (is : ℕ → Bool) (n : ℕ) (text : List ℕ) (at : ℕ) → Stands is (take n text) at → Stands is text at
stands_further is n text at stands =
    let b = stands.0 in
    let within = slice_get_within (take n text) at b stands.1 in
    let long = length-take n text in
    let same : get_or text at b ≡ b = sym (get_or-take n text at b (omega (arith, within, long))) ∙ get_or_from_slice_get (take n text) at b b stands.1 in
    (b, slice_get-get_or text at b (omega (arith, within, long)) ∙ ap Some same, stands.2)

-- a part of a front
part_of_front : (from k n : ℕ) (text : List ℕ) → from + k ≤ n → take k (drop from (take n text)) ≡ take k (drop from text)
part_of_front from k n text h =
    let cut = drop-take from (n - from) text in
    let all : from + (n - from) ≡ n = omega (arith, h) in
    ap (take k) (subst (λ (m : ℕ). drop from (take m text) ≡ take (n - from) (drop from text)) all cut) ∙ take-take k (n - from) (drop from text) (omega (arith, h))

part_to_place : (from end n : ℕ) (text : List ℕ) → end ≤ n → take (end - from) (drop from (take n text)) ≡ take (end - from) (drop from text)
part_to_place from end n text h = elim (cases_lt end from) [
  | inl past ↦ subst (λ (k : ℕ). take k (drop from (take n text)) ≡ take k (drop from text)) (let none : 0 ≡ end - from = omega (arith, past) in none) refl
  | inr within ↦ part_of_front from (end - from) n text (omega (arith, h, within))
]

half_further : (n : ℕ) (text : List ℕ) (at : ℕ) → at ≤ n → IsHalf (drop at (take n text)) → IsHalf (drop at text)
half_further n text at h half =
    let cut = drop-take at (n - at) text in
    let all : at + (n - at) ≡ n = omega (arith, h) in
    let front = subst IsHalf (subst (λ (m : ℕ). drop at (take m text) ≡ take (n - at) (drop at text)) all cut) half in
    let further = λ (is : ℕ → Bool) (i : ℕ) (stands : Stands is (take (n - at) (drop at text)) i). stands_further is (n - at) (drop at text) i stands in
    (further is_backslash 0 front.0, further is_u 1 front.1, further is_d 2 front.2, further is_8_to_f 3 front.3)

large_further : (n : ℕ) (text : List ℕ) (at : ℕ) → at < n → IsTooLarge (take n text) at → IsTooLarge text at
large_further n text at h large = (
  stands_further is_ascii_digit n text at large.0,
  (large.1.0, large.1.1, ap (parse_float binary64) (sym (part_to_place large.1.0 (at + 1) n text (omega (arith, h)))) ∙ large.1.2, large.1.3),
)

reason_further : (reason : Reason) (n : ℕ) (text : List ℕ) (at : ℕ) → at ≤ length (take n text) → HasReason reason (take n text) at → HasReason reason text at
reason_further reasons.NotJson n text at h has = tt
reason_further reasons.TooDeep n text at h has =
    let long = length-take n text in (stands_further opens n text at has.0, subst (λ (front : List ℕ). MOST_LEVELS ≤ count_by opens front) (take-take at n text (omega (arith, h, long))) has.1)
reason_further reasons.TooLarge n text at h has =
    let long = length-take n text in
    let within = slice_get_within (take n text) at has.0.0 has.0.1 in large_further n text at (omega (arith, within, long)) has
reason_further reasons.HalfCharacter n text at h has =
    let long = length-take n text in half_further n text at (omega (arith, h, long)) has

pub stop_further : (n : ℕ) (text : List ℕ) (stop : Stop) → IsStop (take n text) stop → IsStop text stop
stop_further n text stop is =
    let long = length-take n text in
    let within = is.within in record { within = omega (arith, within, long); reason = reason_further stop.reason n text stop.at is.within is.reason }
