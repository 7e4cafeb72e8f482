use Rattle.std.proofs.Common.{◌≡◌, ◌+◌, ◌<◌, ◌≤◌, List, ℕ, ◌++◌, ◌∙◌, ap, append_assoc, arith, drop, inl, inr, length, length-take, subst, sym, take}
use Rattle.std.specs.Prelude.{IsUtf8, MatchOption, None, Option, Some, encode_utf8}
use Rattle.std.specs.Str.Iter.{chars_rest}
use Rattle.std.proofs.lemmas.Bool.{cases_lt}
use Rattle.std.proofs.lemmas.List.{take-append-drop}
use Rattle.conf_fault.specs.Explanation.{BeginsNone, BeginsWith}
use Rattle.conf_fault.proofs.not_json.first_character.Goals as goal

-- the first character of a text, of the bytes at whose front the text stands
first_of : (X : Type 0) (r : Option ℕ) (rest after text bytes back : List ℕ) → rest ≡ text → 0 < length text → bytes ≡ text ++ back → MatchOption r ((length rest ≡ 0) × X) (λ c. rest ≡ encode_utf8 c ++ after)
    → MatchOption r (BeginsNone bytes) (BeginsWith bytes)
first_of X None rest after text bytes back e some b steps = absurd (let same : length rest ≡ length text = ap length e in omega (arith, same, some, steps.0))
first_of X (Some c) rest after text bytes back e some b steps = (after ++ back, b ∙ ap (λ z. z ++ back) (sym e ∙ steps) ∙ append_assoc (encode_utf8 c) after back)

-- a byte more
none_further : (bytes : List ℕ) (len : ℕ) → ((count : ℕ) → 0 < count → count ≤ len → ¬ IsUtf8 (take count bytes)) → ¬ IsUtf8 (take (len + 1) bytes) → (count : ℕ) → 0 < count → count ≤ len + 1 → ¬ IsUtf8 (take count bytes)
none_further bytes len so_far last count some few = elim (cases_lt len count) [
  | inl all ↦ let same : len + 1 ≡ count = omega (arith, few, all) in subst (λ (n : ℕ). ¬ IsUtf8 (take n bytes)) same last
  | inr less ↦ so_far count some less
]

pub loop-len-preserved : goal.loop-len-preserved
loop-len-preserved c = none_further c.args.bytes.now c.loop-len.len c.loop-len.invariant c.in_default.ensures.cases.0

pub returns-in-Ok : goal.returns-in-Ok
returns-in-Ok c =
    let bytes = c.args.bytes.now in
    let len = c.loop-len.len + 1 in
    let back = drop len bytes in
    let long = length-take len bytes in
    let same = ap length c.in-Ok.ensures.cases.0 in
    first_of _ c.next.result (chars_rest c.chars.result) (chars_rest c.next.new.self) c.in-Ok.text.now bytes back c.chars.ensures.rest (omega (arith, long, same, c.loop-len-test.true, c.min-len-end.ensures))
    (sym (ap (λ z. z ++ back) c.in-Ok.ensures.cases.0 ∙ take-append-drop len bytes)) c.next.ensures.steps.0

pub returns : goal.returns
returns c = λ count some few. c.loop-len.invariant count some (omega (arith, few, c.loop-len-test.false, c.min-len-end.ensures))
