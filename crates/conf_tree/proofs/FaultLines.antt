-- A fault, as it is printed, is one line.
use Rattle.std.proofs.Common.{◌≡◌, ℕ, zero, suc, ◌/◌, ◌%◌, ◌<◌, ◌&&◌, true, false, List, [], ◌∷◌, map, arith, refl, string_bytes}
use Rattle.std.specs.Prelude.{◌==◌, codes, decimal, nat_lt}
use Rattle.std.specs.Fmt.{digit_glyph, digits, digits_onto}
use Rattle.std.specs.List.{All, flat_map, list_all}
use Rattle.std.proofs.lemmas.Bool.{and_parts, cond_both}
use Rattle.std.proofs.lemmas.Bool.Decides.{nat_tests}
use Rattle.std.proofs.lemmas.List.Elements.{All-cons, All-nil}
use Rattle.std.proofs.lemmas.Str.{IsUtf8-string_bytes}
use Rattle.conf_tree.specs.declared.fault.ConfFault.{ConfFault}
use Rattle.conf_tree.specs.declared.fault_kind.FaultKind.{FaultKind}
use Rattle.conf_tree.specs.declared.fault_kind.FaultKind.TheVariants.{NotJson}
use Rattle.conf_tree.specs.declared.step.Step.{Step}
use Rattle.conf_tree.specs.declared.step.Step.TheVariants.{Key, Index}
use Rattle.conf_tree.specs.FaultWords.{flaw_words, further_place, kind_words, way_words}
use Rattle.conf_tree.specs.Flaw.{flaw_of, place_of, text_of_place}
use Rattle.conf_tree.specs.OneLine.{IsOneLine, is_shown}
use Rattle.conf_tree.proofs.OneLineLemmas.{IsPiece, IsPlain, piece_append, piece_nil, piece_shown, plain_piece}

-- ---- fixed words

below : (b : ℕ) → nat_lt b 128 ≡ true → b < 128
below b e = grind (arith, nat_tests)

all_plain : (words : List ℕ) → list_all (λ b. nat_lt b 128 && is_shown b) words ≡ true → All IsPlain words
all_plain [] e = All-nil IsPlain
all_plain (b ∷ words) e =
    let both = and_parts (nat_lt b 128 && is_shown b) (list_all (λ b. nat_lt b 128 && is_shown b) words) e in
    let first = and_parts (nat_lt b 128) (is_shown b) both.0 in All-cons IsPlain b words (below b first.0, first.1) (all_plain words both.1)

fixed : (words : List ℕ) → list_all (λ b. nat_lt b 128 && is_shown b) words ≡ true → IsPiece words
fixed words e = plain_piece words (all_plain words e)

kind_piece : (kind : FaultKind) → IsPiece (kind_words kind)
unfolding digits
kind_piece NotJson = fixed (kind_words NotJson) refl
kind_piece kind = fixed (kind_words kind) refl

-- ---- a number

glyph_plain : (d : ℕ) → d < 10 → IsPlain (digit_glyph false d)
glyph_plain d h = grind (arith, nat_tests)

digits_plain : (k n : ℕ) (behind : List ℕ) → All IsPlain behind → All IsPlain (digits_onto k 10 false n behind)
digits_plain zero n behind h = h
digits_plain (suc k) n behind h =
    let more = All-cons IsPlain (digit_glyph false (n % 10)) behind (glyph_plain (n % 10) (omega arith)) h in
    cond_both (n / 10 == 0) _ _ (All IsPlain) (λ _. more) (λ _. digits_plain k (n / 10) (digit_glyph false (n % 10) ∷ behind) more)

number_piece : (n : ℕ) → IsPiece (decimal n)
unfolding digits
number_piece n = plain_piece (decimal n) (digits_plain 64 n [] (All-nil IsPlain))

-- ---- the way, and the whole

place_piece : (step : Step) → IsPiece (text_of_place (place_of step))
place_piece (Key name) = piece_shown (string_bytes name) (IsUtf8-string_bytes name)
place_piece (Index i) = number_piece i

further_piece : (steps : List Step) → IsPiece (flat_map further_place (map place_of steps))
further_piece [] = piece_nil
further_piece (step ∷ steps) =
    piece_append (further_place (place_of step)) (flat_map further_place (map place_of steps))
    (piece_append (codes "/") (text_of_place (place_of step)) (fixed (codes "/") refl) (place_piece step)) (further_piece steps)

way_piece : (steps : List Step) → IsPiece (way_words (map place_of steps))
way_piece [] = piece_nil
way_piece (step ∷ steps) =
    piece_append _ _ (piece_append _ _ (place_piece step) (further_piece steps)) (fixed (codes ": ") refl)

pub fault_on_one_line : (fault : ConfFault) → IsOneLine (flaw_words (flaw_of fault))
fault_on_one_line fault = (piece_append _ _ (way_piece fault.path) (kind_piece fault.kind)).1
