-- Decimal digits, one more at a time; the lines of a text, one after the other.
use Rattle.std.proofs.Common.{◌≡◌, ◌≢◌, ℕ, ◌+◌, ◌-◌, ◌*◌, ◌<◌, ◌≤◌, List, [], ◌∷◌, ◌++◌, length, take, drop, get_or, refl, ap, ◌∙◌, sym, add-one, arith, Bool, true, false, append_assoc, append-nil, cond, ◌⊎◌, inl, inr, ⊎_elim}
use Rattle.std.specs.Prelude.{Some, None, Result, Ok, Err, nat_le, if◌then◌else◌, ◌&&◌}
use Rattle.std.specs.List.{list_all, slice_split, position, position_or_len, before_first, after_first, All}
use Rattle.std.specs.Result.{OkIff, result_ok}
use Rattle.std.specs.Char.{is_ascii_digit}
use Rattle.std.proofs.Math.Seq.{take-suc}
use Rattle.std.proofs.lemmas.Bool.{le-leb, lt-leb, lt-ltb, cases_lt, true≢false}
use Rattle.std.proofs.lemmas.List.Splits.{slice_split_first, slice_split_none, length-slice_split}
use Rattle.std.proofs.lemmas.List.Quantifiers.{position-Some}
use Rattle.std.proofs.lemmas.List.Sums.{position_or_len_is, fails_before_first}
use Rattle.std.proofs.lemmas.List.Elements.{All-from_get_or}
use Rattle.number_packets.specs.Lines.{decimal_after, is_number, number_in, is_newline, without_empty_end, lines_of, joined, with_first, numbers_from}

-- ---- digits

pub decimal_after-append : (n : ℕ) (s : List ℕ) (c : ℕ) → decimal_after n (s ++ c ∷ []) ≡ 10 * decimal_after n s + (c - 48)
unfolding decimal_after
decimal_after-append n [] c = refl
decimal_after-append n (d ∷ s) c = decimal_after-append (10 * n + (d - 48)) s c

pub decimal_after-more : (n : ℕ) (s : List ℕ) (i : ℕ) → i < length s → decimal_after n (take (i + 1) s) ≡ 10 * decimal_after n (take i s) + (get_or s i 0 - 48)
decimal_after-more n s i h = ap (decimal_after n) (rw add-one (take-suc s i 0 h)) ∙ decimal_after-append n (take i s) (get_or s i 0)

-- ---- the number of a line

Some≢None : (n : ℕ) → Some n ≡ None → ⊥
Some≢None n h = cc

not_chosen : (t : Bool) (n : ℕ) → t ≡ false → (if t then Some n else None) ≡ None
not_chosen true n h = absurd (true≢false h)
not_chosen false n h = refl

second_fails : (a c d : Bool) → a && false && c && d ≡ false
second_fails true c d = refl
second_fails false c d = refl

third_fails : (a b d : Bool) → a && b && false && d ≡ false
third_fails true true d = refl
third_fails true false d = refl
third_fails false b d = refl

pub number_in-empty : (line : List ℕ) → length line ≡ 0 → number_in line ≡ None
unfolding number_in
number_in-empty line e =
    not_chosen (is_number line) (decimal_after 0 line)
    (ap (λ x. x && nat_le (length line) 3 && list_all is_ascii_digit line && nat_le (decimal_after 0 line) 255) (lt-leb 1 (length line) (omega arith)))

pub number_in-long : (line : List ℕ) → 3 < length line → number_in line ≡ None
unfolding number_in
number_in-long line h =
    not_chosen (is_number line) (decimal_after 0 line)
    (ap (λ x. nat_le 1 (length line) && x && list_all is_ascii_digit line && nat_le (decimal_after 0 line) 255) (lt-leb (length line) 3 h)
    ∙ second_fails (nat_le 1 (length line)) (list_all is_ascii_digit line) (nat_le (decimal_after 0 line) 255))

pub number_in-other : (line : List ℕ) → list_all is_ascii_digit line ≡ false → number_in line ≡ None
unfolding number_in
number_in-other line h =
    not_chosen (is_number line) (decimal_after 0 line)
    (ap (λ x. nat_le 1 (length line) && nat_le (length line) 3 && x && nat_le (decimal_after 0 line) 255) h
    ∙ third_fails (nat_le 1 (length line)) (nat_le (length line) 3) (nat_le (decimal_after 0 line) 255))

pub number_in-digits : (line : List ℕ) → 0 < length line → length line ≤ 3 → list_all is_ascii_digit line ≡ true →
    number_in line ≡ (if nat_le (decimal_after 0 line) 255 then Some (decimal_after 0 line) else None)
unfolding number_in
number_in-digits line some few digits =
    ap (λ t. if t then Some (decimal_after 0 line) else None)
    (ap (λ x. x && nat_le (length line) 3 && list_all is_ascii_digit line && nat_le (decimal_after 0 line) 255) (le-leb 1 (length line) some)
    ∙ ap (λ x. true && x && list_all is_ascii_digit line && nat_le (decimal_after 0 line) 255) (le-leb (length line) 3 few)
    ∙ ap (λ x. true && true && x && nat_le (decimal_after 0 line) 255) digits)

pub small_number : {E : Type 0} (r : Result ℕ E) (n : ℕ) → OkIff r (n < 256) n → result_ok r ≡ (if nat_le n 255 then Some n else None)
small_number (Ok x) n h = ap Some h.1 ∙ sym (ap (λ t. if t then Some n else None) (le-leb n 255 (omega (arith, h.0))))
small_number (Err e) n h =
    sym (ap (λ t. if t then Some n else None) (lt-leb n 255 (⊎_elim (λ (l : n < 256). absurd (h l)) (λ (l : 256 ≤ n). omega arith) (cases_lt n 256))))

-- ---- lines

ends-kept : (line : List ℕ) (lines : List (List ℕ)) → 0 < length lines → without_empty_end (line ∷ lines) ≡ line ∷ without_empty_end lines
unfolding without_empty_end
ends-kept line [] h = absurd (omega arith)
ends-kept [] (next ∷ lines) h = refl
ends-kept (c ∷ line) (next ∷ lines) h = refl

-- where a search finds nothing, nothing passes
pub position-none : (p : ℕ → Bool) (xs : List ℕ) → position p xs ≡ None → All (λ x. p x ≡ false) xs
position-none p xs e = go (cases_lt (position_or_len p xs) (length xs))
  where
    go : (position_or_len p xs < length xs) ⊎ (length xs ≤ position_or_len p xs) → All (λ x. p x ≡ false) xs
    go (inl l) =
        let t = lt-ltb (position_or_len p xs) (length xs) l in
        absurd (Some≢None (position_or_len p xs) (sym (ap (λ t. cond t (Some (position_or_len p xs)) None) t) ∙ e))
    go (inr l) = All-from_get_or (λ x. p x ≡ false) xs 0 (λ i h. fails_before_first p xs i 0 (omega arith))

-- the first line ends at the first newline
pub lines_of-first : (text : List ℕ) (end : ℕ) → position is_newline text ≡ Some end → lines_of text ≡ take end text ∷ lines_of (drop (end + 1) text)
lines_of-first text end e =
    let at = position-Some is_newline text end 0 e in
    let is : position_or_len is_newline text ≡ end = position_or_len_is is_newline text end 0 (omega (arith, at.0)) at.2 (λ _. at.1) in
    let split = slice_split_first is_newline text 0 (omega (arith, at.0, is)) in
    ap without_empty_end split
    ∙ ends-kept (before_first is_newline text) (slice_split is_newline (after_first is_newline text)) (omega (arith, length-slice_split is_newline (after_first is_newline text)))
    ∙ ap (λ n. take n text ∷ lines_of (drop (n + 1) text)) is

pub lines_of-last : (text : List ℕ) → text ≢ [] → All (λ c. is_newline c ≡ false) text → lines_of text ≡ text ∷ lines_of []
unfolding without_empty_end
lines_of-last [] some none = absurd (some refl)
lines_of-last (c ∷ text) some none = ap without_empty_end (slice_split_none is_newline (c ∷ text) none)

-- ---- numbers

joined-more : (numbers : List ℕ) (v : ℕ) (found : Result (List ℕ) ℕ) → joined numbers (joined (v ∷ []) found) ≡ joined (numbers ++ v ∷ []) found
joined-more numbers v (Ok found) = ap Ok (sym (append_assoc numbers (v ∷ []) found))
joined-more numbers v (Err n) = refl

pub numbers_from-more : (numbers : List ℕ) (n : ℕ) (text line left : List ℕ) (v : ℕ) → lines_of text ≡ line ∷ lines_of left → number_in line ≡ Some v →
    joined numbers (numbers_from n (lines_of text)) ≡ joined (numbers ++ v ∷ []) (numbers_from (n + 1) (lines_of left))
unfolding numbers_from
numbers_from-more numbers n text line left v first is =
    ap (λ lines. joined numbers (numbers_from n lines)) first
    ∙ ap (λ o. joined numbers (with_first n o (numbers_from (n + 1) (lines_of left)))) is
    ∙ joined-more numbers v (numbers_from (n + 1) (lines_of left))

pub numbers_from-bad : (numbers : List ℕ) (n : ℕ) (text line left : List ℕ) → lines_of text ≡ line ∷ lines_of left → number_in line ≡ None →
    joined numbers (numbers_from n (lines_of text)) ≡ Err n
unfolding numbers_from
numbers_from-bad numbers n text line left first is =
    ap (λ lines. joined numbers (numbers_from n lines)) first
    ∙ ap (λ o. joined numbers (with_first n o (numbers_from (n + 1) (lines_of left)))) is

pub numbers_from-none : (n : ℕ) (text : List ℕ) → length text ≡ 0 → (numbers : List ℕ) → joined numbers (numbers_from n (lines_of text)) ≡ Ok numbers
unfolding numbers_from without_empty_end
numbers_from-none n [] e numbers = ap Ok (append-nil numbers)
numbers_from-none n (c ∷ text) e numbers = absurd (omega arith)
