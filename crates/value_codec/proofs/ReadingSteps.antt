-- What a reader answers from a start that it has found, or has not found.
use Rattle.std.proofs.Common.{◌≡◌, ◌≢◌, ℕ, ◌+◌, ◌-◌, ◌*◌, ◌/◌, ◌%◌, ◌<◌, ◌≤◌, Bool, true, false, cond, leb, eqb, suc, List, [], ◌∷◌, length, take, drop, get_or, length-take, length-drop, get_or-take, get_or-drop, Some, None, refl, ap, sym, ◌∙◌, arith, rules, tests}
use Rattle.std.specs.Prelude.{Result, Ok, Err}
use Rattle.std.specs.List.{position_from, position, slice_range}
use Rattle.std.proofs.lemmas.Iterator.Adapters.{position_from-zero}
use Rattle.std.proofs.lemmas.List.Quantifiers.{position-Some}
use Rattle.bit_codec.proofs.BitLaws.{number_at-byte}
use Rattle.ctf_types.specs.declared.ByteOrder.{ByteOrder}
use Rattle.ctf_types.specs.declared.ByteOrder.TheVariants.{Little}
use Rattle.ctf_types.specs.Alignment.{up}
use Rattle.ctf_types.specs.Bits.{bit_of, number_at}
use Rattle.ctf_types.proofs.Ends.{up-mod, up_of_multiple, up_by_rest}
use Rattle.value_codec.specs.declared.read_fault.ReadFault.{ReadFault}
use Rattle.value_codec.specs.declared.read_fault.ReadFault.TheVariants.{PastEnd, NoTerminator, OutOfMemory}
use Rattle.ctf_types.specs.declared.IntType.{IntType}
use Rattle.ctf_types.specs.Layout.{value_of}
use Rattle.value_codec.specs.Reading.{◌>>=◌, start_at, bits_at, int_at, bytes_at, text_at, Gives}
use Rattle.value_codec.proofs.ReadingLaws.{start_found}

-- ---- faults

-- a fault that is read is an answer
pub gives_fault : {A B : Type 0} (view : A → B) (e : ReadFault) (r : Result B ReadFault) → r ≡ Err e → Gives view (Err e) r
gives_fault view PastEnd r h = h
gives_fault view NoTerminator r h = h
gives_fault view OutOfMemory r h = tt

-- the fault of the first of two readings is an answer of both
pub gives_first : {A B C D : Type 0} (view : A → B) (other : C → D) (e : ReadFault) (r : Result B ReadFault) (f : B → Result D ReadFault) (both : Result D ReadFault)
    → both ≡ (r >>= f) → Gives view (Err e) r → Gives other (Err e) both
gives_first {B = B} view other PastEnd r f both h g = h ∙ ap (λ (x : Result B ReadFault). x >>= f) g
gives_first {B = B} view other NoTerminator r f both h g = h ∙ ap (λ (x : Result B ReadFault). x >>= f) g
gives_first view other OutOfMemory r f both h g = tt

-- ---- the start

pub start_there : (limit a p : ℕ) → 0 < a → p % a ≡ 0 → p ≤ limit → start_at limit a p ≡ Ok p
unfolding start_at
start_there limit a p h m w = rw (up_of_multiple p a h m) (search (tests, rules))

pub start_later : (limit a p : ℕ) → 0 < a → p % a ≢ 0 → p + (a - p % a) ≤ limit → start_at limit a p ≡ Ok (p + (a - p % a))
unfolding start_at
start_later limit a p h m w = rw (up_by_rest p a h m) (search (tests, rules))

pub start_past : (limit a p : ℕ) → 0 < a → p % a ≢ 0 → limit < p + (a - p % a) → start_at limit a p ≡ Err PastEnd
unfolding start_at
start_past limit a p h m w = rw (up_by_rest p a h m) (search (tests, rules))

-- no start: the aligned start is past the limit
pub unstarted : (limit a p : ℕ) (e : ReadFault) → start_at limit a p ≡ Err e → (e ≡ PastEnd) × (limit < up p a)
unfolding start_at
unstarted limit a p e h = tested_err (leb (up p a) limit) (up p a) e PastEnd refl h
  where
    tested_err : (c : Bool) (s : ℕ) (e f : ReadFault) → leb (up p a) limit ≡ c → cond c (Ok s) (Err f) ≡ Err e → (e ≡ f) × (limit < up p a)
    tested_err true s e f t h = absurd (cc)
    tested_err false s e f t h = let past : limit < up p a = search (tests, rules) in (cc, past)

start_found_at : (limit a p s : ℕ) → start_at limit a p ≡ Ok s → s ≡ up p a
start_found_at limit a p s h = (start_found Little (λ _. 0) limit a p s h).0

pub started : (limit a p s : ℕ) → start_at limit a p ≡ Ok s → up p a ≡ s
unfolding start_at
started limit a p s h = sym (start_found_at limit a p s h)

module _ (o : ByteOrder) (b : ℕ → ℕ) (limit : ℕ) where
  pub bits_unstarted : (a n p : ℕ) (e : ReadFault) → start_at limit a p ≡ Err e → bits_at o b limit a n p ≡ Err e
  unfolding bits_at
  bits_unstarted a n p e h =
      let u = unstarted limit a p e h in
      rw u.0 (search (tests, rules))

  pub bits_past : (a n p s : ℕ) → start_at limit a p ≡ Ok s → limit < s + n → bits_at o b limit a n p ≡ Err PastEnd
  unfolding bits_at
  bits_past a n p s h w = rw (started limit a p s h) (search (tests, rules))

  pub bits_there : (a n p s : ℕ) → start_at limit a p ≡ Ok s → s + n ≤ limit → bits_at o b limit a n p ≡ Ok (number_at o b s n, s + n)
  unfolding bits_at
  bits_there a n p s h w = rw (started limit a p s h) (search (tests, rules))

  pub text_unstarted : (p : ℕ) (e : ReadFault) → start_at limit 8 p ≡ Err e → text_at o b limit p ≡ Err e
  unfolding text_at
  text_unstarted p e h =
      let u = unstarted limit 8 p e h in
      rw u.0 (search (tests, rules))

  pub text_past : (p : ℕ) → start_at limit 8 p ≡ Ok limit → text_at o b limit p ≡ Err PastEnd
  unfolding text_at
  text_past p h = rw (started limit 8 p limit h) (search (tests, rules))

  pub text_there : (p s : ℕ) → start_at limit 8 p ≡ Ok s → s < limit → text_at o b limit p ≡ bytes_at o b limit ((limit - s) / 8) s
  unfolding text_at
  text_there p s h w = rw (started limit 8 p s h) (search (tests, rules))

  pub int_unread : (t : IntType) (p : ℕ) (e : ReadFault) → bits_at o b limit t.align t.size p ≡ Err e → int_at o b limit t p ≡ Err e
  unfolding int_at
  int_unread t p e h = rw h refl

  pub int_there : (t : IntType) (p n q : ℕ) → bits_at o b limit t.align t.size p ≡ Ok (n, q) → int_at o b limit t p ≡ Ok (value_of t.signed t.size n, q)
  unfolding int_at
  int_there t p n q h = rw h refl

  -- ---- strings

  -- these bytes lie at a position, one after the other
  abbrev Holds : List ℕ → ℕ → Type 0
  Holds xs p = (i : ℕ) → i < length xs → number_at o b (p + 8 * i) 8 ≡ get_or xs i 0

  holds_tail : (x : ℕ) (xs : List ℕ) (p : ℕ) → Holds (x ∷ xs) p → Holds xs (p + 8)
  holds_tail x xs p h i l =
      let place : p + 8 + 8 * i ≡ p + 8 * suc i = omega arith in
      rw place (h (suc i) (omega arith))

  first_of_all : (x : ℕ) (xs : List ℕ) (p : ℕ) → Holds (x ∷ xs) p → number_at o b p 8 ≡ x
  first_of_all x xs p h = let here : p + 8 * 0 ≡ p = omega arith in rw here at (h 0 (omega arith))

  -- the zero byte that comes first, counted from j on, ends the text
  abbrev Ends : List ℕ → ℕ → ℕ → ℕ → Type 0
  Ends xs p j n = (j ≤ n) × (bytes_at o b limit (length xs) p ≡ Ok (take (n - j) xs, p + 8 * (n - j + 1)))

  some_step : (x : ℕ) (xs : List ℕ) (p j n : ℕ) → number_at o b p 8 ≡ x → (position_from (λ c. eqb c 0) (j + 1) xs ≡ Some n → Ends xs (p + 8) (j + 1) n)
      → (c : Bool) → eqb x 0 ≡ c → cond c (Some j) (position_from (λ c. eqb c 0) (j + 1) xs) ≡ Some n → Ends (x ∷ xs) p j n
  unfolding bytes_at
  some_step x xs p j n first ih true t e =
      let same : j ≡ n = cc in
      let none : n - j ≡ 0 = omega arith in
      let there : p + 8 * (0 + 1) ≡ p + 8 = omega arith in
      (omega arith, rw (first, t, none, there) refl)
  some_step x xs p j n first ih false t e =
      let rest = ih e in
      let one_more : n - j ≡ suc (n - (j + 1)) = omega (arith, rest.0) in
      let there : p + 8 + 8 * (n - (j + 1) + 1) ≡ p + 8 * (suc (n - (j + 1)) + 1) = omega arith in
      (omega (arith, rest.0), rw (first, t, one_more, rest.1, there) refl)

  pub text_some : (xs : List ℕ) (p j n : ℕ) → Holds xs p → position_from (λ c. eqb c 0) j xs ≡ Some n → Ends xs p j n
  text_some [] p j n h e = absurd (cc)
  text_some (x ∷ xs) p j n h e = some_step x xs p j n (first_of_all x xs p h) (text_some xs (p + 8) (j + 1) n (holds_tail x xs p h)) (eqb x 0) refl e

  none_step : (x : ℕ) (xs : List ℕ) (p j : ℕ) → number_at o b p 8 ≡ x → (position_from (λ c. eqb c 0) (j + 1) xs ≡ None → bytes_at o b limit (length xs) (p + 8) ≡ Err NoTerminator)
      → (c : Bool) → eqb x 0 ≡ c → cond c (Some j) (position_from (λ c. eqb c 0) (j + 1) xs) ≡ None → bytes_at o b limit (length (x ∷ xs)) p ≡ Err NoTerminator
  unfolding bytes_at
  none_step x xs p j first ih true t e = absurd (cc)
  none_step x xs p j first ih false t e = rw (first, t, ih e) refl

  pub text_none : (xs : List ℕ) (p j : ℕ) → Holds xs p → position_from (λ c. eqb c 0) j xs ≡ None → bytes_at o b limit (length xs) p ≡ Err NoTerminator
  unfolding bytes_at
  text_none [] p j h e = refl
  text_none (x ∷ xs) p j h e = none_step x xs p j (first_of_all x xs p h) (text_none xs (p + 8) (j + 1) (holds_tail x xs p h)) (eqb x 0) refl e

-- the bytes of a slice from one index up to another, as they lie
module _ (o : ByteOrder) (bytes : List ℕ) (limit p s : ℕ) (begins : start_at limit 8 p ≡ Ok s) (inside : s < limit) (within : limit ≤ 8 * length bytes) (fits : (i : ℕ) → get_or bytes i 0 < 256) where
  on_a_byte : s % 8 ≡ 0
  on_a_byte = rw (started limit 8 p s begins) at (up-mod p 8)

  whole_bytes : length (slice_range bytes (s / 8) (limit / 8)) ≡ (limit - s) / 8
  whole_bytes = simp (length-take, length-drop) (omega (arith, on_a_byte))

  slice_holds : Holds o (bit_of o bytes) limit (slice_range bytes (s / 8) (limit / 8)) s
  slice_holds i l =
      let place : s + 8 * i ≡ 8 * (s / 8 + i) = omega (arith, on_a_byte) in
      let below : i < limit / 8 - s / 8 = omega (arith, whole_bytes, on_a_byte) in
      rw place (number_at-byte o bytes (s / 8 + i) (fits (s / 8 + i)) ∙ sym (get_or-take (limit / 8 - s / 8) (drop (s / 8) bytes) i 0 below ∙ get_or-drop (s / 8) bytes i 0))

  pub text_ended : (n : ℕ) → position (λ c. eqb c 0) (slice_range bytes (s / 8) (limit / 8)) ≡ Some n
      → (text_at o (bit_of o bytes) limit p ≡ Ok (take n (slice_range bytes (s / 8) (limit / 8)), s + 8 * (n + 1))) × (s + 8 * (n + 1) ≤ limit)
  text_ended n e =
      let xs : List ℕ = slice_range bytes (s / 8) (limit / 8) in
      let is = text_some o (bit_of o bytes) limit xs s 0 n slice_holds (sym (position_from-zero (λ c. eqb c 0) xs) ∙ e) in
      let whole : n - 0 ≡ n = omega arith in
      let read = rw (whole_bytes, whole) at is.1 in
      let among = position-Some (λ c. eqb c 0) xs n 0 e in
      (text_there o (bit_of o bytes) limit p s begins inside ∙ read, omega (arith, among.0, whole_bytes))

  pub text_unended : position (λ c. eqb c 0) (slice_range bytes (s / 8) (limit / 8)) ≡ None → text_at o (bit_of o bytes) limit p ≡ Err NoTerminator
  text_unended e =
      let xs : List ℕ = slice_range bytes (s / 8) (limit / 8) in
      let none = text_none o (bit_of o bytes) limit xs s 0 slice_holds (sym (position_from-zero (λ c. eqb c 0) xs) ∙ e) in
      text_there o (bit_of o bytes) limit p s begins inside ∙ (rw whole_bytes at none)
