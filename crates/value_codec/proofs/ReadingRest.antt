-- Reading one by one: what is read so far, and then the rest.
use Rattle.std.proofs.Common.{◌≡◌, ℕ, suc, List, [], ◌∷◌, ◌++◌, refl, ap, ◌∙◌, append_assoc}
use Rattle.std.specs.Prelude.{Result, Ok, Err}
use Rattle.std.proofs.lemmas.List.{append-nil, map-append}
use Rattle.ctf_types.specs.declared.Value.{Value}
use Rattle.ctf_types.specs.Values.{datum_of, data_of}
use Rattle.ctf_types.specs.Datum.{Datum}
use Rattle.value_codec.specs.declared.read_fault.ReadFault.{ReadFault}
use Rattle.value_codec.specs.declared.read_fault.ReadFault.TheVariants.{PastEnd, NoTerminator, OutOfMemory}
use Rattle.value_codec.specs.Reading.{◌>>=◌, many_at, Gives}

-- the values that stand before, with those that are read after them
abbrev pub after : List Datum → Result (List Datum × ℕ) ReadFault → Result (List Datum × ℕ) ReadFault
after vs (Ok x) = Ok (vs ++ x.0, x.1)
after vs (Err e) = Err e

pub after_none : (r : Result (List Datum × ℕ) ReadFault) → r ≡ after [] r
after_none (Ok x) = refl
after_none (Err e) = refl

-- one more value
pub after_one : (vs : List Datum) (v : Datum) (r : Result (List Datum × ℕ) ReadFault)
    → after vs (r >>= (λ x. Ok (v ∷ x.0, x.1))) ≡ after (vs ++ v ∷ []) r
after_one vs v (Ok x) = rw append_assoc refl
after_one vs v (Err e) = refl

pub after_last : (vs : List Datum) (p : ℕ) → after vs (Ok ([], p)) ≡ Ok (vs, p)
after_last vs p = rw append-nil refl

pub many_none : (read : ℕ → Result (Datum × ℕ) ReadFault) (p : ℕ) → many_at read 0 p ≡ Ok ([], p)
unfolding many_at
many_none read p = refl

-- the value that was read stands before the rest
pub many_more : (read : ℕ → Result (Datum × ℕ) ReadFault) (vs : List Datum) (n p : ℕ) (v : Datum) (q : ℕ) → read p ≡ Ok (v, q)
    → after vs (many_at read (suc n) p) ≡ after (vs ++ v ∷ []) (many_at read n q)
unfolding many_at
many_more read vs n p v q h = rw h (after_one vs v (many_at read n q))

pub many_onward : (read : ℕ → Result (Datum × ℕ) ReadFault) (all : Result (List Datum × ℕ) ReadFault) (vs : List Datum) (k n p : ℕ) (v : Datum) (q : ℕ) → k ≡ suc n
    → all ≡ after vs (many_at read k p) → read p ≡ Ok (v, q) → all ≡ after (vs ++ v ∷ []) (many_at read n q)
many_onward read all vs k n p v q e so_far h = rw e at so_far ∙ many_more read vs n p v q h

-- nothing is left to read
pub many_done : (read : ℕ → Result (Datum × ℕ) ReadFault) (all : Result (List Datum × ℕ) ReadFault) (vs : List Datum) (k p : ℕ) → k ≡ 0 → all ≡ after vs (many_at read k p) → all ≡ Ok (vs, p)
many_done read all vs k p e so_far = rw e at so_far ∙ ap (after vs) (many_none read p) ∙ after_last vs p

-- a fault of the next value is that of all
pub many_fault : {A B : Type 0} (view : A → Datum × ℕ) (other : B → List Datum × ℕ) (read : ℕ → Result (Datum × ℕ) ReadFault) (vs : List Datum) (n p : ℕ) (e : ReadFault)
    → Gives view (Err e) (read p) → Gives other (Err e) (after vs (many_at read (suc n) p))
unfolding many_at
many_fault view other read vs n p PastEnd h = rw h refl
many_fault view other read vs n p NoTerminator h = rw h refl
many_fault view other read vs n p OutOfMemory h = tt

-- values of the program, with one more
pub data-push : (vs : List Value) (v : Value) → data_of (vs ++ v ∷ []) ≡ data_of vs ++ datum_of v ∷ []
data-push vs v = map-append datum_of vs (v ∷ [])
