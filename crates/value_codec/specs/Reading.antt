-- What a reader answers from a bit position on (CTF 1.8.3, sections 4.1 and 4.2): the value that lies there and the position where it ends, or the fault.
-- `b` are the bits, and no field may reach past `limit`. Positions count bits from the packet's start.
-- A field that reaches past the limit is `PastEnd`, also an empty array whose aligned start does, and a string that would begin at the limit.
-- A string that begins before the limit and has no zero byte up to it is `NoTerminator`. The answer is the first fault, in the order of the fields.
use Rattle.std.specs.Prelude.{◌≡◌, ℕ, ◌+◌, ◌-◌, ◌/◌, List, [], ◌∷◌, ◌++◌, Result, Ok, Err, if◌then◌else◌, nat_le, nat_lt, nat_eq}
use Rattle.std.proofs.Common.{suc, zero}
use Rattle.ctf_types.specs.declared.ByteOrder.{ByteOrder}
use Rattle.ctf_types.specs.declared.IntType.{IntType}
use Rattle.ctf_types.specs.declared.Length.{Length}
use Rattle.ctf_types.specs.declared.Length.TheVariants.{Auto, At}
use Rattle.ctf_types.specs.declared.MemberType.{MemberType}
use Rattle.ctf_types.specs.declared.MemberType.TheVariants.{Plain, Dyn}
use Rattle.ctf_types.specs.declared.StructType.{StructType}
use Rattle.ctf_types.specs.Alignment.{up}
use Rattle.ctf_types.specs.Bits.{number_at}
use Rattle.ctf_types.specs.Chain.{Leaf, Number, Labelled, ByteString}
use Rattle.ctf_types.specs.Datum.{Datum, Text, Many, items_of}
use Rattle.ctf_types.specs.FieldTypes.{chain_of}
use Rattle.ctf_types.specs.Layout.{leaf_align, largest_align, value_of, count_at}
use Rattle.ctf_types.specs.declared.Value.{Value}
use Rattle.ctf_types.specs.Values.{datum_of}
use Rattle.value_codec.specs.declared.read_fault.ReadFault.{ReadFault}
use Rattle.value_codec.specs.declared.read_fault.ReadFault.TheVariants.{PastEnd, NoTerminator, OutOfMemory}

-- the answer of the second reading, or the fault of the first
infixl 10 ◌>>=◌
abbrev pub ◌>>=◌ : {A B E : Type 0} → Result A E → (A → Result B E) → Result B E
Ok x >>= f = f x
Err e >>= f = Err e

-- where a field of this alignment begins
unfoldable pub start_at : ℕ → ℕ → ℕ → Result ℕ ReadFault
start_at limit a p = if nat_le (up p a) limit then Ok (up p a) else Err PastEnd

-- n values one after the other, each read from where the one before it ended
unfoldable pub many_at : (ℕ → Result (Datum × ℕ) ReadFault) → ℕ → ℕ → Result (List Datum × ℕ) ReadFault
many_at read zero p = Ok ([], p)
many_at read (suc n) p = do
  v ← read p
  vs ← many_at read n v.1
  Ok (v.0 ∷ vs.0, vs.1)

module _ (o : ByteOrder) (b : ℕ → ℕ) (limit : ℕ) where
  -- the number that n bits of this alignment are
  unfoldable pub bits_at : ℕ → ℕ → ℕ → Result (ℕ × ℕ) ReadFault
  bits_at a n p = if nat_le (up p a + n) limit then Ok (number_at o b (up p a) n, up p a + n) else Err PastEnd

  unfoldable pub int_at : IntType → ℕ → Result (Datum × ℕ) ReadFault
  int_at t p = do
    m ← bits_at t.align t.size p
    Ok (value_of t.signed t.size m.0, m.1)

  -- the bytes up to a zero byte, of which one is among the next n bytes
  unfoldable pub bytes_at : ℕ → ℕ → Result (List ℕ × ℕ) ReadFault
  bytes_at zero p = Err NoTerminator
  bytes_at (suc n) p =
      if nat_eq (number_at o b p 8) 0 then Ok ([], p + 8) else (bytes_at n (p + 8) >>= (λ s. Ok (number_at o b p 8 ∷ s.0, s.1)))

  unfoldable pub text_at : ℕ → Result (List ℕ × ℕ) ReadFault
  text_at p = if nat_lt (up p 8) limit then bytes_at ((limit - up p 8) / 8) (up p 8) else Err PastEnd

  unfoldable pub leaf_at : Leaf → ℕ → Result (Datum × ℕ) ReadFault
  leaf_at (Number t) p = int_at t p
  leaf_at (Labelled t) p = int_at t.int p
  leaf_at ByteString p = do
    s ← text_at p
    Ok (Text s.0, s.1)

  -- what is no array, or an array of these lengths, from the outermost inwards
  unfoldable pub field_at : Leaf → List ℕ → ℕ → Result (Datum × ℕ) ReadFault
  field_at t [] p = leaf_at t p
  field_at t (n ∷ ns) p = do
    s ← start_at limit (leaf_align t) p
    vs ← many_at (field_at t ns) n s
    Ok (Many (items_of vs.0), vs.1)

  -- how many elements a dynamic array has, and where it may begin: an automatic length stands before it, another is among the values before it
  unfoldable pub length_at : List Datum → Length → ℕ → Result (ℕ × ℕ) ReadFault
  length_at before Auto p = bits_at 8 32 p
  length_at before (At i) p = Ok (count_at before i, p)

  -- `before` are the values of the members before this one
  unfoldable pub member_at : List Datum → MemberType → ℕ → Result (Datum × ℕ) ReadFault
  member_at before (Plain t) p = field_at (chain_of t).leaf (chain_of t).lengths p
  member_at before (Dyn t l) p = do
    n ← length_at before l p
    field_at (chain_of t).leaf (n.0 ∷ (chain_of t).lengths) n.1

  -- the values of these members, which stand after those before
  unfoldable pub members_at : List Datum → List (List ℕ × MemberType) → ℕ → Result (List Datum × ℕ) ReadFault
  members_at before [] p = Ok ([], p)
  members_at before (m ∷ ms) p = do
    v ← member_at before m.1 p
    vs ← members_at (before ++ v.0 ∷ []) ms v.1
    Ok (v.0 ∷ vs.0, vs.1)

-- where the first member of a structure may begin; a structure without members is not there
abbrev pub members_begin : ℕ → List (List ℕ × MemberType) → ℕ → ℕ → Result ℕ ReadFault
members_begin limit [] least p = Ok p
members_begin limit (m ∷ ms) least p = start_at limit (largest_align least (m ∷ ms)) p

unfoldable pub struct_at : ByteOrder → (ℕ → ℕ) → ℕ → StructType → ℕ → Result (List Datum × ℕ) ReadFault
struct_at o b limit s p = do
  q ← members_begin limit s.members s.min_align p
  members_at o b limit [] s.members q

-- a value of the program and its end, as the definitions see them
abbrev pub datum_read : Value × ℕ → Datum × ℕ
datum_read r = (datum_of r.0, r.1)

-- an answer of the program is what is read, except that memory may be wanting
abbrev pub Gives : {A B : Type 0} → (A → B) → Result A ReadFault → Result B ReadFault → Type 0
Gives view (Ok x) read = read ≡ Ok (view x)
Gives view (Err PastEnd) read = read ≡ Err PastEnd
Gives view (Err NoTerminator) read = read ≡ Err NoTerminator
Gives view (Err OutOfMemory) read = Unit {0}
