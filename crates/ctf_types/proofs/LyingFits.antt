-- What lies fits: bits can hold no value that a structure's types do not allow. Dynamic arrays have automatic lengths, of 32 bits.
use Rattle.std.proofs.Common.{◌≡◌, ℕ, ◌+◌, ◌*◌, ◌^◌, ◌<◌, ◌≤◌, ◌≢◌, inl, inr, ℤ, pos, negsuc, ◌-ℤ◌, Bool, true, false, List, [], ◌∷◌, ◌++◌, length, All, nat_lt, refl, sym, subst, arith}
use Rattle.std.proofs.lemmas.Bool.{cases_Bool, cond-true, cond-false, ltb-true, ltb-false}
use Rattle.std.proofs.lemmas.Int.{ints}
use Rattle.std.proofs.lemmas.List.Elements.{All-head, All-tail, All-cons, All-nil}
use Rattle.data_types.specs.declared.byte_order.ByteOrder.{ByteOrder}
use Rattle.data_types.specs.declared.int_type.IntType.{IntType}
use Rattle.data_types.specs.declared.member_type.Length.TheVariants.{Auto, At}
use Rattle.data_types.specs.declared.member_type.MemberType.{MemberType}
use Rattle.data_types.specs.declared.member_type.MemberType.TheVariants.{Plain, Dyn}
use Rattle.data_types.specs.declared.struct_type.StructType.{StructType}
use Rattle.data_types.specs.Alignment.{up}
use Rattle.ctf_types.specs.Bits.{number_at, signed_of}
use Rattle.data_types.specs.Chain.{Leaf, Number, Labelled, ByteString}
use Rattle.data_types.specs.Datum.{Datum, Unsigned, Signed, Text, Many, data_in}
use Rattle.data_types.specs.FieldTypes.{chain_of}
use Rattle.ctf_types.specs.Fitting.{InSignedRange, IntFits, TextFits, LeafFits, ListFits, FieldFits, MemberFits, MembersFit, Fits}
use Rattle.ctf_types.specs.Laws.{IsAutomatic, AreAutomatic}
use Rattle.ctf_types.specs.Layout.{leaf_align, elements_in, field_end, member_end, members_start, value_of, IntLies, BytesLie, TextLies, LeafLies, EachLies, ArrayLies, FieldLies, CountLies, MemberLies, MembersLie, StructLies}
use Rattle.ctf_types.proofs.BitsOfBytes.{number_at-below}

-- a number past the half stands for that less the whole
upper_half : (n m : ℕ) (z : ℤ) → z ≡ pos m -ℤ pos (2 ^ n) → m < 2 ^ n → 2 ^ n ≤ 2 * m → InSignedRange n z
upper_half n m (pos x) e h g = omega (arith, ints)
upper_half n m (negsuc x) e h g = omega (arith, ints)

signed_of-fits : (n m : ℕ) → m < 2 ^ n → InSignedRange n (signed_of n m)
unfolding signed_of
signed_of-fits n m h = elim (cases_Bool (nat_lt (2 * m) (2 ^ n))) [
  | inl e ↦ subst (InSignedRange n) (sym (cond-true (nat_lt (2 * m) (2 ^ n)) (pos m) (pos m -ℤ pos (2 ^ n)) e)) (ltb-true (2 * m) (2 ^ n) e)
  | inr e ↦ subst (InSignedRange n) (sym (cond-false (nat_lt (2 * m) (2 ^ n)) (pos m) (pos m -ℤ pos (2 ^ n)) e))
      (upper_half n m (pos m -ℤ pos (2 ^ n)) refl h (ltb-false (2 * m) (2 ^ n) e))
]

value_of-fits : (s : Bool) (n m : ℕ) → m < 2 ^ n → IntFits s n (value_of s n m)
value_of-fits false n m h = h
value_of-fits true n m h = signed_of-fits n m h

-- a bit is 0 or 1
module _ (o : ByteOrder) (b : ℕ → ℕ) (pad : ℕ → ℕ → Type 0) (bits : (j : ℕ) → b j < 2) where
  int_fits : (t : IntType) (p : ℕ) (v : Datum) → IntLies o b pad t p v → IntFits t.signed t.size v
  unfolding IntLies
  int_fits t p v x =
      subst (IntFits t.signed t.size) (sym x.1)
      (value_of-fits t.signed t.size (number_at o b (up p t.align) t.size) (number_at-below o b (up p t.align) t.size bits))

  bytes_fit : (p : ℕ) (s : List ℕ) → BytesLie o b pad p s → All (λ c. (0 < c) × (c < 256)) s
  unfolding BytesLie
  bytes_fit p [] x = All-nil (λ c. (0 < c) × (c < 256))
  bytes_fit p (c ∷ s) x =
      let some : c ≢ 0 = x.1 in
      let below : number_at o b p 8 < 2 ^ 8 = number_at-below o b p 8 bits in
      let is : number_at o b p 8 ≡ c = x.0 in
      All-cons (λ d. (0 < d) × (d < 256)) c s (omega arith, omega arith) (bytes_fit (p + 8) s x.2)

  text_fits : (p : ℕ) (v : Datum) → TextLies o b pad p v → TextFits v
  unfolding TextLies
  text_fits p (Text s) x = bytes_fit (up p 8) s x.1
  text_fits p (Unsigned n) x = x
  text_fits p (Signed z) x = x
  text_fits p (Many ds) x = x

  leaf_fits : (t : Leaf) (p : ℕ) (v : Datum) → LeafLies o b pad t p v → LeafFits t v
  unfolding LeafLies
  leaf_fits (Number t) p v x = int_fits t p v x
  leaf_fits (Labelled t) p v x = int_fits t.int p v x
  leaf_fits ByteString p v x = text_fits p v x

  each_fits : (end : ℕ → Datum → ℕ) (L : ℕ → Datum → Type 0) (F : Datum → Type 0) → ((p : ℕ) (v : Datum) → L p v → F v) →
      (p : ℕ) (vs : List Datum) → EachLies o b pad end L p vs → All F vs
  unfolding EachLies
  each_fits end L F one p [] x = All-nil F
  each_fits end L F one p (v ∷ vs) x = All-cons F v vs (one p v x.0) (each_fits end L F one (end p v) vs x.1)

  array_fits : (n : ℕ) (end : ℕ → Datum → ℕ) (L : ℕ → Datum → Type 0) (F : Datum → Type 0) (N : ℕ → Type 0) → N n → ((p : ℕ) (v : Datum) → L p v → F v) →
      (p : ℕ) (v : Datum) → ArrayLies o b pad n end L p v → ListFits N F v
  unfolding ArrayLies ListFits
  array_fits n end L F N h one p (Many ds) x = (subst N (sym x.0) h, each_fits end L F one p (data_in ds) x.1)
  array_fits n end L F N h one p (Unsigned m) x = x
  array_fits n end L F N h one p (Signed z) x = x
  array_fits n end L F N h one p (Text s) x = x

  pub field_fits : (t : Leaf) (ns : List ℕ) (p : ℕ) (v : Datum) → FieldLies o b pad t ns p v → FieldFits t ns v
  unfolding FieldLies FieldFits
  field_fits t [] p v x = leaf_fits t p v x
  field_fits t (n ∷ ns) p v x =
      array_fits n (field_end t ns) (FieldLies o b pad t ns) (FieldFits t ns) (λ m. m ≡ n) refl (field_fits t ns) (up p (leaf_align t)) v x.1

  pub member_fits : (m : MemberType) (before : List Datum) (p : ℕ) (v : Datum) → IsAutomatic m → MemberLies o b pad m before p v → MemberFits m v
  unfolding MemberLies MemberFits FieldLies CountLies
  member_fits (Plain t) before p v a x = field_fits (chain_of t).leaf (chain_of t).lengths p v x
  member_fits (Dyn t Auto) before p v a x =
      let few : length (elements_in v) < 2 ^ 32 = subst (λ (k : ℕ). k < 2 ^ 32) (x.0).1 (number_at-below o b (up p 8) 32 bits) in
      array_fits (length (elements_in v)) (field_end (chain_of t).leaf (chain_of t).lengths) (FieldLies o b pad (chain_of t).leaf (chain_of t).lengths)
      (FieldFits (chain_of t).leaf (chain_of t).lengths) (λ m. m < 2 ^ 32) few (field_fits (chain_of t).leaf (chain_of t).lengths)
      (up (up p 8 + 32) (leaf_align (chain_of t).leaf)) v (x.1).1
  member_fits (Dyn t (At i)) before p v a x = absurd a

  pub members_fit : (ms : List (List ℕ × MemberType)) (before : List Datum) (p : ℕ) (vs : List Datum) → AreAutomatic ms → MembersLie o b pad ms before p vs → MembersFit ms vs
  unfolding MembersLie MembersFit
  members_fit [] before p [] a x = tt
  members_fit [] before p (v ∷ vs) a x = x
  members_fit (m ∷ ms) before p [] a x = x
  members_fit (m ∷ ms) before p (v ∷ vs) a x = (
    member_fits m.1 before p v (All-head (λ (k : List ℕ × MemberType). IsAutomatic k.1) m ms a) x.0,
    members_fit ms (before ++ v ∷ []) (member_end m.1 p v) vs (All-tail (λ (k : List ℕ × MemberType). IsAutomatic k.1) m ms a) x.1,
  )

  -- what lies in bits fits
  pub struct_fits : (s : StructType) (p : ℕ) (vs : List Datum) → AreAutomatic s.members → StructLies o b pad s p vs → Fits s vs
  unfolding StructLies
  struct_fits s p vs a x = members_fit s.members [] (members_start s.members s.min_align p) vs a x.1
