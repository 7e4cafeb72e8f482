-- Why no value is read from a position on, no field past the limit (CTF 1.8.3, sections 4.1 and 4.2): what lies before the field that stops, and what stands there.
-- A field is past the end where its last bit is; an array, also an empty one, where its first element would begin; a text that would begin at the limit.
-- A text is unended where it begins before the limit and none of its bytes up to there is zero. Nothing else stops a reader.
use Rattle.std.specs.Prelude.{◌≡◌, ◌≢◌, ◌⊎◌, ℕ, ◌+◌, ◌*◌, ◌<◌, ◌≤◌, List, [], ◌∷◌, ◌++◌, length}
use Rattle.ctf_types.specs.declared.ByteOrder.{ByteOrder}
use Rattle.ctf_types.specs.declared.Length.TheVariants.{Auto, At}
use Rattle.ctf_types.specs.declared.MemberType.{MemberType}
use Rattle.ctf_types.specs.declared.MemberType.TheVariants.{Plain, Dyn}
use Rattle.ctf_types.specs.declared.StructType.{StructType}
use Rattle.ctf_types.specs.Alignment.{up}
use Rattle.ctf_types.specs.Bits.{number_at}
use Rattle.ctf_types.specs.Chain.{Leaf, Number, Labelled, ByteString}
use Rattle.ctf_types.specs.Datum.{Datum}
use Rattle.ctf_types.specs.FieldTypes.{chain_of}
use Rattle.ctf_types.specs.Layout.{leaf_align, struct_align, count_at, end_all, field_end, members_end, members_start, EachLies, FieldLies, MembersLie, AnyBits}
use Rattle.value_codec.specs.declared.read_fault.ReadFault.{ReadFault}
use Rattle.value_codec.specs.declared.read_fault.ReadFault.TheVariants.{PastEnd, NoTerminator, OutOfMemory}

module _ (o : ByteOrder) (b : ℕ → ℕ) (limit : ℕ) where
  -- so many bits of this alignment reach past the limit
  abbrev pub ReachesPast : ℕ → ℕ → ℕ → Type 0
  ReachesPast align size p = limit < up p align + size

  -- no byte from here up to the limit is zero
  abbrev pub IsUnended : ℕ → Type 0
  IsUnended p = (i : ℕ) → p + 8 * (i + 1) ≤ limit → number_at o b (p + 8 * i) 8 ≢ 0

  unfoldable pub LeafStops : Leaf → ℕ → ReadFault → Type 0
  LeafStops (Number t) p e = (e ≡ PastEnd) × ReachesPast t.align t.size p
  LeafStops (Labelled t) p e = (e ≡ PastEnd) × ReachesPast t.int.align t.int.size p
  LeafStops ByteString p e = ((e ≡ PastEnd) × (limit ≤ up p 8)) ⊎ ((e ≡ NoTerminator) × (up p 8 < limit) × IsUnended (up p 8))

  -- of n elements, the first ones lie within the limit, and the one behind them stops
  pub record ElementStops (n : ℕ) (end : ℕ → Datum → ℕ) (L : ℕ → Datum → Type 0) (S : ℕ → ReadFault → Type 0) (p : ℕ) (e : ReadFault) : Type 0 where
    pub before : List Datum
    pub fewer : length before < n
    pub lie : EachLies o b AnyBits end L p before
    pub within : end_all end p before ≤ limit
    pub stops : S (end_all end p before) e

  -- what is no array, or an array of these lengths, from the outermost inwards
  unfoldable pub FieldStops : Leaf → List ℕ → ℕ → ReadFault → Type 0
  FieldStops t [] p e = LeafStops t p e
  FieldStops t (n ∷ ns) p e =
      ((e ≡ PastEnd) × (limit < up p (leaf_align t))) ⊎ ElementStops n (field_end t ns) (FieldLies o b AnyBits t ns) (FieldStops t ns) (up p (leaf_align t)) e

  -- `before` are the values of the members before this one; an automatic length is itself past the limit, or says how many elements there should be
  unfoldable pub MemberStops : List Datum → MemberType → ℕ → ReadFault → Type 0
  MemberStops before (Plain t) p e = FieldStops (chain_of t).leaf (chain_of t).lengths p e
  MemberStops before (Dyn t Auto) p e =
      ((e ≡ PastEnd) × ReachesPast 8 32 p)
      ⊎ ((up p 8 + 32 ≤ limit) × FieldStops (chain_of t).leaf (number_at o b (up p 8) 32 ∷ (chain_of t).lengths) (up p 8 + 32) e)
  MemberStops before (Dyn t (At i)) p e = FieldStops (chain_of t).leaf (count_at before i ∷ (chain_of t).lengths) p e

  -- of these members, the first ones lie within the limit, and the one behind them stops
  pub record MembersStop (ms : List (List ℕ × MemberType)) (before : List Datum) (p : ℕ) (e : ReadFault) : Type 0 where
    pub front : List (List ℕ × MemberType)
    pub member : List ℕ × MemberType
    pub rest : List (List ℕ × MemberType)
    pub are : ms ≡ front ++ member ∷ rest
    pub values : List Datum
    pub lie : MembersLie o b AnyBits front before p values
    pub within : members_end front p values ≤ limit
    pub stops : MemberStops (before ++ values) member.1 (members_end front p values) e

  -- a structure with members begins past the limit, or one of its members stops
  unfoldable pub StructStops : StructType → ℕ → ReadFault → Type 0
  StructStops s p e =
      ((s.members ≢ []) × (e ≡ PastEnd) × (limit < up p (struct_align s))) ⊎ MembersStop s.members [] (members_start s.members s.min_align p) e

-- a fault of the program has this reason; want of memory has none
abbrev pub ForReason : (ReadFault → Type 0) → ReadFault → Type 0
ForReason S PastEnd = S PastEnd
ForReason S NoTerminator = S NoTerminator
ForReason S OutOfMemory = Unit {0}
