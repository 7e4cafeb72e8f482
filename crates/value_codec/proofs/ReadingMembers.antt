-- What a reader answers of a structure from the answers of its members.
use Rattle.std.proofs.Common.{◌≡◌, ℕ, ◌+◌, ◌<◌, List, [], ◌∷◌, ◌++◌, length, take, get_or, set, refl, ap, ◌∙◌}
use Rattle.std.specs.Prelude.{Result, Ok, Err}
use Rattle.std.proofs.lemmas.List.{take_more, get_or-set_same}
use Rattle.ctf_types.specs.declared.ByteOrder.{ByteOrder}
use Rattle.ctf_types.specs.declared.Length.{Length}
use Rattle.ctf_types.specs.declared.Length.TheVariants.{Auto, At}
use Rattle.ctf_types.specs.declared.MemberType.{MemberType}
use Rattle.ctf_types.specs.declared.MemberType.TheVariants.{Plain, Dyn}
use Rattle.ctf_types.specs.declared.FieldType.{FieldType}
use Rattle.ctf_types.specs.declared.StructType.{StructType}
use Rattle.ctf_types.specs.declared.Value.{Value}
use Rattle.ctf_types.specs.Values.{datum_of, data_of}
use Rattle.ctf_types.specs.Datum.{Datum}
use Rattle.ctf_types.specs.FieldTypes.{chain_of}
use Rattle.ctf_types.specs.Layout.{count_at}
use Rattle.value_codec.specs.declared.read_fault.ReadFault.{ReadFault}
use Rattle.value_codec.specs.declared.read_fault.ReadFault.TheVariants.{PastEnd, NoTerminator, OutOfMemory}
use Rattle.value_codec.specs.Reading.{bits_at, field_at, length_at, member_at, members_at, members_begin, struct_at, Gives}
use Rattle.value_codec.proofs.ReadingRest.{after, after_one, after_last, data-push}

-- ---- a value in the place of another

-- of values of the program, one behind those before it
pub data-place : (vs new : List Value) (i : ℕ) (d : Value) → i < length new → take i new ≡ take i vs
    → data_of (take (i + 1) new) ≡ data_of (take i vs) ++ datum_of (get_or new i d) ∷ []
data-place vs new i d within same = rw (take_more new i d within, same) (data-push (take i vs) (get_or new i d))

-- what was read over a value is the value there
pub read_there : (vs : List Value) (i : ℕ) (d v : Value) (r : Result ℕ ReadFault) (read : Result (Datum × ℕ) ReadFault) → i < length vs
    → Gives (λ end. (datum_of v, end)) r read → Gives (λ end. (datum_of (get_or (set vs i v) i d), end)) r read
read_there vs i d v r read within h = rw (get_or-set_same vs i v d within) h

module _ (o : ByteOrder) (b : ℕ → ℕ) (limit : ℕ) where
  -- ---- a member

  pub member_plain : (before : List Datum) (t : FieldType) (p : ℕ) → member_at o b limit before (Plain t) p ≡ field_at o b limit (chain_of t).leaf (chain_of t).lengths p
  unfolding member_at
  member_plain before t p = refl

  pub length_placed : (before : List Datum) (i p : ℕ) → length_at o b limit before (At i) p ≡ Ok (count_at before i, p)
  unfolding length_at
  length_placed before i p = refl

  pub length_counted : (before : List Datum) (p : ℕ) → length_at o b limit before Auto p ≡ bits_at o b limit 8 32 p
  unfolding length_at
  length_counted before p = refl

  pub member_unmeasured : (before : List Datum) (t : FieldType) (l : Length) (p : ℕ) (e : ReadFault) → length_at o b limit before l p ≡ Err e → member_at o b limit before (Dyn t l) p ≡ Err e
  unfolding member_at
  member_unmeasured before t l p e h = rw h refl

  pub member_measured : (before : List Datum) (t : FieldType) (l : Length) (p n q : ℕ) → length_at o b limit before l p ≡ Ok (n, q)
      → member_at o b limit before (Dyn t l) p ≡ field_at o b limit (chain_of t).leaf (n ∷ (chain_of t).lengths) q
  unfolding member_at
  member_measured before t l p n q h = rw h refl

  -- ---- the members of a structure

  pub members_none : (before : List Datum) (p : ℕ) → members_at o b limit before [] p ≡ Ok ([], p)
  unfolding members_at
  members_none before p = refl

  -- the value that was read stands before the rest
  pub members_more : (vs : List Datum) (m : List ℕ × MemberType) (ms : List (List ℕ × MemberType)) (p : ℕ) (v : Datum) (q : ℕ) → member_at o b limit vs m.1 p ≡ Ok (v, q)
      → after vs (members_at o b limit vs (m ∷ ms) p) ≡ after (vs ++ v ∷ []) (members_at o b limit (vs ++ v ∷ []) ms q)
  unfolding members_at
  members_more vs m ms p v q h = rw h (after_one vs v (members_at o b limit (vs ++ v ∷ []) ms q))

  pub members_onward : (all : Result (List Datum × ℕ) ReadFault) (vs : List Datum) (ms : List (List ℕ × MemberType)) (m : List ℕ × MemberType) (rest : List (List ℕ × MemberType)) (p : ℕ) (v : Datum) (q : ℕ)
      → ms ≡ m ∷ rest → all ≡ after vs (members_at o b limit vs ms p) → member_at o b limit vs m.1 p ≡ Ok (v, q)
      → all ≡ after (vs ++ v ∷ []) (members_at o b limit (vs ++ v ∷ []) rest q)
  members_onward all vs ms m rest p v q e so_far h = rw e at so_far ∙ members_more vs m rest p v q h

  -- nothing is left to read
  pub members_done : (all : Result (List Datum × ℕ) ReadFault) (vs : List Datum) (ms : List (List ℕ × MemberType)) (p : ℕ) → ms ≡ [] → all ≡ after vs (members_at o b limit vs ms p) → all ≡ Ok (vs, p)
  members_done all vs ms p e so_far = rw e at so_far ∙ ap (after vs) (members_none vs p) ∙ after_last vs p

  -- a fault of the next member is that of all
  pub members_fault : {A B : Type 0} (view : A → Datum × ℕ) (other : B → List Datum × ℕ) (vs : List Datum) (m : List ℕ × MemberType) (ms : List (List ℕ × MemberType)) (p : ℕ) (e : ReadFault)
      → Gives view (Err e) (member_at o b limit vs m.1 p) → Gives other (Err e) (after vs (members_at o b limit vs (m ∷ ms) p))
  unfolding members_at
  members_fault view other vs m ms p PastEnd h = rw h refl
  members_fault view other vs m ms p NoTerminator h = rw h refl
  members_fault view other vs m ms p OutOfMemory h = tt

  pub struct_unstarted : (s : StructType) (p : ℕ) (e : ReadFault) → members_begin limit s.members s.min_align p ≡ Err e → struct_at o b limit s p ≡ Err e
  unfolding struct_at
  struct_unstarted s p e h = rw h refl

  pub struct_started : (s : StructType) (p q : ℕ) → members_begin limit s.members s.min_align p ≡ Ok q → members_at o b limit [] s.members q ≡ struct_at o b limit s p
  unfolding struct_at
  struct_started s p q h = rw h refl
