-- Records that a tracer writes: from values that lie under a configuration's structures to a record that lies under its metadata, with its shown values.
-- A record of an allowed event record type has bits.
use Rattle.std.proofs.Common.{◌≡◌, ℕ, zero, suc, ◌+◌, ◌<◌, ◌≤◌, ◌⊎◌, inl, inr, List, [], ◌∷◌, ◌++◌, length, slice_get, All, Option, Some, None, IsSome, codes, refl, sym, ap, subst, ◌∙◌, arith, get_or}
use Rattle.std.proofs.lemmas.List.Elements.{All-nil, All-cons, All-head, All-tail, All-weaker}
use Rattle.std.proofs.lemmas.Bool.{false≢true}
use Rattle.data_types.specs.declared.byte_order.ByteOrder.{ByteOrder}
use Rattle.data_types.specs.declared.field_type.FieldType.TheVariants.{Int}
use Rattle.data_types.specs.declared.int_type.IntType.{IntType}
use Rattle.data_types.specs.declared.member_type.Length.TheVariants.{Auto, At}
use Rattle.data_types.specs.declared.member_type.MemberType.{MemberType}
use Rattle.data_types.specs.declared.member_type.MemberType.TheVariants.{Plain, Dyn}
use Rattle.data_types.specs.declared.struct_type.StructType.{StructType}
use Rattle.data_types.specs.declared.config.StreamType.{StreamType}
use Rattle.data_types.specs.declared.config.EventType.{EventType}
use Rattle.data_types.specs.Alignment.{up}
use Rattle.ctf_types.specs.AllowedConfig.{IsConfigMember, AreConfigMembers, MemberHasBits, StructHasBits, IsEventType, IsStreamType}
use Rattle.data_types.specs.Chain.{Leaf}
use Rattle.data_types.specs.Datum.{Datum, Unsigned, Signed, Text, Many, data_in}
use Rattle.data_types.specs.FieldTypes.{chain_of}
use Rattle.ctf_types.specs.Laws.{IsAutomatic, AreAutomatic}
use Rattle.ctf_types.specs.Layout.{leaf_align, elements_in, end_all, field_end, member_end, members_end, members_start, struct_end, structs_end, EachLies, ArrayLies, FieldLies, MemberLies, MembersLie, StructLies, StructsLie}
use Rattle.ctf_types.specs.MetadataOf.{number_member, struct_with, event_header_of, event_of, events_of, stream_of}
use Rattle.ctf_types.specs.Packets.{event_with, number_named, number_or_zero, Before, ClockIs, RecordLies}
use Rattle.ctf_types.specs.Shown.{shown}
use Rattle.ctf_types.proofs.Ends.{le-up, leaf_is_aligned, lt-leaf_end, le-end_all, le-field_end, le-member_end, le-members_end, le-members_start, le-struct_end}
use Rattle.ctf_types.proofs.Numbered.{event_with-events_of}
use Rattle.ctf_types.proofs.ShownLies.{structs_lie_shown, structs_end-shown, shown_each}

-- ---- a configuration's members have automatic lengths

pub automatic_of_config : (m : MemberType) → IsConfigMember m → IsAutomatic m
automatic_of_config (Plain t) h = tt
automatic_of_config (Dyn t Auto) h = tt
automatic_of_config (Dyn t (At i)) h = absurd h

pub all_automatic_of_config : (ms : List (List ℕ × MemberType)) → AreConfigMembers ms → AreAutomatic ms
all_automatic_of_config ms h =
    All-weaker (λ (m : List ℕ × MemberType). IsConfigMember m.1) (λ (m : List ℕ × MemberType). IsAutomatic m.1) (λ m. automatic_of_config m.1) ms h.types

-- ---- values have bits

module _ (o : ByteOrder) (b : ℕ → ℕ) (pad : ℕ → ℕ → Type 0) where
  -- an array that is not empty has its first element's bits
  array_has_bits : (n : ℕ) (end : ℕ → Datum → ℕ) (L : ℕ → Datum → Type 0) → 0 < n → ((p : ℕ) (v : Datum) → p ≤ end p v) → ((p : ℕ) (v : Datum) → L p v → p < end p v) →
      (p : ℕ) (v : Datum) → ArrayLies o b pad n end L p v → p < end_all end p (elements_in v)
  unfolding ArrayLies EachLies end_all
  array_has_bits n end L some rises one p (Many ds) x = go (data_in ds) x.0 x.1
    where
      go : (vs : List Datum) → length vs ≡ n → EachLies o b pad end L p vs → p < end_all end p vs
      go [] e y = absurd (omega arith)
      go (v ∷ vs) e y = omega (arith, one p v y.0, le-end_all end rises (end p v) vs)
  array_has_bits n end L some rises one p (Unsigned m) x = absurd x
  array_has_bits n end L some rises one p (Signed z) x = absurd x
  array_has_bits n end L some rises one p (Text s) x = absurd x

  pub field_has_bits : (t : Leaf) (ns : List ℕ) (p : ℕ) (v : Datum) → All (λ n. 0 < n) ns → FieldLies o b pad t ns p v → p < field_end t ns p v
  unfolding FieldLies field_end
  field_has_bits t [] p v h x = lt-leaf_end t p v
  field_has_bits t (n ∷ ns) p v h x =
      let u : p ≤ up p (leaf_align t) = le-up p (leaf_align t) (leaf_is_aligned t).0 in
      let w : up p (leaf_align t) < end_all (field_end t ns) (up p (leaf_align t)) (elements_in v) =
      array_has_bits n (field_end t ns) (FieldLies o b pad t ns) (All-head (λ k. 0 < k) n ns h) (le-field_end t ns)
      (λ q d y. field_has_bits t ns q d (All-tail (λ k. 0 < k) n ns h) y) (up p (leaf_align t)) v x.1 in
      omega arith

  pub member_has_bits : (m : MemberType) (before : List Datum) (p : ℕ) (v : Datum) → IsAutomatic m → MemberHasBits m → MemberLies o b pad m before p v → p < member_end m p v
  unfolding MemberLies member_end
  member_has_bits (Plain t) before p v a h x = field_has_bits (chain_of t).leaf (chain_of t).lengths p v h x
  member_has_bits (Dyn t Auto) before p v a h x =
      omega (arith, le-up p 8 (omega arith), le-field_end (chain_of t).leaf (length (elements_in v) ∷ (chain_of t).lengths) (up p 8 + 32) v)
  member_has_bits (Dyn t (At i)) before p v a h x = absurd a

  members_have_bits : (ms : List (List ℕ × MemberType)) (before : List Datum) (p : ℕ) (vs : List Datum) (k : ℕ) (m : List ℕ × MemberType) → AreAutomatic ms →
      k < length ms → get_or ms k m ≡ m → MemberHasBits m.1 → MembersLie o b pad ms before p vs → p < members_end ms p vs
  unfolding MembersLie members_end
  members_have_bits [] before p vs k m a l e h x = absurd (omega arith)
  members_have_bits (n ∷ ms) before p [] k m a l e h x = absurd x
  members_have_bits (n ∷ ms) before p (v ∷ vs) zero m a l e h x =
      let here : p < member_end n.1 p v =
      member_has_bits n.1 before p v (All-head (λ (i : List ℕ × MemberType). IsAutomatic i.1) n ms a) (subst (λ (i : List ℕ × MemberType). MemberHasBits i.1) (sym e) h) x.0 in
      omega (arith, le-members_end ms (member_end n.1 p v) vs)
  members_have_bits (n ∷ ms) before p (v ∷ vs) (suc k) m a l e h x =
      let rest : member_end n.1 p v < members_end ms (member_end n.1 p v) vs =
      members_have_bits ms (before ++ v ∷ []) (member_end n.1 p v) vs k m (All-tail (λ (i : List ℕ × MemberType). IsAutomatic i.1) n ms a) (omega arith) e h x.1 in
      omega (arith, le-member_end n.1 p v)

  pub struct_has_bits : (s : StructType) (p : ℕ) (vs : List Datum) → AreAutomatic s.members → StructHasBits s → StructLies o b pad s p vs → p < struct_end s p vs
  unfolding StructLies struct_end
  struct_has_bits s p vs a (m, (k, l, e), h) x =
      let u : p ≤ members_start s.members s.min_align p = le-members_start s.members s.min_align p s.positive in
      let w : members_start s.members s.min_align p < members_end s.members (members_start s.members s.min_align p) vs =
      members_have_bits s.members [] (members_start s.members s.min_align p) vs k m a l e h x.1 in
      omega arith

-- ---- a record as a tracer writes it

-- an event header's number has bits
number_struct_has_bits : (name : List ℕ) (t : IntType) (ms : List (List ℕ × MemberType)) → StructHasBits (struct_with ((name, Plain (Int t)) ∷ ms))
number_struct_has_bits name t ms = ((name, Plain (Int t)), (0, omega arith, refl), All-nil (λ n. 0 < n))

some_number_has_bits : (id timestamp : Option IntType) → IsSome id ⊎ IsSome timestamp →
    StructHasBits (struct_with (number_member (codes "id") id ++ number_member (codes "timestamp") timestamp))
some_number_has_bits (Some t) timestamp h = number_struct_has_bits (codes "id") t (number_member (codes "timestamp") timestamp)
some_number_has_bits None (Some t) h = number_struct_has_bits (codes "timestamp") t []
some_number_has_bits None None (inl h) = absurd (false≢true h)
some_number_has_bits None None (inr h) = absurd (false≢true h)

event_header_has_bits : (s : StreamType) → IsSome s.event_header.id ⊎ IsSome s.event_header.timestamp → StructHasBits (event_header_of s)
unfolding event_header_of
event_header_has_bits s h = some_number_has_bits s.event_header.id s.event_header.timestamp h

event_header_automatic : (s : StreamType) → AreAutomatic (event_header_of s).members
unfolding event_header_of
event_header_automatic s = go s.event_header.id s.event_header.timestamp
  where
    P : List ℕ × MemberType → Type 0
    P m = IsAutomatic m.1

    go : (id timestamp : Option IntType) → AreAutomatic (struct_with (number_member (codes "id") id ++ number_member (codes "timestamp") timestamp)).members
    go None None = All-nil P
    go None (Some u) = All-cons P (codes "timestamp", Plain (Int u)) [] tt (All-nil P)
    go (Some t) None = All-cons P (codes "id", Plain (Int t)) [] tt (All-nil P)
    go (Some t) (Some u) = All-cons P (codes "id", Plain (Int t)) ((codes "timestamp", Plain (Int u)) ∷ []) tt (All-cons P (codes "timestamp", Plain (Int u)) [] tt (All-nil P))

-- the structures of an event record as a configuration has them
abbrev pub record_structs : StreamType → EventType → List StructType
record_structs s e = event_header_of s ∷ s.common ∷ e.specific ∷ e.payload ∷ []

module _ (o : ByteOrder) (b : ℕ → ℕ) (pad : ℕ → ℕ → Type 0) (clocks : List (List ℕ)) (s : StreamType) (e : EventType) (allowed : IsStreamType clocks s) (event : IsEventType s e) where
  -- a record of an allowed event record type has bits
  pub record_has_bits : (p : ℕ) (header common specific payload : List Datum) →
      StructsLie o b pad (record_structs s e) p (header ∷ common ∷ specific ∷ payload ∷ []) → p < structs_end (record_structs s e) p (header ∷ common ∷ specific ∷ payload ∷ [])
  unfolding StructsLie structs_end
  record_has_bits p header common specific payload x = go event.has_bits
    where
      p1 : ℕ
      p1 = struct_end (event_header_of s) p header

      p2 : ℕ
      p2 = struct_end s.common p1 common

      p3 : ℕ
      p3 = struct_end e.specific p2 specific

      p4 : ℕ
      p4 = struct_end e.payload p3 payload

      a1 : p ≤ p1
      a1 = le-struct_end (event_header_of s) p header

      a2 : p1 ≤ p2
      a2 = le-struct_end s.common p1 common

      a3 : p2 ≤ p3
      a3 = le-struct_end e.specific p2 specific

      a4 : p3 ≤ p4
      a4 = le-struct_end e.payload p3 payload

      in_header : IsSome s.event_header.id ⊎ IsSome s.event_header.timestamp → p < p4
      in_header h =
          let k : p < p1 = struct_has_bits o b pad (event_header_of s) p header (event_header_automatic s) (event_header_has_bits s h) x.0 in omega (arith, a2, a3, a4)

      go : IsSome s.event_header.id ⊎ (IsSome s.event_header.timestamp ⊎ (StructHasBits s.common ⊎ (StructHasBits e.specific ⊎ StructHasBits e.payload))) → p < p4
      go (inl h) = in_header (inl h)
      go (inr (inl h)) = in_header (inr h)
      go (inr (inr (inl h))) =
          let k : p1 < p2 = struct_has_bits o b pad s.common p1 common (all_automatic_of_config s.common.members allowed.common.members) h (x.1).0 in omega (arith, a1, a3, a4)
      go (inr (inr (inr (inl h)))) =
          let k : p2 < p3 = struct_has_bits o b pad e.specific p2 specific (all_automatic_of_config e.specific.members event.specific.members) h ((x.1).1).0 in omega (arith, a1, a2, a4)
      go (inr (inr (inr (inr h)))) =
          let k : p3 < p4 = struct_has_bits o b pad e.payload p3 payload (all_automatic_of_config e.payload.members event.payload.members) h (((x.1).1).1).0 in omega (arith, a1, a2, a3)

  -- the record that such values are, with its place among the event record types, its clock value and its shown values
  pub record_lies_shown : (n i p : ℕ) (before : Before) (clock : Option ℕ) (header common specific payload : List Datum) → slice_get s.events i ≡ Some e →
      number_or_zero (codes "id") (event_header_of s).members header ≡ i → ClockIs before (number_named (codes "timestamp") (event_header_of s).members header) clock →
      StructsLie o b pad (record_structs s e) p (header ∷ common ∷ specific ∷ payload ∷ []) →
      RecordLies o b pad (stream_of n s) before p
      (record { event = i; clock = clock; common = shown s.common.members common; specific = shown e.specific.members specific; payload = shown e.payload.members payload })
      (structs_end (record_structs s e) p (header ∷ common ∷ specific ∷ payload ∷ []))
  unfolding stream_of event_of StructsLie structs_end shown_each
  record_lies_shown n i p before clock header common specific payload at id time x =
      let q : ℕ = struct_end (event_header_of s) p header in
      let ss : List StructType = s.common ∷ e.specific ∷ e.payload ∷ [] in
      let P : StructType → Type 0 = λ t. AreAutomatic t.members in
      let automatic : All P ss =
      All-cons P s.common (e.specific ∷ e.payload ∷ []) (all_automatic_of_config s.common.members allowed.common.members)
      (All-cons P e.specific (e.payload ∷ []) (all_automatic_of_config e.specific.members event.specific.members)
      (All-cons P e.payload [] (all_automatic_of_config e.payload.members event.payload.members) (All-nil P))) in
      record {
        header = header;
        event = event_of i e;
        event_is = ap (λ k. event_with k 0 (events_of 0 s.events)) id ∙ event_with-events_of i s.events e at;
        clock_is = time;
        lie = (x.0, structs_lie_shown o b pad ss q (common ∷ specific ∷ payload ∷ []) automatic x.1);
        ends = sym (structs_end-shown ss q (common ∷ specific ∷ payload ∷ []));
        has_bits = record_has_bits p header common specific payload x;
      }
