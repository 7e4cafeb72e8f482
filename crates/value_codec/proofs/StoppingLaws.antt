-- A reader stops exactly where the field that it comes to stops: both directions, for each kind of field.
use Rattle.std.proofs.Common.{◌≡◌, ◌≢◌, ◌⊎◌, inl, inr, ℕ, suc, zero, ◌+◌, ◌-◌, ◌*◌, ◌/◌, ◌<◌, ◌≤◌, Bool, true, false, cond, leb, ltb, eqb, List, [], ◌∷◌, ◌++◌, length, refl, ap, sym, subst, ◌∙◌, arith, rules, tests, append_assoc}
use Rattle.std.specs.Prelude.{Result, Ok, Err}
use Rattle.std.proofs.lemmas.List.{append-nil}
use Rattle.ctf_types.specs.declared.ByteOrder.{ByteOrder}
use Rattle.ctf_types.specs.declared.IntType.{IntType}
use Rattle.ctf_types.specs.declared.FieldType.{FieldType}
use Rattle.ctf_types.specs.declared.Length.TheVariants.{Auto, At}
use Rattle.ctf_types.specs.declared.MemberType.{MemberType}
use Rattle.ctf_types.specs.declared.MemberType.TheVariants.{Plain, Dyn}
use Rattle.ctf_types.specs.declared.StructType.{StructType}
use Rattle.ctf_types.specs.Alignment.{up}
use Rattle.ctf_types.specs.Bits.{number_at}
use Rattle.ctf_types.specs.Chain.{Leaf, Number, Labelled, ByteString}
use Rattle.ctf_types.specs.Datum.{Datum, Text, Many, items_of}
use Rattle.ctf_types.specs.FieldTypes.{chain_of}
use Rattle.ctf_types.specs.Layout.{leaf_align, largest_align, value_of, count_at, end_all, field_end, member_end, members_end, members_start, EachLies, FieldLies, MemberLies, MembersLie, AnyBits}
use Rattle.ctf_types.proofs.Ends.{le-end_all, le-field_end, le-members_end}
use Rattle.value_codec.specs.declared.read_fault.ReadFault.{ReadFault}
use Rattle.value_codec.specs.declared.read_fault.ReadFault.TheVariants.{PastEnd, NoTerminator}
use Rattle.value_codec.specs.Reading.{◌>>=◌, start_at, many_at, bits_at, int_at, bytes_at, text_at, leaf_at, field_at, length_at, member_at, members_at, members_begin, struct_at}
use Rattle.value_codec.specs.Stopping.{ReachesPast, LeafStops, ElementStops, FieldStops, MemberStops, MembersStop, StructStops}
use Rattle.value_codec.proofs.ReadingLaws.{Reads, bits_found, bits_again, start_found, start_again, begin_found, begin_again, field_reads, member_reads}

-- ---- faults

pub one_err : {A E : Type 0} (x y : E) → ◌≡◌ {A = Result A E} (Err x) (Err y) → x ≡ y
one_err x y h = cc

-- the fault of two readings is the first one's, or the second's after an answer of the first
pub both_err : {A B E : Type 0} (r : Result A E) (f : A → Result B E) (e : E) → (r >>= f) ≡ Err e → (r ≡ Err e) ⊎ ((x : A) × (r ≡ Ok x) × (f x ≡ Err e))
both_err (Ok x) f e h = inr (x, refl, h)
both_err (Err d) f e h = inl (ap Err (one_err d e h))

-- an answer and then an answer is no fault
pub never_err : {A B E : Type 0} (r : Result A E) (g : A → B) (e : E) → (r >>= (λ x. Ok (g x))) ≡ Err e → r ≡ Err e
never_err (Ok x) g e h = absurd (cc)
never_err (Err d) g e h = ap Err (one_err d e h)

tested_err : {A E : Type 0} (c : Bool) (x : A) (f e : E) → cond c (Ok x) (Err f) ≡ Err e → (c ≡ false) × (e ≡ f)
tested_err true x f e h = absurd (cc)
tested_err false x f e h = (refl, cc)

-- a reader stops where this says so, and only there
pub record Stops (read : ℕ → Result (Datum × ℕ) ReadFault) (S : ℕ → ReadFault → Type 0) : Type 0 where
  pub found : (p : ℕ) (e : ReadFault) → read p ≡ Err e → S p e
  pub again : (p : ℕ) (e : ReadFault) → S p e → read p ≡ Err e

module _ (o : ByteOrder) (b : ℕ → ℕ) (limit : ℕ) where
  bits_stop : (a n p : ℕ) (e : ReadFault) → bits_at o b limit a n p ≡ Err e → (e ≡ PastEnd) × ReachesPast o b limit a n p
  unfolding bits_at
  bits_stop a n p e h =
      let t = tested_err (leb (up p a + n) limit) (number_at o b (up p a) n, up p a + n) PastEnd e h in
      let past : limit < up p a + n = search (tests, rules) in
      (t.1, past)

  bits_stop_again : (a n p : ℕ) → ReachesPast o b limit a n p → bits_at o b limit a n p ≡ Err PastEnd
  unfolding bits_at
  bits_stop_again a n p h = search (tests, rules)

  int_stops : (t : IntType) → Stops (int_at o b limit t) (λ p e. (e ≡ PastEnd) × ReachesPast o b limit t.align t.size p)
  unfolding int_at
  int_stops t = record {
    found = λ p e h. bits_stop t.align t.size p e (never_err (bits_at o b limit t.align t.size p) (λ (m : ℕ × ℕ). (value_of t.signed t.size m.0, m.1)) e h);
    again = λ p e s. rw (bits_stop_again t.align t.size p s.1) (ap Err (sym s.0));
  }

  -- ---- texts

  -- no byte of the next n is zero
  abbrev NoneIsZero : ℕ → ℕ → Type 0
  NoneIsZero n p = (i : ℕ) → i < n → number_at o b (p + 8 * i) 8 ≢ 0

  bytes_step : (n p : ℕ) (e : ReadFault) → (bytes_at o b limit n (p + 8) ≡ Err e → (e ≡ NoTerminator) × NoneIsZero n (p + 8))
      → (c : Bool) → eqb (number_at o b p 8) 0 ≡ c
      → cond {A = Result (List ℕ × ℕ) ReadFault} c (Ok ([], p + 8)) (bytes_at o b limit n (p + 8) >>= (λ s. Ok (number_at o b p 8 ∷ s.0, s.1))) ≡ Err e
      → (e ≡ NoTerminator) × NoneIsZero (suc n) p
  bytes_step n p e ih true t h = absurd (cc)
  bytes_step n p e ih false t h =
      let rest = ih (never_err (bytes_at o b limit n (p + 8)) (λ (s : List ℕ × ℕ). (number_at o b p 8 ∷ s.0, s.1)) e h) in
      (rest.0, none rest.1)
    where
      none : NoneIsZero n (p + 8) → NoneIsZero (suc n) p
      none z zero l = let goes_on : number_at o b p 8 ≢ 0 = search (tests, rules) in
          let here : p + 8 * 0 ≡ p = omega arith in
          rw here goes_on
      none z (suc i) l =
          let there : p + 8 * suc i ≡ p + 8 + 8 * i = omega arith in
          rw there (z i (omega arith))

  bytes_stop : (n p : ℕ) (e : ReadFault) → bytes_at o b limit n p ≡ Err e → (e ≡ NoTerminator) × NoneIsZero n p
  unfolding bytes_at
  bytes_stop zero p e h = (sym (one_err NoTerminator e h), λ i l. absurd (omega arith))
  bytes_stop (suc n) p e h = bytes_step n p e (bytes_stop n (p + 8) e) (eqb (number_at o b p 8) 0) refl h

  bytes_stop_again : (n p : ℕ) → NoneIsZero n p → bytes_at o b limit n p ≡ Err NoTerminator
  unfolding bytes_at
  bytes_stop_again zero p z = refl
  bytes_stop_again (suc n) p z =
      let here : p + 8 * 0 ≡ p = omega arith in
      let goes_on : number_at o b p 8 ≢ 0 = rw here at (z 0 (omega arith)) in
      let other : eqb (number_at o b p 8) 0 ≡ false = search (tests, rules) in
      let rest = bytes_stop_again n (p + 8) (λ i l. let there : p + 8 + 8 * i ≡ p + 8 * suc i = omega arith in rw there (z (suc i) (omega arith))) in
      rw (other, rest) refl

  text_step : (p : ℕ) (e : ReadFault) (c : Bool) → ltb (up p 8) limit ≡ c → cond c (bytes_at o b limit ((limit - up p 8) / 8) (up p 8)) (Err PastEnd) ≡ Err e
      → LeafStops o b limit ByteString p e
  unfolding LeafStops
  text_step p e true t h =
      let inside : up p 8 < limit = search (tests, rules) in
      let is = bytes_stop ((limit - up p 8) / 8) (up p 8) e h in
      inr (is.0, inside, λ i l. is.1 i (omega arith))
  text_step p e false t h =
      let past : limit ≤ up p 8 = search (tests, rules) in
      inl (sym (one_err PastEnd e h), past)

  text_again : (p : ℕ) (e : ReadFault) → LeafStops o b limit ByteString p e → text_at o b limit p ≡ Err e
  unfolding text_at LeafStops
  text_again p e (inl s) =
      let past : ltb (up p 8) limit ≡ false = search (tests, rules, s.1) in
      rw past (ap Err (sym s.0))
  text_again p e (inr s) =
      let inside : ltb (up p 8) limit ≡ true = search (tests, rules, s.1) in
      rw inside (bytes_stop_again ((limit - up p 8) / 8) (up p 8) (λ i l. s.2 i (omega arith)) ∙ ap Err (sym s.0))

  -- ---- fields

  leaf_stops : (t : Leaf) → Stops (leaf_at o b limit t) (LeafStops o b limit t)
  unfolding leaf_at text_at LeafStops
  leaf_stops (Number t) = record { found = Stops.found (int_stops t); again = Stops.again (int_stops t) }
  leaf_stops (Labelled t) = record { found = Stops.found (int_stops t.int); again = Stops.again (int_stops t.int) }
  leaf_stops ByteString = record {
    found = λ p e h. found p e (never_err (text_at o b limit p) (λ (s : List ℕ × ℕ). (Text s.0, s.1)) e h);
    again = λ p e s. rw (text_again p e s) refl;
  }
    where
      found : (p : ℕ) (e : ReadFault) → text_at o b limit p ≡ Err e → LeafStops o b limit ByteString p e
      found p e h = text_step p e (ltb (up p 8) limit) refl h

  module _ (read : ℕ → Result (Datum × ℕ) ReadFault) (L : ℕ → Datum → Type 0) (end : ℕ → Datum → ℕ) (S : ℕ → ReadFault → Type 0)
      (r : Reads limit read L end) (s : Stops read S) (onward : (p : ℕ) (v : Datum) → p ≤ end p v) where
    abbrev Some : ℕ → ℕ → ReadFault → Type 0
    Some n p e = ElementStops o b limit n end L S p e

    later : (n p q : ℕ) (v : Datum) (e : ReadFault) → L p v → q ≡ end p v → Some n q e → Some (suc n) p e
    unfolding EachLies end_all
    later n p q v e l at some =
        let is : Some n (end p v) e = subst (λ (m : ℕ). Some n m e) at some in
        record {
          before = v ∷ is.before;
          fewer = omega (arith, is.fewer);
          lie = (l, is.lie);
          within = is.within;
          stops = is.stops;
        }

    many_stop : (n p : ℕ) (e : ReadFault) → p ≤ limit → many_at read n p ≡ Err e → Some n p e
    unfolding many_at EachLies end_all
    many_stop zero p e h m = absurd (cc)
    many_stop (suc n) p e h m = step (λ q. many_stop n q e) (both_err (read p) (λ (v : Datum × ℕ). ◌>>=◌ {B = List Datum × ℕ} (many_at read n v.1) (λ vs. Ok (v.0 ∷ vs.0, vs.1))) e m)
      where
        first : read p ≡ Err e → Some (suc n) p e
        first f = record { before = []; fewer = omega arith; lie = tt; within = h; stops = s.found p e f }

        step : ((q : ℕ) → q ≤ limit → many_at read n q ≡ Err e → Some n q e)
            → (read p ≡ Err e) ⊎ ((v : Datum × ℕ) × (read p ≡ Ok v) × ((◌>>=◌ {B = List Datum × ℕ} (many_at read n v.1) (λ vs. Ok (v.0 ∷ vs.0, vs.1))) ≡ Err e)) → Some (suc n) p e
        step others (inl f) = first f
        step others (inr v) =
            let is = r.found p v.0 v.1 in
            let rest = never_err (many_at read n v.0.1) (λ (vs : List Datum × ℕ). (v.0.0 ∷ vs.0, vs.1)) e v.2 in
            later n p v.0.1 v.0.0 e is.0 is.1 (others v.0.1 is.2 rest)

    many_stop_again : (vs : List Datum) (n p : ℕ) (e : ReadFault) → length vs < n → EachLies o b AnyBits end L p vs → end_all end p vs ≤ limit → S (end_all end p vs) e → many_at read n p ≡ Err e
    unfolding many_at EachLies end_all
    many_stop_again vs zero p e h l w f = absurd (omega arith)
    many_stop_again [] (suc n) p e h l w f = rw (s.again p e f) refl
    many_stop_again (v ∷ vs) (suc n) p e h l w f =
        let first = r.again p v l.0 (omega (arith, le-end_all end onward (end p v) vs)) in
        let rest = many_stop_again vs n (end p v) e (omega arith) l.1 w f in
        rw (first, rest) refl

  module _ (t : Leaf) (n : ℕ) (ns : List ℕ) (s : Stops (field_at o b limit t ns) (FieldStops o b limit t ns)) where
    array_stop : (p : ℕ) (e : ReadFault) → field_at o b limit t (n ∷ ns) p ≡ Err e → FieldStops o b limit t (n ∷ ns) p e
    unfolding field_at start_at FieldStops
    array_stop p e h = step (both_err (start_at limit (leaf_align t) p) (λ q. ◌>>=◌ {B = Datum × ℕ} (many_at (field_at o b limit t ns) n q) (λ vs. Ok (Many (items_of vs.0), vs.1))) e h)
      where
        unstarted : start_at limit (leaf_align t) p ≡ Err e → (e ≡ PastEnd) × (limit < up p (leaf_align t))
        unstarted f =
            let tested = tested_err (leb (up p (leaf_align t)) limit) (up p (leaf_align t)) PastEnd e f in
            let past : limit < up p (leaf_align t) = search (tests, rules) in
            (tested.1, past)

        step : (start_at limit (leaf_align t) p ≡ Err e) ⊎ ((q : ℕ) × (start_at limit (leaf_align t) p ≡ Ok q) × ((◌>>=◌ {B = Datum × ℕ} (many_at (field_at o b limit t ns) n q) (λ vs. Ok (Many (items_of vs.0), vs.1))) ≡ Err e))
            → FieldStops o b limit t (n ∷ ns) p e
        step (inl f) = inl (unstarted f)
        step (inr q) =
            let begins = start_found o b limit (leaf_align t) p q.0 q.1 in
            let rest = never_err (many_at (field_at o b limit t ns) n q.0) (λ (vs : List Datum × ℕ). (Many (items_of vs.0), vs.1)) e q.2 in
            let some = many_stop (field_at o b limit t ns) (FieldLies o b AnyBits t ns) (field_end t ns) (FieldStops o b limit t ns) (field_reads o b limit t ns) s (le-field_end t ns) n q.0 e begins.1 rest in
            inr (subst (λ (m : ℕ). ElementStops o b limit n (field_end t ns) (FieldLies o b AnyBits t ns) (FieldStops o b limit t ns) m e) begins.0 some)

    array_stop_again : (p : ℕ) (e : ReadFault) → FieldStops o b limit t (n ∷ ns) p e → field_at o b limit t (n ∷ ns) p ≡ Err e
    unfolding field_at start_at FieldStops
    array_stop_again p e (inl f) = rw (past f.1) (ap Err (sym f.0))
      where
        past : limit < up p (leaf_align t) → start_at limit (leaf_align t) p ≡ Err PastEnd
        past h = search (tests, rules)
    array_stop_again p e (inr some) =
        let begins = start_again o b limit (leaf_align t) p (omega (arith, some.within, le-end_all (field_end t ns) (le-field_end t ns) (up p (leaf_align t)) some.before)) in
        let rest = many_stop_again (field_at o b limit t ns) (FieldLies o b AnyBits t ns) (field_end t ns) (FieldStops o b limit t ns) (field_reads o b limit t ns) s (le-field_end t ns)
        some.before n (up p (leaf_align t)) e some.fewer some.lie some.within some.stops in
        rw (begins, rest) refl

  pub field_stops : (t : Leaf) (ns : List ℕ) → Stops (field_at o b limit t ns) (FieldStops o b limit t ns)
  unfolding field_at FieldStops
  field_stops t [] = leaf_stops t
  field_stops t (n ∷ ns) = record {
    found = array_stop t n ns (field_stops t ns);
    again = array_stop_again t n ns (field_stops t ns);
  }

  -- ---- members and structures

  counted_stop : (t : FieldType) (before : List Datum) (p : ℕ) (e : ReadFault) → member_at o b limit before (Dyn t Auto) p ≡ Err e → MemberStops o b limit before (Dyn t Auto) p e
  unfolding member_at length_at MemberStops
  counted_stop t before p e h = step (both_err (bits_at o b limit 8 32 p) (λ (n : ℕ × ℕ). field_at o b limit (chain_of t).leaf (n.0 ∷ (chain_of t).lengths) n.1) e h)
    where
      step : (bits_at o b limit 8 32 p ≡ Err e) ⊎ ((n : ℕ × ℕ) × (bits_at o b limit 8 32 p ≡ Ok n) × (field_at o b limit (chain_of t).leaf (n.0 ∷ (chain_of t).lengths) n.1 ≡ Err e))
          → MemberStops o b limit before (Dyn t Auto) p e
      step (inl f) = inl (bits_stop 8 32 p e f)
      step (inr n) =
          let is = bits_found o b limit 8 32 p n.0 n.1 in
          let stops = Stops.found (field_stops (chain_of t).leaf (n.0.0 ∷ (chain_of t).lengths)) n.0.1 e n.2 in
          let there = subst (λ (q : ℕ). FieldStops o b limit (chain_of t).leaf (n.0.0 ∷ (chain_of t).lengths) q e) is.1 stops in
          inr (omega (arith, is), subst (λ (k : ℕ). FieldStops o b limit (chain_of t).leaf (k ∷ (chain_of t).lengths) (up p 8 + 32) e) is.0 there)

  counted_stop_again : (t : FieldType) (before : List Datum) (p : ℕ) (e : ReadFault) → MemberStops o b limit before (Dyn t Auto) p e → member_at o b limit before (Dyn t Auto) p ≡ Err e
  unfolding member_at length_at MemberStops
  counted_stop_again t before p e (inl f) = rw (bits_stop_again 8 32 p f.1) (ap Err (sym f.0))
  counted_stop_again t before p e (inr f) =
      rw (bits_again o b limit 8 32 p f.0) (Stops.again (field_stops (chain_of t).leaf (number_at o b (up p 8) 32 ∷ (chain_of t).lengths)) (up p 8 + 32) e f.1)

  pub member_stops : (before : List Datum) (m : MemberType) → Stops (member_at o b limit before m) (MemberStops o b limit before m)
  unfolding member_at length_at MemberStops
  member_stops before (Plain t) = field_stops (chain_of t).leaf (chain_of t).lengths
  member_stops before (Dyn t (At i)) = field_stops (chain_of t).leaf (count_at before i ∷ (chain_of t).lengths)
  member_stops before (Dyn t Auto) = record {
    found = counted_stop t before;
    again = counted_stop_again t before;
  }

  behind : (m : List ℕ × MemberType) (ms : List (List ℕ × MemberType)) (before : List Datum) (p q : ℕ) (v : Datum) (e : ReadFault) → MemberLies o b AnyBits m.1 before p v → q ≡ member_end m.1 p v
      → MembersStop o b limit ms (before ++ v ∷ []) q e → MembersStop o b limit (m ∷ ms) before p e
  unfolding MembersLie members_end
  behind m ms before p q v e l at some =
      let is : MembersStop o b limit ms (before ++ v ∷ []) (member_end m.1 p v) e = subst (λ (k : ℕ). MembersStop o b limit ms (before ++ v ∷ []) k e) at some in
      record {
        front = m ∷ is.front;
        member = is.member;
        rest = is.rest;
        are = ap (λ (ns : List (List ℕ × MemberType)). m ∷ ns) is.are;
        values = v ∷ is.values;
        lie = (l, is.lie);
        within = is.within;
        stops = rw append_assoc at is.stops;
      }

  pub members_stop : (ms : List (List ℕ × MemberType)) (before : List Datum) (p : ℕ) (e : ReadFault) → p ≤ limit → members_at o b limit before ms p ≡ Err e → MembersStop o b limit ms before p e
  unfolding members_at MembersLie members_end
  members_stop [] before p e h m = absurd (cc)
  members_stop (m ∷ ms) before p e h f =
      step (λ v q. members_stop ms (before ++ v ∷ []) q e) (both_err (member_at o b limit before m.1 p) (λ (v : Datum × ℕ). ◌>>=◌ {B = List Datum × ℕ} (members_at o b limit (before ++ v.0 ∷ []) ms v.1) (λ vs. Ok (v.0 ∷ vs.0, vs.1))) e f)
    where
      first : member_at o b limit before m.1 p ≡ Err e → MembersStop o b limit (m ∷ ms) before p e
      first g = record {
        front = [];
        member = m;
        rest = ms;
        are = refl;
        values = [];
        lie = tt;
        within = h;
        stops = rw append-nil (Stops.found (member_stops before m.1) p e g);
      }

      step : ((v : Datum) (q : ℕ) → q ≤ limit → members_at o b limit (before ++ v ∷ []) ms q ≡ Err e → MembersStop o b limit ms (before ++ v ∷ []) q e)
          → (member_at o b limit before m.1 p ≡ Err e)
          ⊎ ((v : Datum × ℕ) × (member_at o b limit before m.1 p ≡ Ok v) × ((◌>>=◌ {B = List Datum × ℕ} (members_at o b limit (before ++ v.0 ∷ []) ms v.1) (λ vs. Ok (v.0 ∷ vs.0, vs.1))) ≡ Err e))
          → MembersStop o b limit (m ∷ ms) before p e
      step others (inl g) = first g
      step others (inr v) =
          let is = Reads.found (member_reads o b limit before m.1) p v.0 v.1 in
          let rest = never_err (members_at o b limit (before ++ v.0.0 ∷ []) ms v.0.1) (λ (vs : List Datum × ℕ). (v.0.0 ∷ vs.0, vs.1)) e v.2 in
          behind m ms before p v.0.1 v.0.0 e is.0 is.1 (others v.0.0 v.0.1 is.2 rest)

  pub members_stop_again : (front : List (List ℕ × MemberType)) (m : List ℕ × MemberType) (rest : List (List ℕ × MemberType)) (before : List Datum) (p : ℕ) (vs : List Datum) (e : ReadFault)
      → MembersLie o b AnyBits front before p vs → members_end front p vs ≤ limit → MemberStops o b limit (before ++ vs) m.1 (members_end front p vs) e
      → members_at o b limit before (front ++ m ∷ rest) p ≡ Err e
  unfolding members_at MembersLie members_end
  members_stop_again [] m rest before p [] e l w f =
      let here : MemberStops o b limit before m.1 p e = rw append-nil at f in
      rw (Stops.again (member_stops before m.1) p e here) refl
  members_stop_again [] m rest before p (v ∷ vs) e l w f = absurd l
  members_stop_again (k ∷ front) m rest before p [] e l w f = absurd l
  members_stop_again (k ∷ front) m rest before p (v ∷ vs) e l w f =
      let first = Reads.again (member_reads o b limit before k.1) p v l.0 (omega (arith, le-members_end front (member_end k.1 p v) vs)) in
      let there : MemberStops o b limit ((before ++ v ∷ []) ++ vs) m.1 (members_end front (member_end k.1 p v) vs) e = rw append_assoc f in
      let after = members_stop_again front m rest (before ++ v ∷ []) (member_end k.1 p v) vs e l.1 w there in
      rw (first, after) refl

  pub begin_stop : (ms : List (List ℕ × MemberType)) (least p : ℕ) (e : ReadFault) → members_begin limit ms least p ≡ Err e → (ms ≢ []) × (e ≡ PastEnd) × (limit < up p (largest_align least ms))
  unfolding start_at
  begin_stop [] least p e h = absurd (cc)
  begin_stop (m ∷ ms) least p e h =
      let t = tested_err (leb (up p (largest_align least (m ∷ ms))) limit) (up p (largest_align least (m ∷ ms))) PastEnd e h in
      let past : limit < up p (largest_align least (m ∷ ms)) = search (tests, rules) in
      (λ e. cc, t.1, past)

  pub begin_stop_again : (ms : List (List ℕ × MemberType)) (least p : ℕ) → ms ≢ [] → limit < up p (largest_align least ms) → members_begin limit ms least p ≡ Err PastEnd
  unfolding start_at
  begin_stop_again [] least p n h = absurd (n refl)
  begin_stop_again (m ∷ ms) least p n h = search (tests, rules)

  -- no value is read of a structure: it or one of its members stops
  pub struct_stop : (s : StructType) (p : ℕ) (e : ReadFault) → p ≤ limit → struct_at o b limit s p ≡ Err e → StructStops o b limit s p e
  unfolding struct_at StructStops
  struct_stop s p e h f = step (both_err (members_begin limit s.members s.min_align p) (λ q. members_at o b limit [] s.members q) e f)
    where
      step : (members_begin limit s.members s.min_align p ≡ Err e) ⊎ ((q : ℕ) × (members_begin limit s.members s.min_align p ≡ Ok q) × (members_at o b limit [] s.members q ≡ Err e))
          → StructStops o b limit s p e
      step (inl g) = inl (begin_stop s.members s.min_align p e g)
      step (inr q) =
          let at = begin_found o b limit s.members s.min_align p q.0 h q.1 in
          inr (subst (λ (m : ℕ). MembersStop o b limit s.members [] m e) at.0 (members_stop s.members [] q.0 e at.1 q.2))

  -- where it stops no value is read
  pub struct_stop_again : (s : StructType) (p : ℕ) (e : ReadFault) → StructStops o b limit s p e → struct_at o b limit s p ≡ Err e
  unfolding struct_at StructStops
  struct_stop_again s p e (inl f) = rw (begin_stop_again s.members s.min_align p f.0 f.2) (ap Err (sym f.1))
  struct_stop_again s p e (inr some) =
      let start : ℕ = members_start s.members s.min_align p in
      let begins = begin_again o b limit s.members s.min_align p (omega (arith, some.within, le-members_end some.front start some.values)) in
      let stops : members_at o b limit [] s.members start ≡ Err e =
      ap (λ (ms : List (List ℕ × MemberType)). members_at o b limit [] ms start) some.are ∙ members_stop_again some.front some.member some.rest [] start some.values e some.lie some.within some.stops in
      rw begins stops
