-- A reader answers exactly what lies with its end within the limit: both directions, for each kind of field.
use Rattle.std.proofs.Common.{◌≡◌, ◌≢◌, ℕ, suc, zero, ◌+◌, ◌-◌, ◌*◌, ◌/◌, ◌<◌, ◌≤◌, Bool, true, false, cond, leb, ltb, eqb, List, [], ◌∷◌, ◌++◌, length, refl, ap, sym, subst, ◌∙◌, arith, rules, tests}
use Rattle.std.specs.Prelude.{Result, Ok, Err}
use Rattle.ctf_types.specs.declared.ByteOrder.{ByteOrder}
use Rattle.ctf_types.specs.declared.IntType.{IntType}
use Rattle.ctf_types.specs.declared.FieldType.{FieldType}
use Rattle.ctf_types.specs.declared.Length.TheVariants.{Auto, At}
use Rattle.ctf_types.specs.declared.MemberType.{MemberType}
use Rattle.ctf_types.specs.declared.MemberType.TheVariants.{Plain, Dyn}
use Rattle.ctf_types.specs.declared.StructType.{StructType}
use Rattle.ctf_types.specs.Alignment.{up}
use Rattle.ctf_types.specs.Bits.{number_at}
use Rattle.ctf_types.specs.Chain.{Leaf, Number, Labelled, ByteString}
use Rattle.ctf_types.specs.Datum.{Datum, Unsigned, Signed, Text, Many, items_of, data_in, data_in-items_of, items_of-data_in}
use Rattle.ctf_types.specs.FieldTypes.{chain_of}
use Rattle.ctf_types.specs.Layout.{leaf_align, largest_align, value_of, count_at, text_in, elements_in, leaf_end, end_all, field_end, member_end, members_end, members_start, struct_end, IntLies, BytesLie, TextLies, LeafLies, EachLies, ArrayLies, FieldLies, CountLies, MemberLies, MembersLie, StructLies, AnyBits}
use Rattle.ctf_types.proofs.Ends.{le-end_all, le-field_end, le-members_end}
use Rattle.value_codec.specs.declared.read_fault.ReadFault.{ReadFault}
use Rattle.value_codec.specs.declared.read_fault.ReadFault.TheVariants.{PastEnd}
use Rattle.value_codec.specs.Reading.{◌>>=◌, start_at, many_at, bits_at, int_at, bytes_at, text_at, leaf_at, field_at, length_at, member_at, members_at, members_begin, struct_at}

-- ---- answers

-- an answer of two readings is an answer of each
pub both_ok : {A B E : Type 0} (r : Result A E) (f : A → Result B E) (y : B) → (r >>= f) ≡ Ok y → (x : A) × (r ≡ Ok x) × (f x ≡ Ok y)
both_ok (Ok x) f y h = (x, refl, h)
both_ok (Err e) f y h = absurd (cc)

pub one_ok : {A E : Type 0} (x y : A) → ◌≡◌ {A = Result A E} (Ok x) (Ok y) → x ≡ y
one_ok x y h = cc

-- an answer under a test is an answer where the test holds
pub tested_ok : {A E : Type 0} (c : Bool) (r : Result A E) (y : A) (e : E) → cond c r (Err e) ≡ Ok y → (c ≡ true) × (r ≡ Ok y)
tested_ok true r y e h = (refl, h)
tested_ok false r y e h = absurd (cc)

-- ---- one field

-- what a reader answers lies and ends within the limit, and what lies and ends there is answered
pub record Reads (limit : ℕ) (read : ℕ → Result (Datum × ℕ) ReadFault) (L : ℕ → Datum → Type 0) (end : ℕ → Datum → ℕ) : Type 0 where
  pub found : (p : ℕ) (x : Datum × ℕ) → read p ≡ Ok x → L p x.0 × (x.1 ≡ end p x.0) × (x.1 ≤ limit)
  pub again : (p : ℕ) (v : Datum) → L p v → end p v ≤ limit → read p ≡ Ok (v, end p v)

module _ (o : ByteOrder) (b : ℕ → ℕ) (limit : ℕ) where
  pub bits_found : (a n p : ℕ) (x : ℕ × ℕ) → bits_at o b limit a n p ≡ Ok x → (x.0 ≡ number_at o b (up p a) n) × (x.1 ≡ up p a + n) × (x.1 ≤ limit)
  unfolding bits_at
  bits_found a n p x h =
      let t = tested_ok (leb (up p a + n) limit) (Ok (number_at o b (up p a) n, up p a + n)) x PastEnd h in
      let within : up p a + n ≤ limit = search (tests, rules) in
      subst (λ (y : ℕ × ℕ). (y.0 ≡ number_at o b (up p a) n) × (y.1 ≡ up p a + n) × (y.1 ≤ limit)) (one_ok (number_at o b (up p a) n, up p a + n) x t.1) (refl, refl, within)

  pub bits_again : (a n p : ℕ) → up p a + n ≤ limit → bits_at o b limit a n p ≡ Ok (number_at o b (up p a) n, up p a + n)
  unfolding bits_at
  bits_again a n p h = search (tests, rules)

  pub many_found : (read : ℕ → Result (Datum × ℕ) ReadFault) (L : ℕ → Datum → Type 0) (end : ℕ → Datum → ℕ) → Reads limit read L end
      → (n p : ℕ) (x : List Datum × ℕ) → p ≤ limit → many_at read n p ≡ Ok x
      → (length x.0 ≡ n) × EachLies o b AnyBits end L p x.0 × (x.1 ≡ end_all end p x.0) × (x.1 ≤ limit)
  unfolding many_at EachLies end_all
  many_found read L end r zero p x h e =
      subst (λ (y : List Datum × ℕ). (length y.0 ≡ 0) × EachLies o b AnyBits end L p y.0 × (y.1 ≡ end_all end p y.0) × (y.1 ≤ limit)) (one_ok ([], p) x e) (refl, tt, refl, h)
  many_found read L end r (suc n) p x h e =
      let first = both_ok (read p) _ x e in
      let v = r.found p first.0 first.1 in
      let rest = both_ok (many_at read n first.0.1) _ x first.2 in
      let vs = many_found read L end r n first.0.1 rest.0 v.2 rest.1 in
      let lie = subst (λ (q : ℕ). EachLies o b AnyBits end L q rest.0.0) v.1 vs.1 in
      subst (λ (y : List Datum × ℕ). (length y.0 ≡ suc n) × EachLies o b AnyBits end L p y.0 × (y.1 ≡ end_all end p y.0) × (y.1 ≤ limit)) (one_ok (first.0.0 ∷ rest.0.0, rest.0.1) x rest.2)
      (ap suc vs.0, (v.0, lie), vs.2 ∙ ap (λ (q : ℕ). end_all end q rest.0.0) v.1, vs.3)

  pub many_again : (read : ℕ → Result (Datum × ℕ) ReadFault) (L : ℕ → Datum → Type 0) (end : ℕ → Datum → ℕ) → Reads limit read L end → ((p : ℕ) (v : Datum) → p ≤ end p v)
      → (vs : List Datum) (p : ℕ) → EachLies o b AnyBits end L p vs → end_all end p vs ≤ limit → many_at read (length vs) p ≡ Ok (vs, end_all end p vs)
  unfolding many_at EachLies end_all
  many_again read L end r onward [] p h e = refl
  many_again read L end r onward (v ∷ vs) p h e =
      let first = r.again p v h.0 (omega (arith, le-end_all end onward (end p v) vs)) in
      let rest = many_again read L end r onward vs (end p v) h.1 e in
      rw first (rw rest refl)

  -- ---- what is no array

  pub int_found : (t : IntType) (p : ℕ) (x : Datum × ℕ) → int_at o b limit t p ≡ Ok x → IntLies o b AnyBits t p x.0 × (x.1 ≡ up p t.align + t.size) × (x.1 ≤ limit)
  unfolding int_at IntLies
  int_found t p x h =
      let n = both_ok (bits_at o b limit t.align t.size p) _ x h in
      let is = bits_found t.align t.size p n.0 n.1 in
      subst (λ (y : Datum × ℕ). (Unit {0} × (y.0 ≡ value_of t.signed t.size (number_at o b (up p t.align) t.size))) × (y.1 ≡ up p t.align + t.size) × (y.1 ≤ limit))
      (one_ok (value_of t.signed t.size n.0.0, n.0.1) x n.2)
      ((tt, ap (λ (m : ℕ). value_of t.signed t.size m) is.0), is.1, is.2)

  pub int_again : (t : IntType) (p : ℕ) (v : Datum) → IntLies o b AnyBits t p v → up p t.align + t.size ≤ limit → int_at o b limit t p ≡ Ok (v, up p t.align + t.size)
  unfolding int_at IntLies
  int_again t p v l h = rw (bits_again t.align t.size p h) (rw (l.1) refl)

  -- the bytes lie with their zero byte, which is one of the next n bytes
  abbrev TextIs : ℕ → ℕ → List ℕ × ℕ → Type 0
  TextIs n p x = BytesLie o b AnyBits p x.0 × (x.1 ≡ p + 8 * (length x.0 + 1)) × (x.1 ≤ p + 8 * n)

  bytes_step : (n p : ℕ) (x : List ℕ × ℕ) → ((y : List ℕ × ℕ) → bytes_at o b limit n (p + 8) ≡ Ok y → TextIs n (p + 8) y)
      → (c : Bool) → eqb (number_at o b p 8) 0 ≡ c
      → cond c (Ok ([], p + 8)) (bytes_at o b limit n (p + 8) >>= (λ s. Ok (number_at o b p 8 ∷ s.0, s.1))) ≡ Ok x
      → TextIs (suc n) p x
  unfolding bytes_at BytesLie
  bytes_step n p x ih true e h =
      let ended : number_at o b p 8 ≡ 0 = search (tests, rules) in
      subst (λ (y : List ℕ × ℕ). TextIs (suc n) p y) (one_ok ([], p + 8) x h) (ended, omega arith, omega arith)
  bytes_step n p x ih false e h =
      let goes_on : number_at o b p 8 ≢ 0 = search (tests, rules) in
      let rest = both_ok (bytes_at o b limit n (p + 8)) _ x h in
      let is = ih rest.0 rest.1 in
      subst (λ (y : List ℕ × ℕ). TextIs (suc n) p y) (one_ok (number_at o b p 8 ∷ rest.0.0, rest.0.1) x rest.2) ((refl, goes_on, is.0), omega (arith, is.1), omega (arith, is.2))

  pub bytes_found : (n p : ℕ) (x : List ℕ × ℕ) → bytes_at o b limit n p ≡ Ok x → TextIs n p x
  unfolding bytes_at
  bytes_found zero p x h = absurd (cc)
  bytes_found (suc n) p x h = bytes_step n p x (λ y. bytes_found n (p + 8) y) (eqb (number_at o b p 8) 0) refl h

  pub bytes_again : (n p : ℕ) (s : List ℕ) → BytesLie o b AnyBits p s → length s + 1 ≤ n → bytes_at o b limit n p ≡ Ok (s, p + 8 * (length s + 1))
  unfolding bytes_at BytesLie
  bytes_again zero p s l h = absurd (omega arith)
  bytes_again (suc n) p [] l h = rw l refl
  bytes_again (suc n) p (c ∷ s) l h =
      let rest = bytes_again n (p + 8) s l.2 (omega arith) in
      let goes_on : number_at o b p 8 ≢ 0 = λ e. l.1 (sym l.0 ∙ e) in
      let other : eqb (number_at o b p 8) 0 ≡ false = search (tests, rules) in
      let there : p + 8 + 8 * (length s + 1) ≡ p + 8 * (suc (length s) + 1) = omega arith in
      rw (other, rest, l.0, there) refl

  pub text_found : (p : ℕ) (x : List ℕ × ℕ) → text_at o b limit p ≡ Ok x → BytesLie o b AnyBits (up p 8) x.0 × (x.1 ≡ up p 8 + 8 * (length x.0 + 1)) × (x.1 ≤ limit)
  unfolding text_at
  text_found p x h =
      let t = tested_ok (ltb (up p 8) limit) (bytes_at o b limit ((limit - up p 8) / 8) (up p 8)) x PastEnd h in
      let inside : up p 8 < limit = search (tests, rules) in
      let is = bytes_found ((limit - up p 8) / 8) (up p 8) x t.1 in
      (is.0, is.1, omega (arith, is.2))

  pub text_again : (p : ℕ) (s : List ℕ) → BytesLie o b AnyBits (up p 8) s → up p 8 + 8 * (length s + 1) ≤ limit → text_at o b limit p ≡ Ok (s, up p 8 + 8 * (length s + 1))
  unfolding text_at
  text_again p s l h =
      let inside : ltb (up p 8) limit ≡ true = search (tests, rules) in
      rw inside (bytes_again ((limit - up p 8) / 8) (up p 8) s l (omega arith))

  -- ---- fields

  pub leaf_reads : (t : Leaf) → Reads limit (leaf_at o b limit t) (LeafLies o b AnyBits t) (leaf_end t)
  unfolding leaf_at LeafLies leaf_end TextLies
  leaf_reads (Number t) = record {
    found = int_found t;
    again = int_again t;
  }
  leaf_reads (Labelled t) = record {
    found = int_found t.int;
    again = int_again t.int;
  }
  leaf_reads ByteString = record {
    found = λ p x h.
        let s = both_ok (text_at o b limit p) _ x h in
        let is = text_found p s.0 s.1 in
        subst (λ (y : Datum × ℕ). TextLies o b AnyBits p y.0 × (y.1 ≡ up p 8 + 8 * (length (text_in y.0) + 1)) × (y.1 ≤ limit)) (one_ok (Text s.0.0, s.0.1) x s.2)
        ((tt, is.0), is.1, is.2);
    again = λ p v l h. text_leaf p v l h;
  }
    where
      text_leaf : (p : ℕ) (v : Datum) → TextLies o b AnyBits p v → up p 8 + 8 * (length (text_in v) + 1) ≤ limit
          → leaf_at o b limit ByteString p ≡ Ok (v, up p 8 + 8 * (length (text_in v) + 1))
      text_leaf p (Text s) l h = rw (text_again p s l.1 h) refl
      text_leaf p (Unsigned n) l h = absurd l
      text_leaf p (Signed z) l h = absurd l
      text_leaf p (Many ds) l h = absurd l

  pub start_found : (a p s : ℕ) → start_at limit a p ≡ Ok s → (s ≡ up p a) × (s ≤ limit)
  unfolding start_at
  start_found a p s h =
      let t = tested_ok (leb (up p a) limit) (Ok (up p a)) s PastEnd h in
      let within : up p a ≤ limit = search (tests, rules) in
      subst (λ (y : ℕ). (y ≡ up p a) × (y ≤ limit)) (one_ok (up p a) s t.1) (refl, within)

  pub start_again : (a p : ℕ) → up p a ≤ limit → start_at limit a p ≡ Ok (up p a)
  unfolding start_at
  start_again a p h = search (tests, rules)

  module _ (t : Leaf) (n : ℕ) (ns : List ℕ) (r : Reads limit (field_at o b limit t ns) (FieldLies o b AnyBits t ns) (field_end t ns)) where
    array_found : (p : ℕ) (x : Datum × ℕ) → field_at o b limit t (n ∷ ns) p ≡ Ok x → FieldLies o b AnyBits t (n ∷ ns) p x.0 × (x.1 ≡ field_end t (n ∷ ns) p x.0) × (x.1 ≤ limit)
    unfolding field_at FieldLies ArrayLies field_end
    array_found p x h =
        let s = both_ok (start_at limit (leaf_align t) p) _ x h in
        let begins = start_found (leaf_align t) p s.0 s.1 in
        let vs = both_ok (many_at (field_at o b limit t ns) n s.0) _ x s.2 in
        let is = many_found (field_at o b limit t ns) (FieldLies o b AnyBits t ns) (field_end t ns) r n s.0 vs.0 begins.1 vs.1 in
        let there = subst (λ (q : ℕ). EachLies o b AnyBits (field_end t ns) (FieldLies o b AnyBits t ns) q vs.0.0 × (vs.0.1 ≡ end_all (field_end t ns) q vs.0.0)) begins.0 (is.1, is.2) in
        let listed = subst
        (λ (ds : List Datum). (length ds ≡ n) × EachLies o b AnyBits (field_end t ns) (FieldLies o b AnyBits t ns) (up p (leaf_align t)) ds × (vs.0.1 ≡ end_all (field_end t ns) (up p (leaf_align t)) ds))
        (sym (data_in-items_of vs.0.0)) (is.0, there.0, there.1) in
        subst (λ (y : Datum × ℕ). FieldLies o b AnyBits t (n ∷ ns) p y.0 × (y.1 ≡ field_end t (n ∷ ns) p y.0) × (y.1 ≤ limit)) (one_ok (Many (items_of vs.0.0), vs.0.1) x vs.2)
        ((tt, (listed.0, listed.1)), listed.2, is.3)

    array_again : (p : ℕ) (v : Datum) → FieldLies o b AnyBits t (n ∷ ns) p v → field_end t (n ∷ ns) p v ≤ limit → field_at o b limit t (n ∷ ns) p ≡ Ok (v, field_end t (n ∷ ns) p v)
    unfolding field_at FieldLies ArrayLies field_end
    array_again p (Many ds) l h =
        let begins = start_again (leaf_align t) p (omega (arith, le-end_all (field_end t ns) (le-field_end t ns) (up p (leaf_align t)) (data_in ds))) in
        let vs = many_again (field_at o b limit t ns) (FieldLies o b AnyBits t ns) (field_end t ns) r (le-field_end t ns) (data_in ds) (up p (leaf_align t)) l.1.1 h in
        let counted = rw l.1.0 at vs in
        rw (begins, counted, items_of-data_in ds) refl
    array_again p (Unsigned m) l h = absurd l.1
    array_again p (Signed z) l h = absurd l.1
    array_again p (Text s) l h = absurd l.1

  pub field_reads : (t : Leaf) (ns : List ℕ) → Reads limit (field_at o b limit t ns) (FieldLies o b AnyBits t ns) (field_end t ns)
  unfolding field_at FieldLies field_end
  field_reads t [] = leaf_reads t
  field_reads t (n ∷ ns) = record {
    found = array_found t n ns (field_reads t ns);
    again = array_again t n ns (field_reads t ns);
  }

  -- ---- members and structures

  pub elements_counted : (n : ℕ) (end : ℕ → Datum → ℕ) (L : ℕ → Datum → Type 0) (p : ℕ) (v : Datum) → ArrayLies o b AnyBits n end L p v → length (elements_in v) ≡ n
  unfolding ArrayLies
  elements_counted n end L p (Many ds) l = l.0
  elements_counted n end L p (Unsigned m) l = absurd l
  elements_counted n end L p (Signed z) l = absurd l
  elements_counted n end L p (Text s) l = absurd l

  -- an automatic length and its array
  counted_found : (t : FieldType) (p : ℕ) (x : Datum × ℕ) → member_at o b limit [] (Dyn t Auto) p ≡ Ok x
      → MemberLies o b AnyBits (Dyn t Auto) [] p x.0 × (x.1 ≡ member_end (Dyn t Auto) p x.0) × (x.1 ≤ limit)
  unfolding member_at length_at MemberLies member_end FieldLies field_end CountLies
  counted_found t p x h =
      let n = both_ok (bits_at o b limit 8 32 p) _ x h in
      let is = bits_found 8 32 p n.0 n.1 in
      let array = Reads.found (field_reads (chain_of t).leaf (n.0.0 ∷ (chain_of t).lengths)) n.0.1 x n.2 in
      let count = elements_counted n.0.0 (field_end (chain_of t).leaf (chain_of t).lengths) (FieldLies o b AnyBits (chain_of t).leaf (chain_of t).lengths) (up n.0.1 (leaf_align (chain_of t).leaf)) x.0 array.0.1 in
      let there = subst (λ (q : ℕ). FieldLies o b AnyBits (chain_of t).leaf (n.0.0 ∷ (chain_of t).lengths) q x.0 × (x.1 ≡ field_end (chain_of t).leaf (n.0.0 ∷ (chain_of t).lengths) q x.0)) is.1 (array.0, array.1) in
      let lies = subst (λ (k : ℕ). FieldLies o b AnyBits (chain_of t).leaf (k ∷ (chain_of t).lengths) (up p 8 + 32) x.0) (sym count) there.0 in
      (((tt, sym is.0 ∙ sym count), lies), there.1, array.2)

  counted_again : (t : FieldType) (p : ℕ) (v : Datum) → MemberLies o b AnyBits (Dyn t Auto) [] p v → member_end (Dyn t Auto) p v ≤ limit
      → member_at o b limit [] (Dyn t Auto) p ≡ Ok (v, member_end (Dyn t Auto) p v)
  unfolding member_at length_at MemberLies member_end CountLies
  counted_again t p v l h =
      let r = field_reads (chain_of t).leaf (length (elements_in v) ∷ (chain_of t).lengths) in
      let count = bits_again 8 32 p (omega (arith, le-field_end (chain_of t).leaf (length (elements_in v) ∷ (chain_of t).lengths) (up p 8 + 32) v)) in
      let array = Reads.again r (up p 8 + 32) v l.1 h in
      rw (count, l.0.1, array) refl

  pub member_reads : (before : List Datum) (m : MemberType) → Reads limit (member_at o b limit before m) (MemberLies o b AnyBits m before) (member_end m)
  unfolding member_at length_at MemberLies member_end field_end
  member_reads before (Plain t) = field_reads (chain_of t).leaf (chain_of t).lengths
  member_reads before (Dyn t (At i)) = field_reads (chain_of t).leaf (count_at before i ∷ (chain_of t).lengths)
  member_reads before (Dyn t Auto) = record {
    found = counted_found t;
    again = counted_again t;
  }

  pub members_found : (ms : List (List ℕ × MemberType)) (before : List Datum) (p : ℕ) (x : List Datum × ℕ) → p ≤ limit → members_at o b limit before ms p ≡ Ok x
      → MembersLie o b AnyBits ms before p x.0 × (x.1 ≡ members_end ms p x.0) × (x.1 ≤ limit)
  unfolding members_at MembersLie members_end
  members_found [] before p x h e =
      subst (λ (y : List Datum × ℕ). MembersLie o b AnyBits [] before p y.0 × (y.1 ≡ members_end [] p y.0) × (y.1 ≤ limit)) (one_ok ([], p) x e) (tt, refl, h)
  members_found (m ∷ ms) before p x h e =
      let first = both_ok (member_at o b limit before m.1 p) _ x e in
      let v = Reads.found (member_reads before m.1) p first.0 first.1 in
      let rest = both_ok (members_at o b limit (before ++ first.0.0 ∷ []) ms first.0.1) _ x first.2 in
      let vs = members_found ms (before ++ first.0.0 ∷ []) first.0.1 rest.0 v.2 rest.1 in
      let there = subst (λ (q : ℕ). MembersLie o b AnyBits ms (before ++ first.0.0 ∷ []) q rest.0.0 × (rest.0.1 ≡ members_end ms q rest.0.0)) v.1 (vs.0, vs.1) in
      subst (λ (y : List Datum × ℕ). MembersLie o b AnyBits (m ∷ ms) before p y.0 × (y.1 ≡ members_end (m ∷ ms) p y.0) × (y.1 ≤ limit)) (one_ok (first.0.0 ∷ rest.0.0, rest.0.1) x rest.2)
      ((v.0, there.0), there.1, vs.2)

  pub members_again : (ms : List (List ℕ × MemberType)) (before : List Datum) (p : ℕ) (vs : List Datum) → MembersLie o b AnyBits ms before p vs → members_end ms p vs ≤ limit
      → members_at o b limit before ms p ≡ Ok (vs, members_end ms p vs)
  unfolding members_at MembersLie members_end
  members_again [] before p [] l h = refl
  members_again [] before p (v ∷ vs) l h = absurd l
  members_again (m ∷ ms) before p [] l h = absurd l
  members_again (m ∷ ms) before p (v ∷ vs) l h =
      let first = Reads.again (member_reads before m.1) p v l.0 (omega (arith, le-members_end ms (member_end m.1 p v) vs)) in
      let rest = members_again ms (before ++ v ∷ []) (member_end m.1 p v) vs l.1 h in
      rw (first, rest) refl

  pub begin_found : (ms : List (List ℕ × MemberType)) (least p q : ℕ) → p ≤ limit → members_begin limit ms least p ≡ Ok q → (q ≡ members_start ms least p) × (q ≤ limit)
  begin_found [] least p q h e = subst (λ (y : ℕ). (y ≡ p) × (y ≤ limit)) (one_ok p q e) (refl, h)
  begin_found (m ∷ ms) least p q h e = start_found (largest_align least (m ∷ ms)) p q e

  pub begin_again : (ms : List (List ℕ × MemberType)) (least p : ℕ) → members_start ms least p ≤ limit → members_begin limit ms least p ≡ Ok (members_start ms least p)
  begin_again [] least p h = refl
  begin_again (m ∷ ms) least p h = start_again (largest_align least (m ∷ ms)) p h

  -- what is read of a structure lies there and ends within the limit
  pub struct_found : (s : StructType) (p : ℕ) (x : List Datum × ℕ) → p ≤ limit → struct_at o b limit s p ≡ Ok x
      → StructLies o b AnyBits s p x.0 × (x.1 ≡ struct_end s p x.0) × (x.1 ≤ limit)
  unfolding struct_at StructLies struct_end
  struct_found s p x h e =
      let begins = both_ok (members_begin limit s.members s.min_align p) _ x e in
      let at = begin_found s.members s.min_align p begins.0 h begins.1 in
      let is = members_found s.members [] begins.0 x at.1 begins.2 in
      let there = subst (λ (q : ℕ). MembersLie o b AnyBits s.members [] q x.0 × (x.1 ≡ members_end s.members q x.0)) at.0 (is.0, is.1) in
      ((tt, there.0), there.1, is.2)

  -- what lies and ends within the limit is what is read
  pub struct_again : (s : StructType) (p : ℕ) (vs : List Datum) → StructLies o b AnyBits s p vs → struct_end s p vs ≤ limit → struct_at o b limit s p ≡ Ok (vs, struct_end s p vs)
  unfolding struct_at StructLies struct_end
  struct_again s p vs l h =
      let begins = begin_again s.members s.min_align p (omega (arith, le-members_end s.members (members_start s.members s.min_align p) vs)) in
      rw begins (members_again s.members [] (members_start s.members s.min_align p) vs l.1 h)
