-- What a reader answers of a field from the answers of its parts.
use Rattle.std.proofs.Common.{◌≡◌, ℕ, List, [], ◌∷◌, refl}
use Rattle.std.specs.Prelude.{Ok, Err}
use Rattle.ctf_types.specs.declared.ByteOrder.{ByteOrder}
use Rattle.ctf_types.specs.declared.IntType.{IntType}
use Rattle.ctf_types.specs.declared.EnumType.{EnumType}
use Rattle.ctf_types.specs.Chain.{Leaf, Number, Labelled, ByteString}
use Rattle.ctf_types.specs.Datum.{Datum, Text, Many, items_of}
use Rattle.ctf_types.specs.Layout.{leaf_align}
use Rattle.value_codec.specs.declared.read_fault.ReadFault.{ReadFault}
use Rattle.value_codec.specs.Reading.{start_at, many_at, int_at, text_at, leaf_at, field_at, Gives}
use Rattle.value_codec.proofs.ReadingSteps.{gives_first}

module _ (o : ByteOrder) (b : ℕ → ℕ) (limit : ℕ) where
  pub field_number : (t : IntType) (p : ℕ) → field_at o b limit (Number t) [] p ≡ int_at o b limit t p
  unfolding field_at leaf_at
  field_number t p = refl

  pub field_labelled : (t : EnumType) (p : ℕ) → field_at o b limit (Labelled t) [] p ≡ int_at o b limit t.int p
  unfolding field_at leaf_at
  field_labelled t p = refl

  pub field_text : (p : ℕ) (s : List ℕ) (q : ℕ) → text_at o b limit p ≡ Ok (s, q) → field_at o b limit ByteString [] p ≡ Ok (Text s, q)
  unfolding field_at leaf_at
  field_text p s q h = rw h refl

  pub field_no_text : {A C : Type 0} (view : A → List ℕ × ℕ) (other : C → Datum × ℕ) (p : ℕ) (e : ReadFault)
      → Gives view (Err e) (text_at o b limit p) → Gives other (Err e) (field_at o b limit ByteString [] p)
  unfolding field_at leaf_at
  field_no_text view other p e h = gives_first view other e (text_at o b limit p) _ (field_at o b limit ByteString [] p) refl h

  pub field_unstarted : (t : Leaf) (n : ℕ) (ns : List ℕ) (p : ℕ) (e : ReadFault) → start_at limit (leaf_align t) p ≡ Err e → field_at o b limit t (n ∷ ns) p ≡ Err e
  unfolding field_at
  field_unstarted t n ns p e h = rw h refl

  pub field_many : (t : Leaf) (n : ℕ) (ns : List ℕ) (p s : ℕ) (vs : List Datum) (q : ℕ) → start_at limit (leaf_align t) p ≡ Ok s → many_at (field_at o b limit t ns) n s ≡ Ok (vs, q)
      → field_at o b limit t (n ∷ ns) p ≡ Ok (Many (items_of vs), q)
  unfolding field_at
  field_many t n ns p s vs q h k = rw (h, k) refl

  pub field_not_many : {A C : Type 0} (view : A → List Datum × ℕ) (other : C → Datum × ℕ) (t : Leaf) (n : ℕ) (ns : List ℕ) (p s : ℕ) (e : ReadFault) → start_at limit (leaf_align t) p ≡ Ok s
      → Gives view (Err e) (many_at (field_at o b limit t ns) n s) → Gives other (Err e) (field_at o b limit t (n ∷ ns) p)
  unfolding field_at
  field_not_many view other t n ns p s e h k = gives_first view other e (many_at (field_at o b limit t ns) n s) (λ (x : List Datum × ℕ). Ok (Many (items_of x.0), x.1)) (field_at o b limit t (n ∷ ns) p) (rw h refl) k
