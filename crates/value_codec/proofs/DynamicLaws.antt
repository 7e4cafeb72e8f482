-- A dynamic array with an automatic length: the number of its elements and then the elements.
use Rattle.std.proofs.Common.{◌≡◌, ℕ, ◌+◌, ◌^◌, ◌<◌, List, ◌∷◌, All, length, refl, sym, ap, ◌∙◌, subst}
use Rattle.std.proofs.lemmas.List.{length-map}
use Rattle.ctf_types.specs.declared.ByteOrder.{ByteOrder}
use Rattle.ctf_types.specs.declared.FieldType.{FieldType}
use Rattle.ctf_types.specs.declared.Length.{Length}
use Rattle.ctf_types.specs.declared.Length.TheVariants.{Auto, At}
use Rattle.ctf_types.specs.declared.MemberType.{MemberType}
use Rattle.ctf_types.specs.declared.MemberType.TheVariants.{Dyn}
use Rattle.ctf_types.specs.declared.Value.{Value}
use Rattle.ctf_types.specs.Alignment.{up}
use Rattle.ctf_types.specs.Bits.{number_at}
use Rattle.ctf_types.specs.Chain.{Leaf}
use Rattle.ctf_types.specs.Datum.{Datum, Unsigned, Signed, Text, Many}
use Rattle.ctf_types.specs.FieldTypes.{chain_of}
use Rattle.ctf_types.specs.Fitting.{FieldFits, ListFits, MemberFits}
use Rattle.ctf_types.specs.Laws.{IsAutomatic}
use Rattle.ctf_types.specs.Layout.{field_end, member_end, elements_in, CountLies, MemberLies}
use Rattle.ctf_types.specs.Values.{datum_of, data_of}
use Rattle.value_codec.specs.Writing.{element_align, elements_end, ElementsLie}
use Rattle.value_codec.proofs.FieldLaws.{array_elements_fit, array_lies}

-- the length of a member whose length is automatic
auto_length : (t : FieldType) (l : Length) → IsAutomatic (Dyn t l) → l ≡ Auto
auto_length t Auto automatic = refl
auto_length t (At i) automatic = absurd automatic

-- a list of any length is an array of that length
list_fits : (t : Leaf) (ns : List ℕ) (v : Datum) → ListFits (λ n. n < 2 ^ 32) (FieldFits t ns) v
    → (length (elements_in v) < 2 ^ 32) × FieldFits t (length (elements_in v) ∷ ns) v
unfolding FieldFits ListFits
list_fits t ns (Many ds) fits = (fits.0, (refl, fits.1))
list_fits t ns (Unsigned n) fits = absurd fits
list_fits t ns (Signed z) fits = absurd fits
list_fits t ns (Text s) fits = absurd fits

-- `m` is a dynamic array with an automatic length, and `vs` are the elements of its value
module _ (m : MemberType) (t : FieldType) (l : Length) (v : Datum) (vs : List Value)
    (is : m ≡ Dyn t l) (automatic : IsAutomatic m) (elements : data_of vs ≡ elements_in v) where
  is_automatic : m ≡ Dyn t Auto
  is_automatic = is ∙ ap (Dyn t) (auto_length t l (rw is at automatic))

  count_of : length (elements_in v) ≡ length vs
  count_of = ap length (sym elements) ∙ length-map vs datum_of

  fits_as_array : MemberFits m v → (length (elements_in v) < 2 ^ 32) × FieldFits (chain_of t).leaf (length (elements_in v) ∷ (chain_of t).lengths) v
  unfolding MemberFits
  fits_as_array fits = list_fits (chain_of t).leaf (chain_of t).lengths v (rw is at fits)

  -- its length is a number of 32 bits
  pub dynamic-few : MemberFits m v → length vs < 2 ^ 32
  dynamic-few fits = subst (λ (n : ℕ). n < 2 ^ 32) count_of (fits_as_array fits).0

  -- its elements fit
  pub dynamic-fits : MemberFits m v → All (FieldFits (chain_of t).leaf (chain_of t).lengths) (data_of vs)
  dynamic-fits fits = rw elements (array_elements_fit (chain_of t).leaf (length (elements_in v)) (chain_of t).lengths v (fits_as_array fits).1)

  -- it ends where its elements end, which begin at their alignment behind the length
  pub dynamic_end : (p : ℕ) → member_end m p v ≡ elements_end t (up (up p 8 + 32) (element_align t)) (data_of vs)
  unfolding member_end field_end
  dynamic_end p = rw (is_automatic, elements) refl

  -- it lies where its length lies and its elements lie behind it
  pub dynamic-lies : (o : ByteOrder) (b : ℕ → ℕ) (pad : ℕ → ℕ → Type 0) (p q : ℕ) → MemberFits m v → q ≡ up p 8 + 32
      → pad p (up p 8) × (number_at o b (up p 8) 32 ≡ length vs)
      → pad q (up q (element_align t)) × ElementsLie o b pad t (up q (element_align t)) (data_of vs)
      → (before : List Datum) → MemberLies o b pad m before p v
  unfolding MemberLies CountLies
  dynamic-lies o b pad p q fits begins count lies before =
      let from_start : pad (up p 8 + 32) (up (up p 8 + 32) (element_align t)) × ElementsLie o b pad t (up (up p 8 + 32) (element_align t)) (elements_in v) =
      rw (begins, elements) at lies in
      rw is_automatic (
        (count.0, count.1 ∙ sym count_of),
        array_lies o b pad (chain_of t).leaf (length (elements_in v)) (chain_of t).lengths (up p 8 + 32) v (fits_as_array fits).1 from_start.0 from_start.1,
      )
