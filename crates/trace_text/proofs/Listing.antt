-- Lists of texts, one element after the other.
use Rattle.std.proofs.Common.{◌≡◌, false, ℕ, zero, suc, ◌+◌, ◌<◌, ◌≤◌, List, [], ◌∷◌, ◌++◌, map, length, length-take, take, get_or, arith, refl, sym, ap, subst, ◌∙◌, append_assoc}
use Rattle.std.specs.Prelude.{◌==◌, codes, min, Option, None, Some, slice_get, option_map, unwrap_or}
use Rattle.std.specs.List.{flat_map}
use Rattle.std.proofs.lemmas.Bool.Decides.{nat_tests}
use Rattle.std.proofs.lemmas.List.{append-nil, take_more, take_all}
use Rattle.std.proofs.lemmas.Option.{slice_get_within, get_or_from_slice_get, slice_get-get_or, slice_get-map}
use Rattle.std.proofs.lemmas.List.Concat.{flat_map-append}
use Rattle.ctf_types.specs.Chain.{Leaf}
use Rattle.ctf_types.specs.declared.MemberType.{MemberType}
use Rattle.ctf_types.specs.declared.Value.{Value}
use Rattle.ctf_types.specs.Datum.{Datum, items_of, depth, depth_of}
use Rattle.ctf_types.specs.Values.{datum_of, data_of}
use Rattle.trace_text.specs.PrintedTexts.{listed, behind_comma, comma_before}
use Rattle.trace_text.specs.PrintedValues.{value_text, texts_of, member_text, member_texts, structure_text}

-- one more item
pub item_more : {A : Type 0} (f : A → List ℕ) (xs : List A) (i : ℕ) (d : A) → i < length xs → flat_map f (take i xs) ++ f (get_or xs i d) ≡ flat_map f (take (i + 1) xs)
item_more f xs i d h =
    sym (ap (flat_map f) (take_more xs i d h) ∙ flat_map-append f (take i xs) (get_or xs i d ∷ [])
    ∙ ap (λ (w : List ℕ). flat_map f (take i xs) ++ w) (append-nil (f (get_or xs i d))))

-- what is said of a part of each item
pub of_each : {A B : Type 0} (f : B → List ℕ) (g : A → B) (xs : List A) → flat_map (λ x. f (g x)) xs ≡ flat_map f (map g xs)
of_each f g [] = refl
of_each f g (x ∷ xs) = ap (λ (w : List ℕ). f (g x) ++ w) (of_each f g xs)

-- all of the items
pub each_all : {A : Type 0} (f : A → List ℕ) (xs : List A) (i : ℕ) → length xs ≤ i → flat_map f (take i xs) ≡ flat_map f xs
each_all f xs i h = ap (flat_map f) (take_all i xs h)

comma_later : (n : ℕ) → comma_before (suc n) ≡ codes ", "
comma_later n = let test : (suc n == 0) ≡ false = grind (arith, nat_tests) in rw test refl

-- one more text of a list
listed_push : (texts : List (List ℕ)) (t : List ℕ) → listed texts ++ comma_before (length texts) ++ t ≡ listed (texts ++ t ∷ [])
listed_push [] t = sym (append-nil t)
listed_push (s ∷ texts) t =
    ap (λ (w : List ℕ). listed (s ∷ texts) ++ w ++ t) (comma_later (length texts))
    ∙ ap (λ (w : List ℕ). w ++ t) (append_assoc s (flat_map behind_comma texts) (codes ", "))
    ∙ append_assoc s (flat_map behind_comma texts ++ codes ", ") t
    ∙ ap (λ (w : List ℕ). s ++ w) (append_assoc (flat_map behind_comma texts) (codes ", ") t
    ∙ ap (λ (w : List ℕ). flat_map behind_comma texts ++ w) (sym (append-nil (behind_comma t))) ∙ sym (flat_map-append behind_comma texts (t ∷ [])))

pub listed_more : (texts : List (List ℕ)) (i : ℕ) (t : List ℕ) → i < length texts → t ≡ get_or texts i t
    → listed (take i texts) ++ comma_before i ++ t ≡ listed (take (i + 1) texts)
listed_more texts i t h e =
    let k : length (take i texts) ≡ i = omega (arith, length-take i texts) in
    ap (λ (n : ℕ). listed (take i texts) ++ comma_before n ++ t) (sym k) ∙ listed_push (take i texts) t
    ∙ ap (λ (w : List ℕ). listed (take i texts ++ w ∷ [])) e ∙ ap listed (sym (take_more texts i t h))

-- the texts of a list's elements
pub texts_are : (t : Leaf) (ds : List Datum) → texts_of t (items_of ds) ≡ map (value_text t) ds
unfolding texts_of
texts_are t [] = refl
texts_are t (d ∷ ds) = ap (λ (w : List (List ℕ)). value_text t d ∷ w) (texts_are t ds)

-- a list goes on with what stands at an index
pub listed_at : (texts : List (List ℕ)) (i : ℕ) (t : List ℕ) → slice_get texts i ≡ Some t → listed (take i texts) ++ comma_before i ++ t ≡ listed (take (i + 1) texts)
listed_at texts i t h = listed_more texts i t (slice_get_within texts i t h) (sym (get_or_from_slice_get texts i t t h))

-- ---- members

member_texts_at : (ms : List (List ℕ × MemberType)) (vs : List Datum) (i : ℕ) (m : List ℕ × MemberType) (v : Datum) → slice_get ms i ≡ Some m → slice_get vs i ≡ Some v
    → slice_get (member_texts ms vs) i ≡ Some (member_text m v)
unfolding member_texts
member_texts_at [] vs i m v e f = cc
member_texts_at (n ∷ ms) [] i m v e f = cc
member_texts_at (n ∷ ms) (w ∷ vs) zero m v e f = let a : n ≡ m = ap (λ (o : Option (List ℕ × MemberType)). unwrap_or o m) e in let b : w ≡ v = ap (λ (o : Option Datum). unwrap_or o v) f in λ i. Some (member_text (a i) (b i))
member_texts_at (n ∷ ms) (w ∷ vs) (suc i) m v e f = member_texts_at ms vs i m v e f

both_parts : (o : Option (List ℕ × MemberType)) (name : List ℕ) (t : MemberType) → option_map (λ m. m.0) o ≡ Some name → option_map (λ m. m.1) o ≡ Some t → o ≡ Some (name, t)
both_parts None name t e f = cc
both_parts (Some m) name t e f =
    let a : m.0 ≡ name = ap (λ (o : Option (List ℕ)). unwrap_or o name) e in
    let b : m.1 ≡ t = ap (λ (o : Option MemberType). unwrap_or o t) f in
    λ i. Some (a i, b i)

pub datum_at : (vs : List Value) (i : ℕ) (v : Value) → i < length vs → v ≡ get_or vs i v → slice_get (data_of vs) i ≡ Some (datum_of v)
datum_at vs i v h e = slice_get-map datum_of vs i ∙ ap (option_map datum_of) (slice_get-get_or vs i v h ∙ ap Some (sym e))

pub members_more : (ms : List (List ℕ × MemberType)) (vs : List Datum) (i : ℕ) (name : List ℕ) (t : MemberType) (v : Datum)
    → option_map (λ m. m.0) (slice_get ms i) ≡ Some name → option_map (λ m. m.1) (slice_get ms i) ≡ Some t → slice_get vs i ≡ Some v
    → listed (take i (member_texts ms vs)) ++ comma_before i ++ member_text (name, t) v ≡ listed (take (i + 1) (member_texts ms vs))
members_more ms vs i name t v e f h =
    listed_at (member_texts ms vs) i (member_text (name, t) v) (member_texts_at ms vs i (name, t) v (both_parts (slice_get ms i) name t e f) h)

member_texts_length : (ms : List (List ℕ × MemberType)) (vs : List Datum) (n : ℕ) → min (length ms) (length vs) ≤ n → length (member_texts ms vs) ≤ n
unfolding member_texts
member_texts_length [] vs n h = omega arith
member_texts_length (m ∷ ms) [] n h = omega arith
member_texts_length (m ∷ ms) (v ∷ vs) zero h = absurd (omega (arith, h))
member_texts_length (m ∷ ms) (v ∷ vs) (suc n) h = omega (arith, member_texts_length ms vs n (omega (arith, h)))

pub members_all : (ms : List (List ℕ × MemberType)) (vs : List Datum) (n : ℕ) → min (length ms) (length vs) ≤ n → listed (take n (member_texts ms vs)) ≡ listed (member_texts ms vs)
members_all ms vs n h = ap listed (take_all n (member_texts ms vs) (member_texts_length ms vs n h))

-- ---- elements

pub elements_more : (t : Leaf) (vs : List Value) (ds : List Datum) (i : ℕ) (v : Value) → data_of vs ≡ ds → i < length vs → v ≡ get_or vs i v
    → listed (take i (map (value_text t) ds)) ++ comma_before i ++ value_text t (datum_of v) ≡ listed (take (i + 1) (map (value_text t) ds))
elements_more t vs ds i v s h e =
    listed_at (map (value_text t) ds) i (value_text t (datum_of v))
    (slice_get-map (value_text t) ds i ∙ ap (option_map (value_text t)) (ap (λ (w : List Datum). slice_get w i) (sym s) ∙ datum_at vs i v h e))

-- ---- structures

-- a structure with members
pub structure_lines : (name : List ℕ) (ms : List (List ℕ × MemberType)) (vs : List Datum) → (ms ≡ [] → ⊥)
    → codes " " ++ name ++ codes "{" ++ listed (member_texts ms vs) ++ codes "}" ≡ structure_text name ms vs
structure_lines name [] vs h = absurd (h refl)
structure_lines name (m ∷ ms) vs h = refl

-- ---- how deep

depth_at : (ds : List Datum) (i : ℕ) (d : Datum) → slice_get ds i ≡ Some d → depth d ≤ depth_of ds
depth_at [] i d h = cc
depth_at (e ∷ ds) zero d h =
    let same : e ≡ d = ap (λ (o : Option Datum). unwrap_or o d) h in subst (λ (x : Datum). depth x ≤ depth_of (e ∷ ds)) same (omega arith)
depth_at (e ∷ ds) (suc i) d h = omega (arith, depth_at ds i d h)

-- an element nests no deeper than its list
pub element_depth : (vs : List Value) (ds : List Datum) (i : ℕ) (v : Value) → data_of vs ≡ ds → i < length vs → v ≡ get_or vs i v → depth (datum_of v) ≤ depth_of ds
element_depth vs ds i v s h e = depth_at ds i (datum_of v) (ap (λ (w : List Datum). slice_get w i) (sym s) ∙ datum_at vs i v h e)
