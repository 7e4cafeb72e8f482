-- What is told of a fault, put together of what the calls say.
use Rattle.std.proofs.Common.{◌≡◌, ◌≢◌, ◌<◌, ◌≤◌, ◌-◌, arith, decimal, length, take, List, [], ◌∷◌, ◌++◌, ℕ, Bool, true, false, map, refl, sym, ap, subst, append-nil}
use Rattle.std.specs.Prelude.{not, Option, Some, None, MatchOption, Result, is_ok, OnOk, if◌then◌else◌, codes}
use Rattle.std.specs.Borrow.{Bor}
use Rattle.std.specs.Str.{bytes_eq}
use Rattle.std.proofs.lemmas.Bool.Decides.{nat_tests}
use Rattle.std.proofs.lemmas.Result.{on_ok_weaker}
use Rattle.conf_table.specs.declared.place.Place.{Place}
use Rattle.conf_table.specs.declared.place.Place.TheVariants as places
use Rattle.conf_table.specs.declared.words.Words.{Words}
use Rattle.conf_table.specs.declared.row.Content.{Content}
use Rattle.conf_table.specs.declared.row.Content.TheVariants as contents
use Rattle.conf_table.specs.declared.row.Presence.{Presence}
use Rattle.conf_table.specs.Table.{told_of}
use Rattle.conf_table.specs.Words.{words_of}
use Rattle.conf_tree.specs.declared.step.Step.{Step}
use Rattle.conf_tree.specs.declared.fault_kind.FaultKind.{FaultKind}
use Rattle.conf_tree.specs.declared.fault_kind.FaultKind.TheVariants as kinds
use Rattle.conf_tree.specs.declared.fault.ConfFault.{ConfFault}
use Rattle.conf_fault.specs.declared.expected.TheConstants.{MOST_NAMES}
use Rattle.conf_fault.specs.Explanation.{Adds, fixed_words, same_words}
use Rattle.conf_fault.specs.Expected.{classes_at, expected_words, listed}
use Rattle.conf_fault.specs.Wanted.{IsChoice, IsHint, IsInRange, IsKnownName, IsLargestNumber, IsNearestIf, IsOneOf, IsRoom, IsTextThere, IsTold, IsToldOfKind, end_name, few_listed, named_text, real_hint, size_words, value_words}
use Rattle.conf_fault.specs.Found.{PathEnd}
use Rattle.conf_fault.specs.Names.{IsRead, known_names}
use Rattle.conf_fault.proofs.Adding.{added, behind}
use Rattle.serde_json.specs.Data.{Data}

abbrev pub texts : List (Bor (List ℕ)) → List (List ℕ)
texts words = map (λ w. w.now) words

-- ---- words that are listed

pub one_of : (text : Option (List ℕ)) (words : List (List ℕ)) (was mid now : List ℕ) → mid ≡ was ++ listed words → Adds (IsNearestIf text words) mid now → Adds (IsOneOf text words) was now
one_of text words was mid now e near = (listed words ++ near.0, (near.0, near.1, refl), behind was mid now (listed words) near.0 e near.2)

-- with no text there is no word nearest to it
pub none_near : (words : List (List ℕ)) (now : List ℕ) → Adds (IsNearestIf None words) now now
none_near words now = ([], refl, sym (append-nil now))

pub chosen : (text : List ℕ) (value : Option Data) (word : Option (List ℕ)) (words : List (List ℕ)) (was mid now : List ℕ) → IsTextThere text value word → Adds (IsOneOf word words) was mid → now ≡ mid ++ real_hint word
    → Adds (IsChoice text value words) was now
chosen text value word words was mid now stands told e = (told.0 ++ real_hint word, (word, told.0, stands, told.1, refl), behind was mid now told.0 (real_hint word) told.2 e)

-- whether it is said that there are no real numbers
pub reals : (text : List ℕ) (b : Bool) → bytes_eq text (codes "real") ≡ b → real_hint (Some text) ≡ (if b then codes "; there are no real numbers" else [])
reals text b e = ap (λ b. if b then codes "; there are no real numbers" else []) e

pub known : (text thing map own was s1 s2 s3 now : List ℕ) (tree value : Option Data) (word : Option (List ℕ)) → IsRead text tree → IsTextThere text value word
    → s1 ≡ was ++ (codes "the name of " ++ (thing ++ codes " (there are ")) → s2 ≡ s1 ++ few_listed (known_names map own tree) → s3 ≡ s2 ++ codes ")"
    → Adds (IsNearestIf word (known_names map own tree)) s3 now → Adds (IsKnownName text value thing map own) was now
known text thing map own was s1 s2 s3 now tree value word read stands e f g near =
    let front = codes "the name of " ++ (thing ++ codes " (there are ") in
    let names = few_listed (known_names map own tree) in (
      front ++ names ++ codes ")" ++ near.0,
      (tree, word, near.0, read, stands, near.1, refl),
      behind was s3 now (front ++ names ++ codes ")") near.0 (behind was s2 s3 (front ++ names) (codes ")") (behind was s1 s2 front names e f) g) near.2,
    )

-- whether the feature is off, and the number for which there has to be room
pub room : (feature was mid now : List ℕ) (off : Bool) → mid ≡ was ++ (if off then codes "true, or a field with " else []) → Adds (IsLargestNumber feature) mid now → Adds (IsRoom feature) was now
room feature was mid now off e largest =
    let front = if off then codes "true, or a field with " else [] in (
      front ++ largest.0,
      (off, largest.0, largest.1, refl),
      behind was mid now front largest.0 e largest.2,
    )

pub not_true : (b r : Bool) → r ≡ not b → r ≡ true → b ≡ false
not_true true r e f = absurd (cc)
not_true false r e f = refl

-- the names of rows, as the code and as the definition reads them
pub same_names : (rows : List (Bor (List ℕ) × Presence × Content)) → map (λ x. x.0.now) rows ≡ map (λ r. r.name) (map told_of rows)
same_names [] = refl
same_names (r ∷ rs) = ap (λ names. r.0.now ∷ names) (same_names rs)

-- ---- hints

pub not_false : (b r : Bool) → r ≡ not b → r ≡ false → b ≡ true
not_false true r e f = refl
not_false false r e f = absurd (cc)

pub hint_there : {T E : Type 0} (r : Result T E) (b : Bool) (text was now : List ℕ) → b ≡ true → now ≡ (if is_ok r then was ++ text else was)
    → OnOk r (Adds (λ hint. hint ≡ (if b then text else [])) was now)
hint_there r true text was now e f = added (λ hint. hint ≡ text) r was [] was now text text (sym (append-nil was)) f refl refl
hint_there r false text was now e f = absurd (cc)

pub no_hint : (b : Bool) (text was : List ℕ) → b ≡ false → Adds (λ hint. hint ≡ (if b then text else [])) was was
no_hint true text was e = absurd (cc)
no_hint false text was e = ([], refl, sym (append-nil was))

pub no_hint_of_others : (kind : FaultKind) (path : List Step) (was : List ℕ) → kind ≢ kinds.Missing → kind ≢ kinds.Unknown → kind ≢ kinds.BadName → kind ≢ kinds.NameClash → kind ≢ kinds.NotWhole → kind ≢ kinds.NoSuchAlias → kind ≢ kinds.OutOfRange
    → Adds (IsHint kind path) was was
unfolding IsHint
no_hint_of_others kinds.Missing path was a b c d e f g = absurd (a refl)
no_hint_of_others kinds.Unknown path was a b c d e f g = absurd (b refl)
no_hint_of_others kinds.BadName path was a b c d e f g = absurd (c refl)
no_hint_of_others kinds.NameClash path was a b c d e f g = absurd (d refl)
no_hint_of_others kinds.NotWhole path was a b c d e f g = absurd (e refl)
no_hint_of_others kinds.NoSuchAlias path was a b c d e f g = absurd (f refl)
no_hint_of_others kinds.OutOfRange path was a b c d e f g = absurd (g refl)
no_hint_of_others _ path was a b c d e f g = ([], refl, sym (append-nil was))

-- ---- the same everywhere

pub names_no_limit : (kind : FaultKind) → kind ≢ kinds.TooDeep → fixed_words kind ≡ same_words kind
unfolding fixed_words
names_no_limit kinds.TooDeep a = absurd (a refl)
names_no_limit _ a = refl

-- how much a value holds at the places that have no limit of their own
pub size_of_others : (place : Place) → place ≢ places.MemberType → place ≢ places.DynamicElementType → place ≢ places.IdentifierFeature → place ≢ places.Mappings → place ≢ places.Ranges
    → size_words place ≡ codes "at most " ++ value_words
unfolding size_words
size_of_others places.MemberType a b c d e = absurd (a refl)
size_of_others places.DynamicElementType a b c d e = absurd (b refl)
size_of_others places.IdentifierFeature a b c d e = absurd (c refl)
size_of_others places.Mappings a b c d e = absurd (d refl)
size_of_others places.Ranges a b c d e = absurd (e refl)
size_of_others _ a b c d e = refl

-- ---- what is told

-- what is known by an equation is added
pub adds_same : {T E : Type 0} (r : Result T E) (Is : List ℕ → Type 0) (was now words : List ℕ) → Is words → OnOk r (now ≡ was ++ words) → OnOk r (Adds Is was now)
adds_same r Is was now words is h = on_ok_weaker r (λ (e : now ≡ was ++ words). (words, is, e)) h

pub hint_said : {T E : Type 0} (r : Result T E) (b : Bool) (text was now : List ℕ) → b ≡ true → OnOk r (now ≡ was ++ text)
    → OnOk r (Adds (λ hint. hint ≡ (if b then text else [])) was now)
hint_said r true text was now e h = adds_same r (λ hint. hint ≡ text) was now text refl h
hint_said r false text was now e h = absurd (cc)

pub in_word : (text : List ℕ) (value : Option Data) (content : Option Content) (choice : Words) (position : Place) (words : List (List ℕ)) (was now : List ℕ) → content ≡ Some (contents.Word choice) → words ≡ words_of choice
    → Adds (IsChoice text value words) was now → Adds (IsInRange text value content position) was now
unfolding IsInRange
in_word text value content choice position words was now e f h =
    subst (λ (o : Option Content). Adds (IsInRange text value o position) was now) (sym e) (subst (λ (ws : List (List ℕ)). Adds (IsChoice text value ws) was now) f h)

pub in_class : (text : List ℕ) (value : Option Data) (content : Option Content) (position : Place) (words : List (List ℕ)) (was now : List ℕ) → content ≡ Some contents.Class → words ≡ classes_at position
    → Adds (IsChoice text value words) was now → Adds (IsInRange text value content position) was now
unfolding IsInRange
in_class text value content position words was now e f h =
    subst (λ (o : Option Content). Adds (IsInRange text value o position) was now) (sym e) (subst (λ (ws : List (List ℕ)). Adds (IsChoice text value ws) was now) f h)

-- of the kinds that have no words of their own, what the table expects is told
pub told_of_others : (text : List ℕ) (kind : FaultKind) (path : List Step) (end : PathEnd) (said : List ℕ) → kind ≢ kinds.Unknown → kind ≢ kinds.OutOfRange → kind ≢ kinds.BadName → kind ≢ kinds.NoSuchAlias
    → kind ≢ kinds.NoClock → kind ≢ kinds.FieldTooSmall → kind ≢ kinds.Limit → said ≡ expected_words end.content end.position → IsToldOfKind text kind path end said
unfolding IsToldOfKind
told_of_others text kinds.Unknown path end said a b c d e f g is = absurd (a refl)
told_of_others text kinds.OutOfRange path end said a b c d e f g is = absurd (b refl)
told_of_others text kinds.BadName path end said a b c d e f g is = absurd (c refl)
told_of_others text kinds.NoSuchAlias path end said a b c d e f g is = absurd (d refl)
told_of_others text kinds.NoClock path end said a b c d e f g is = absurd (e refl)
told_of_others text kinds.FieldTooSmall path end said a b c d e f g is = absurd (f refl)
told_of_others text kinds.Limit path end said a b c d e f g is = absurd (g refl)
told_of_others text _ path end said a b c d e f g is = is

-- the text by the property's name, or what the kind tells where there is none
pub told_text : (text : List ℕ) (fault : ConfFault) (end : PathEnd) (words : List ℕ) → named_text fault.kind (end_name fault.path) end.content ≡ Some words → IsTold text fault end words
told_text text fault end words e = subst (λ (o : Option (List ℕ)). MatchOption o (IsToldOfKind text fault.kind fault.path end words) (λ said. words ≡ said)) (sym e) refl

pub told_by_kind : (text : List ℕ) (fault : ConfFault) (end : PathEnd) (said : List ℕ) → named_text fault.kind (end_name fault.path) end.content ≡ None → IsToldOfKind text fault.kind fault.path end said → IsTold text fault end said
told_by_kind text fault end said e is = subst (λ (o : Option (List ℕ)). MatchOption o (IsToldOfKind text fault.kind fault.path end said) (λ words. said ≡ words)) (sym e) is

pub adds_by_kind : {T E : Type 0} (r : Result T E) (text : List ℕ) (fault : ConfFault) (end : PathEnd) (was now : List ℕ) → named_text fault.kind (end_name fault.path) end.content ≡ None
    → OnOk r (Adds (IsToldOfKind text fault.kind fault.path end) was now) → OnOk r (Adds (IsTold text fault end) was now)
adds_by_kind r text fault end was now e h = on_ok_weaker r (λ (adds : Adds (IsToldOfKind text fault.kind fault.path end) was now). (adds.0, told_by_kind text fault end adds.0 e adds.1, adds.2)) h

-- ---- names of which there are many

pub few : (names : List (List ℕ)) → length names ≤ MOST_NAMES → listed names ≡ few_listed names
few names h = grind (arith, nat_tests)

pub many : (names : List (List ℕ)) → MOST_NAMES < length names → listed (take MOST_NAMES names) ++ (codes " and " ++ decimal (length names - MOST_NAMES) ++ codes " more") ≡ few_listed names
many names h = grind (arith, nat_tests)
