-- Steps of a reading: what one that goes well says, and which test of a table one does not pass that is refused.
use Rattle.std.proofs.Common.{◌≡◌, Bool, true, false, List, [], ◌∷◌, Option, Some, None, Result, Ok, Err, refl, ap, ◌∙◌, sym, subst}
use Rattle.std.specs.Prelude.{is_some, option_map, option_and_then, ℕ}
use Rattle.std.specs.Result.{result_err}
use Rattle.serde_json.specs.Data.{Data, object, null, boolean, number, string, array, Items, Members}
use Rattle.serde_json.specs.Find.{as_object}
use Rattle.ctf_types.specs.declared.MemberType.{MemberType}
use Rattle.trace_text.specs.declared.script_fault.ScriptFaultKind.{ScriptFaultKind}
use Rattle.trace_text.specs.ScriptEntries.{list_in}
use Rattle.trace_text.specs.ScriptFaults.{lowest, object_fault, values_in}
use Rattle.trace_text.specs.ScriptReading.{◌>>=◌, wanted, holds, entry_reading}
use Rattle.trace_text.specs.ScriptValues.{members_values}

abbrev ok_of : {A E : Type 0} → A → Result A E
ok_of x = Ok x

pub same_ok : {A E : Type 0} (x y : A) → ok_of {E = E} x ≡ Ok y → x ≡ y
same_ok x y same = cc

pub bound : {A B E : Type 0} (r : Result A E) (f : A → Result B E) (y : B) → (r >>= f) ≡ Ok y → (x : A) × (r ≡ Ok x) × (f x ≡ Ok y)
bound (Ok x) f y h = (x, refl, h)
bound (Err e) f y h = absurd cc

-- ---- a step that goes well

pub went_well : {A B : Type 0} (kind : ScriptFaultKind) (o : Option A) (f : A → Result B ScriptFaultKind) (y : B) → (wanted kind o >>= f) ≡ Ok y
    → (x : A) × (o ≡ Some x) × (f x ≡ Ok y)
went_well kind None f y h = absurd cc
went_well kind (Some x) f y h = (x, refl, h)

pub passed : {B : Type 0} (kind : ScriptFaultKind) (b : Bool) (f : Unit {0} → Result B ScriptFaultKind) (y : B) → (holds kind b >>= f) ≡ Ok y
    → (b ≡ true) × (f tt ≡ Ok y)
passed kind true f y h = (refl, h)
passed kind false f y h = absurd cc

-- the same, with what follows from it
pub then_says : {A B : Type 0} (P : Type 0) (kind : ScriptFaultKind) (o : Option A) (f : A → Result B ScriptFaultKind) (y : B) → (wanted kind o >>= f) ≡ Ok y
    → ((x : A) → o ≡ Some x → f x ≡ Ok y → P) → P
then_says P kind None f y h next = absurd cc
then_says P kind (Some x) f y h next = next x refl h

pub goes_well : {A B : Type 0} (kind : ScriptFaultKind) (o : Option A) (x : A) (f : A → Result B ScriptFaultKind) (r : Result B ScriptFaultKind)
    → o ≡ Some x → f x ≡ r → (wanted kind o >>= f) ≡ r
goes_well kind o x f r is after = subst (λ (p : Option _). (wanted kind p >>= f) ≡ r) (sym is) after

pub passes : {B : Type 0} (kind : ScriptFaultKind) (b : Bool) (f : Unit {0} → Result B ScriptFaultKind) (r : Result B ScriptFaultKind)
    → b ≡ true → f tt ≡ r → (holds kind b >>= f) ≡ r
passes kind b f r is after = subst (λ (p : Bool). (holds kind p >>= f) ≡ r) (sym is) after

pub found_then : {A B : Type 0} (o : Option A) (f : A → Option B) (y : B) → option_and_then f o ≡ Some y → (x : A) × (o ≡ Some x) × (f x ≡ Some y)
found_then None f y h = absurd cc
found_then (Some x) f y h = (x, refl, h)

-- ---- a table of tests against a reading

pub all_passed : lowest [] ≡ None
unfolding lowest
all_passed = refl

pub judged : {A B : Type 0} (kind : ScriptFaultKind) (o : Option A) (f : A → Result B ScriptFaultKind) (b : Bool) (tests : List (Bool × ScriptFaultKind))
    → b ≡ is_some o → ((x : A) → o ≡ Some x → lowest tests ≡ result_err (f x)) → lowest ((b, kind) ∷ tests) ≡ result_err (wanted kind o >>= f)
unfolding lowest
judged kind None f b tests tested later = ap (λ (t : Bool). lowest ((t, kind) ∷ tests)) tested
judged kind (Some x) f b tests tested later = ap (λ (t : Bool). lowest ((t, kind) ∷ tests)) tested ∙ later x refl

pub test_judged : {B : Type 0} (kind : ScriptFaultKind) (b : Bool) (f : Unit {0} → Result B ScriptFaultKind) (tests : List (Bool × ScriptFaultKind))
    → lowest tests ≡ result_err (f tt) → lowest ((b, kind) ∷ tests) ≡ result_err (holds kind b >>= f)
unfolding lowest
test_judged kind true f tests later = later
test_judged kind false f tests later = refl

-- the same for the whole entry, which has to be an object
pub entry_judged : {A : Type 0} (tests : Members → List (Bool × ScriptFaultKind)) (reads : Members → Result A ScriptFaultKind) (d : Data)
    → ((ms : Members) → lowest (tests ms) ≡ result_err (reads ms)) → object_fault tests (as_object d) ≡ result_err (entry_reading reads d)
entry_judged tests reads null each = refl
entry_judged tests reads (boolean b) each = refl
entry_judged tests reads (number n) each = refl
entry_judged tests reads (string s) each = refl
entry_judged tests reads (array ds) each = refl
entry_judged tests reads (object ms) each = each ms

pub is_object : (d : Data) (ms : Members) → as_object d ≡ Some ms → d ≡ object ms
is_object null ms h = absurd cc
is_object (boolean b) ms h = absurd cc
is_object (number n) ms h = absurd cc
is_object (string s) ms h = absurd cc
is_object (array ds) ms h = absurd cc
is_object (object os) ms h = let same : os ≡ ms = cc in ap object same

-- the values of a structure that is there, in a list that is there
pub values_judged : {T : Type 0} (get : T → List (List ℕ × MemberType)) (o : Option T) (t : T) (name : List ℕ) (ms : Members) (items : Items)
    → o ≡ Some t → list_in name ms ≡ Some items
    → is_some (values_in (option_map get o) name ms) ≡ is_some (members_values (get t) items)
values_judged get o t name ms items there listed =
    ap (λ (p : Option _). is_some (values_in (option_map get p) name ms)) there
    ∙ ap (λ (l : Option Items). is_some (option_and_then (members_values (get t)) l)) listed
