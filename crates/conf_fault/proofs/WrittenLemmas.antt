-- What is kept of a value's text, character by character.
use Rattle.std.proofs.Common.{◌≡◌, ◌∙◌, ◌+◌, ◌<◌, ℕ, List, [], ◌++◌, ap, append_assoc, append-nil, drop, get_or, length, sym, subst}
use Rattle.std.specs.Prelude.{Bool, IfSome, None, Option, Some, false, is_some, not, option_map}
use Rattle.std.proofs.Math.Utf8.{encodes}
use Rattle.std.proofs.Math.Seq.{drop-length}
use Rattle.std.proofs.lemmas.List.{drop_more}
use Rattle.std.proofs.lemmas.Str.{encodes-append}
use Rattle.conf_fault.specs.declared.written.Within.{Within}
use Rattle.conf_fault.specs.Names.{IsRead}
use Rattle.conf_fault.specs.Written.{all_kept, kept, place_behind}
use Rattle.conf_tree.specs.Walk.{Reads}
use Rattle.serde_json.specs.Data.{Data}
use Rattle.serde_json.specs.View.{view}
use Rattle.serde_json.specs.declared.value.Value.{Value}

-- one character further
pub one_kept : (within : Within) (cs : List ℕ) (i : ℕ) (c : ℕ) (was now whole : List ℕ) → i < length cs → c ≡ get_or cs i c → was ++ encodes (all_kept within (drop i cs)) ≡ whole
    → now ≡ was ++ encodes (kept within c) → now ++ encodes (all_kept (place_behind within c) (drop (i + 1) cs)) ≡ whole
one_kept within cs i c was now whole less is so_far e =
    let rest = all_kept (place_behind within c) (drop (i + 1) cs) in
    let here : all_kept within (drop i cs) ≡ kept within c ++ rest =
    ap (all_kept within) (drop_more cs i c less) ∙ ap (λ (x : ℕ). kept within x ++ all_kept (place_behind within x) (drop (i + 1) cs)) (sym is) in
    ap (λ z. z ++ encodes rest) e ∙ append_assoc was (encodes (kept within c)) (encodes rest) ∙ ap (λ z. was ++ z) (sym (encodes-append (kept within c) rest)) ∙ ap (λ z. was ++ encodes z) (sym here) ∙ so_far

-- at the end
pub all_are_kept : (within : Within) (cs : List ℕ) (i : ℕ) (now whole : List ℕ) → length cs ≡ i → now ++ encodes (all_kept within (drop i cs)) ≡ whole → now ≡ whole
all_are_kept within cs i now whole end so_far = sym (append-nil now) ∙ ap (λ z. now ++ encodes (all_kept within z)) (sym (subst (λ (n : ℕ). drop n cs ≡ []) end (drop-length cs))) ∙ so_far

-- ---- what is known of a value that is there

pub of_some : {A : Type 0} (P : A → Type 0) (o : Option A) (x : A) → o ≡ Some x → IfSome o P → P x
of_some P o x e h = subst (λ o. IfSome o P) e h

pub read_value : (text : List ℕ) (tree : Option Value) (b : Bool) → is_some tree ≡ not b → b ≡ false → IsRead text (option_map view tree) → (value : Data) × Reads text value
read_value text None b e f is = absurd (cc)
read_value text (Some tree) b e f is = (view tree, is)
