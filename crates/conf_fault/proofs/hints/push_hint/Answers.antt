use Rattle.std.proofs.Common.{◌≡◌, ◌∙◌, ℕ, List, true, false, string_bytes, subst, sym}
use Rattle.std.specs.Prelude.{OnOk, codes}
use Rattle.std.specs.List.{list_any}
use Rattle.std.specs.Str.{bytes_eq}
use Rattle.conf_fault.specs.Explanation.{Adds}
use Rattle.conf_fault.specs.Wanted.{IsNameHint, IsHint, IsMissingHint, end_name, include_words, is_hyphen}
use Rattle.conf_fault.proofs.WantedLemmas.{hint_said, hint_there, no_hint, no_hint_of_others, not_false, not_true}
use Rattle.conf_fault.proofs.hints.push_hint.Goals as goal

pub returns-in-Missing : goal.returns-in-Missing
unfolding IsHint
returns-in-Missing c =
    let steps = c.args.fault.now.path in
    let now = string_bytes c.push_missing_hint.new.said in
    rw c.in-Missing.is (subst (λ name. OnOk c.push_missing_hint.result (Adds (IsMissingHint steps name) (string_bytes c.args.said.now) now)) c.requires
    (subst (λ path. OnOk c.push_missing_hint.result (Adds (IsMissingHint path c.args.name.now) (string_bytes c.args.said.now) now)) c.as_slice.ensures c.push_missing_hint.ensures))

pub returns-in-NameClash : goal.returns-in-NameClash
unfolding IsHint
returns-in-NameClash c =
    rw c.in-NameClash.is (subst (λ name. OnOk c.push_name_hint.result (Adds (IsNameHint name) (string_bytes c.args.said.now) (string_bytes c.push_name_hint.new.said))) c.requires c.push_name_hint.ensures)

pub returns-in-NotWhole : goal.returns-in-NotWhole
unfolding IsHint
returns-in-NotWhole c = rw c.in-NotWhole.is c.push_whole_hint.ensures

pub returns-in-NoSuchAlias : goal.returns-in-NoSuchAlias
unfolding IsHint
returns-in-NoSuchAlias c = rw c.in-NoSuchAlias.is c.push_quote_hint.ensures

pub returns-in-OutOfRange : goal.returns-in-OutOfRange
unfolding IsHint
returns-in-OutOfRange c = rw c.in-OutOfRange.is c.push_range_hint.ensures

pub returns-then-ne : goal.returns-then-ne
unfolding IsHint
returns-then-ne c =
    let other = subst (λ (n : List ℕ). bytes_eq n (codes "$include") ≡ false) c.requires (not_true _ _ c.ne.ensures c.if-ne.true) in
    rw c.in-Unknown.is (no_hint (bytes_eq (end_name c.args.fault.now.path) (codes "$include")) include_words _ other)

pub returns-else-ne : goal.returns-else-ne
unfolding IsHint
returns-else-ne c =
    let same = subst (λ (n : List ℕ). bytes_eq n (codes "$include") ≡ true) c.requires (not_false _ _ c.ne.ensures c.if-ne.false) in
    rw c.in-Unknown.is (hint_said c.push_include_hint.result (bytes_eq (end_name c.args.fault.now.path) (codes "$include")) include_words _ _ same c.push_include_hint.ensures)

pub returns-then-not-contains : goal.returns-then-not-contains
unfolding IsHint
returns-then-not-contains c =
    let none = subst (λ (n : List ℕ). list_any is_hyphen n ≡ false) (c.as_bytes.ensures.value ∙ c.requires) (sym c.contains.ensures.value ∙ c.if-not-contains.true) in
    rw c.in-BadName.is (no_hint (list_any is_hyphen (end_name c.args.fault.now.path)) (codes "; a hyphen stands in no name, `_` does") _ none)

pub returns-else-not-contains : goal.returns-else-not-contains
unfolding IsHint
returns-else-not-contains c =
    let some = subst (λ (n : List ℕ). list_any is_hyphen n ≡ true) (c.as_bytes.ensures.value ∙ c.requires) (sym c.contains.ensures.value ∙ c.if-not-contains.false) in
    rw c.in-BadName.is (hint_there c.push_str.result (list_any is_hyphen (end_name c.args.fault.now.path)) (codes "; a hyphen stands in no name, `_` does") _ _ some c.push_str.ensures.bytes)

pub returns-in_default : goal.returns-in_default
returns-in_default c = no_hint_of_others _ _ _ c.in_default.not-Missing c.in_default.not-Unknown c.in_default.not-BadName c.in_default.not-NameClash c.in_default.not-NotWhole c.in_default.not-NoSuchAlias c.in_default.not-OutOfRange
