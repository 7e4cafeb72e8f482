use Rattle.std.proofs.Common.{◌≡◌, ℕ, List, refl, string_bytes, subst}
use Rattle.std.specs.Prelude.{OnOk, Some}
use Rattle.conf_fault.specs.Explanation.{Adds}
use Rattle.conf_fault.specs.Wanted.{IsKnownName, IsOneOf, IsToldOfKind, alias_map, alias_thing, identifier_words, limit_words, names_of}
use Rattle.conf_fault.specs.Found.{data_of, end_of}
use Rattle.conf_fault.proofs.WantedLemmas.{adds_same, told_of_others}
use Rattle.conf_fault.proofs.by_kind.push_told_of_kind.Goals as goal

pub returns-in-Unknown : goal.returns-in-Unknown
unfolding IsToldOfKind
returns-in-Unknown c =
    let now = string_bytes c.push_properties.new.said in
    rw c.in-Unknown.is (subst (λ (name : List ℕ). OnOk c.push_properties.result (Adds (IsOneOf (Some name) (names_of c.args.found.now.holder)) (string_bytes c.args.said.now) now))
    c.end_name.ensures c.push_properties.ensures)

pub returns-in-OutOfRange : goal.returns-in-OutOfRange
unfolding IsToldOfKind
returns-in-OutOfRange c = rw c.in-OutOfRange.is c.push_in_range.ensures

pub returns-in-BadName : goal.returns-in-BadName
unfolding IsToldOfKind
returns-in-BadName c = rw c.in-BadName.is (adds_same c.push_identifier.result (λ (said : List ℕ). said ≡ identifier_words) _ _ _ refl c.push_identifier.ensures)

pub returns-in-NoSuchAlias : goal.returns-in-NoSuchAlias
unfolding IsToldOfKind
returns-in-NoSuchAlias c =
    let now = string_bytes c.push_known_alias.new.said in
    rw c.in-NoSuchAlias.is (subst (λ (own : List ℕ). OnOk c.push_known_alias.result (Adds (IsKnownName c.args.found.now.source.text.now (data_of c.args.found.now.value) (alias_thing own c.args.found.now.content) (alias_map c.args.found.now.content) own) (string_bytes c.args.said.now) now))
    c.own_alias.ensures c.push_known_alias.ensures)

pub returns-in-NoClock : goal.returns-in-NoClock
unfolding IsToldOfKind
returns-in-NoClock c = rw c.in-NoClock.is c.push_known.ensures

pub returns-in-FieldTooSmall : goal.returns-in-FieldTooSmall
unfolding IsToldOfKind
returns-in-FieldTooSmall c = rw c.in-FieldTooSmall.is c.push_room.ensures

pub returns-in-Limit : goal.returns-in-Limit
unfolding IsToldOfKind
returns-in-Limit c =
    let found = c.args.found.now in
    rw c.in-Limit.is (adds_same c.push_limit.result (λ (said : List ℕ). said ≡ limit_words found.content found.position) _ _ _ refl c.push_limit.ensures)

pub returns-in_default : goal.returns-in_default
returns-in_default c =
    adds_same c.push_expected.result (IsToldOfKind c.args.found.now.source.text.now c.args.kind c.args.path.now (end_of c.args.found.now)) _ _ _
    (told_of_others _ _ _ _ _ c.in_default.not-Unknown c.in_default.not-OutOfRange c.in_default.not-BadName c.in_default.not-NoSuchAlias c.in_default.not-NoClock c.in_default.not-FieldTooSmall c.in_default.not-Limit refl)
    c.push_expected.ensures
