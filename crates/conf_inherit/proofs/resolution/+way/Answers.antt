use Rattle.std.proofs.{Common.{Bor, ◌≡◌, ℕ, List, ◌∷◌, map, None, Some, option_map, ap, refl, sym, ◌∙◌}, lemmas.List.nil_from_length}
use Rattle.serde_json.specs.{Data.{Data, object, Members}, Find.{as_object, get_member}, View.{view, members_view}}
use Rattle.serde_json.proofs.Views.{view-Object, view-lookup}
use Rattle.conf_inherit.specs.{Resolution.members_or_none, Whole.{at_way, in_object, with_object, with_property}}
use Rattle.conf_inherit.proofs.TakenLemmas.{with_none, written_with, at_none, as_it_is}
use Rattle.conf_inherit.proofs.resolution.+way.Goals as goal

abbrev names : List (Bor (List ℕ)) → List (List ℕ)
names way = map (λ name. name.now) way

object_of : (v : Data) (ms : Members) → Some ms ≡ as_object v → v ≡ object ms
object_of (object ns) ms is = cc
object_of _ ms is = cc

-- one step of the way
step_found : (way : List (Bor (List ℕ))) (name : Bor (List ℕ)) (rest : List (Bor (List ℕ))) (v : Data) (ms : Members) → way ≡ name ∷ rest → Some ms ≡ as_object v → at_way (names way) (Some v) ≡ at_way (names rest) (get_member name.now ms)
step_found way name rest v ms split is = rw (split, object_of v ms is) refl

step_put : (way : List (Bor (List ℕ))) (name : Bor (List ℕ)) (rest : List (Bor (List ℕ))) (v : Data) (ms al : Members) → way ≡ name ∷ rest → Some ms ≡ as_object v → with_object (names way) al v ≡ object (with_property name.now (with_object (names rest) al) ms)
step_put way name rest v ms al split is = rw (split, object_of v ms is) refl

pub returns-in_default : goal.returns-in_default
returns-in_default t c =
    let stays = as_it_is (names c.args.way.now) (members_view c.args.properties.entries) (view c.args.value.now) (sym c.in_default.ensures.value) in
    record { old = ap members_view c.new.ensures.empty ∙ stays.1; new = sym stays.0 }

pub returns-in_default-split_first-clause-new : goal.returns-in_default-split_first-clause-new
returns-in_default-split_first-clause-new t c =
    let al = members_view c.args.properties.entries in
    view-Object c.replace.new.dest
    ∙ ap (λ m. object (members_view m.entries)) c.replace.ensures.after
    ∙ ap (in_object al) (sym (object_of (view c.args.value.now) (members_view c.in-Some.members.now.entries) c.in-Some.ensures.value))
    ∙ ap (λ way. with_object (names way) al (view c.args.value.now)) (sym (nil_from_length c.args.way.now c.in_default-split_first.ensures.cases))

pub returns-in-Some-get_mut : goal.returns-in-Some-get_mut
returns-in-Some-get_mut t c =
    let name = c.in-Some-split_first.name.now in
    let rest = c.in-Some-split_first.rest.now in
    let old = c.in-Some.members.now.entries in
    let al = members_view c.args.properties.entries in
    let d = view c.in-Some-get_mut.inner.now in
    let found : get_member name.now (members_view old) ≡ Some d = sym (ap (option_map view) c.in-Some-get_mut.ensures.value ∙ view-lookup name.now old) in
    record {
      old = c.replace_object.ensures.old
          ∙ ap (λ o. members_or_none (at_way (names rest) o)) (sym found)
          ∙ ap members_or_none (sym (step_found c.args.way.now name rest (view c.args.value.now) (members_view old) c.in-Some-split_first.ensures.cases.0 c.in-Some.ensures.value));
      new = view-Object (c.get_mut.follows.lender c.replace_object.new.value)
          ∙ ap (λ es. object (members_view es)) (c.get_mut.follows.holds c.replace_object.new.value).0
          ∙ ap object (written_with name.now (with_object (names rest) al) d c.replace_object.new.value old found c.replace_object.ensures.new)
          ∙ sym (step_put c.args.way.now name rest (view c.args.value.now) (members_view old) al c.in-Some-split_first.ensures.cases.0 c.in-Some.ensures.value);
    }

pub returns-in-None : goal.returns-in-None
returns-in-None t c =
    let name = c.in-Some-split_first.name.now in
    let rest = c.in-Some-split_first.rest.now in
    let old = c.in-Some.members.now.entries in
    let al = members_view c.args.properties.entries in
    let none : get_member name.now (members_view old) ≡ None = sym (ap (option_map view) c.in-None.ensures.value ∙ view-lookup name.now old) in
    record {
      old = ap members_view c.new-in-None.ensures.empty
          ∙ ap members_or_none (sym (at_none (names rest)) ∙ ap (at_way (names rest)) (sym none) ∙ sym (step_found c.args.way.now name rest (view c.args.value.now) (members_view old) c.in-Some-split_first.ensures.cases.0 c.in-Some.ensures.value));
      new = view-Object c.get_mut.follows.lender-at-none
          ∙ ap (λ m. object (members_view m.entries)) c.get_mut.follows.holds-at-none
          ∙ ap object (sym (with_none name.now (with_object (names rest) al) (members_view old) none))
          ∙ sym (step_put c.args.way.now name rest (view c.args.value.now) (members_view old) al c.in-Some-split_first.ensures.cases.0 c.in-Some.ensures.value);
    }
