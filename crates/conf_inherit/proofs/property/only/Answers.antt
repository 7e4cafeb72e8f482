use Rattle.std.proofs.Common.{◌≡◌, ℕ, List, [], ◌∷◌, length, is_some, true, true≢false, string_bytes, refl, sym, ap, ◌∙◌, arith}
use Rattle.serde_json.specs.{Data.{Data, object, member, no_members, put}, Find.get_member, View.{view, members_view}}
use Rattle.serde_json.proofs.Views.{Entry, view-Object}
use Rattle.conf_inherit.proofs.LayingLemmas.{same_name, same, other, meets, get_other}
use Rattle.conf_inherit.proofs.property.only.Goals as goal

-- what is put at the only name is alone there
alone : (n : List ℕ) (d : Data) (es : List Entry) → length es ≡ 1 → is_some (get_member n (members_view es)) ≡ true → put n d (members_view es) ≡ member n d no_members
alone n d [] one there = absurd (omega arith)
alone n d (e ∷ []) one there = elim (meets n (string_bytes e.0)) [
  | same is ↦ rw (← is, same_name n) refl
  | other apart ↦ absurd (true≢false (sym there ∙ ap is_some (get_other n (string_bytes e.0) (view e.1) no_members apart)))
]
alone n d (e ∷ f ∷ es) one there = absurd (omega arith)

pub returns-then-has : goal.returns-then-has
returns-then-has c =
    let n = string_bytes c.args.name.now in
    let es = c.args.members.entries in
    let one : length es ≡ 1 = sym c.len.ensures.len ∙ c.if-len-eq1.true in
    let there : is_some (get_member n (members_view es)) ≡ true = ap (λ x. is_some (get_member x (members_view es))) (sym c.as_str.ensures.value) ∙ sym c.has.ensures ∙ c.if-has.true in
    view-Object c.put_property.new.members ∙ ap object (c.in_ok-put_property.ensures ∙ alone n (view c.args.value) es one there)
