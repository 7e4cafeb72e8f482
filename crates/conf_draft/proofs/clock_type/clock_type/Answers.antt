use Rattle.std.proofs.Common.{◌≡◌, ℕ, ℤ, pos, List, Option, Bool, refl, sym, ap, ◌∙◌, rules, unwrap_or}
use Rattle.std.specs.Prelude.{codes}
use Rattle.serde_json.specs.View.{members_view}
use Rattle.ctf_types.specs.declared.ClockType.{ClockType}
use Rattle.conf_draft.specs.Clocks.{clock_type}
use Rattle.conf_table.specs.declared.place.Place.TheVariants as places
use Rattle.conf_draft.specs.Defaults.{default_number, number_or_default}
use Rattle.conf_draft.specs.Lookups.{signed, identifier}
use Rattle.conf_draft.proofs.LeftOut.{no_seconds}
use Rattle.conf_draft.proofs.clock_type.clock_type.Goals as goal

same_clock : (n m : List ℕ) (u v d e : Option (List ℕ)) (f g p q : ℕ) (s t : ℤ) (x y : ℕ) (a b : Bool)
    → n ≡ m → u ≡ v → d ≡ e → f ≡ g → p ≡ q → s ≡ t → x ≡ y → a ≡ b
    → ◌≡◌ {A = ClockType} (record { name = n; uuid = u; description = d; frequency = f; precision = p; offset_seconds = s; offset_cycles = x; absolute = a })
    (record { name = m; uuid = v; description = e; frequency = g; precision = q; offset_seconds = t; offset_cycles = y; absolute = b })
same_clock n m u v d e f g p q s t x y a b e1 e2 e3 e4 e5 e6 e7 e8 = rw (e1, e2, e3, e4, e5, e6, e7, e8) refl

pub returns : goal.returns
unfolding clock_type signed identifier
returns c =
    let uuid : c.and_then.result ≡ identifier (codes "uuid") (members_view c.args.members.now.entries) = search rules in
    let seconds : c.and_then-2.result ≡ signed (codes "seconds") (members_view c.object_or-offset.result.now.entries) = search rules in
    same_clock _ _ _ _ _ _ _ _ _ _ _ _ _ _ _ _ c.in_ok-name.ensures uuid c.in_ok-description.ensures c.number_or_default.ensures c.number_or_default-2.ensures
    (search rules ∙ c.unwrap_or.ensures ∙ ap (unwrap_or c.and_then-2.result) (ap pos (sym no_seconds)) ∙ ap (λ o. unwrap_or o (pos (default_number places.ClockOffset (codes "seconds")))) (seconds ∙ ap (signed (codes "seconds")) c.object_or-offset.ensures))
    (c.number_or_default-3.ensures ∙ ap (number_or_default places.ClockOffset (codes "cycles")) c.object_or-offset.ensures)
    c.flag_or_default.ensures
