use Rattle.std.proofs.Common.{◌≡◌, ℕ, List, Option, Some, refl, ap, ◌∙◌}
use Rattle.serde_json.specs.View.{members_view}
use Rattle.ctf_types.specs.declared.StructType.{StructType}
use Rattle.conf_draft.specs.Events.{event_type, event_with, level_of}
use Rattle.conf_draft.proofs.event_type.event_type.Goals as goal

event_made : (n m : List ℕ) (k l : Option ℕ) (s p : Option StructType) (x y : StructType) → m ≡ n → l ≡ k → s ≡ Some x → p ≡ Some y → event_with n k s p ≡ Some (record { name = m; log_level = l; specific = x; payload = y })
event_made n m k l s p x y a b c d = rw (← a, ← b, c, d) refl

pub returns : goal.returns
unfolding event_type
returns c =
    let levels = members_view c.args.levels.now.entries in
    event_made c.args.name.now c.in_ok-name.name _ c.log_level.result _ _ c.in_ok-specific.specific c.in_ok-payload.payload
    c.in_ok-name.ensures (c.log_level.ensures ∙ ap (level_of levels) c.optional.ensures) c.in_ok-specific.ensures c.in_ok-payload.ensures
