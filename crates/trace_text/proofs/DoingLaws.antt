-- Objects of one property.
use Rattle.std.proofs.Common.{◌≡◌, ℕ, Bool, true, false, List, [], ◌∷◌, length, Some, None, refl}
use Rattle.std.specs.Prelude.{String, is_some, ◌||◌, codes, if◌then◌else◌}
use Rattle.std.specs.Str.{bytes_eq}
use Rattle.std.specs.declared.alloc.Global.{Global}
use Rattle.serde_json.specs.declared.value.Value.{Value}
use Rattle.serde_json.specs.View.{members_view}
use Rattle.trace_stack.specs.declared.event.Act.TheVariants.{OpenPacket, ClosePacket, Collect, Enable}
use Rattle.trace_text.specs.declared.script_object.ScriptObject.TheVariants.{Doing}
use Rattle.trace_text.specs.ScriptEntries.{act_named, doing_in}
use Rattle.trace_text.specs.ScriptObjects.{has_property, properties_of}

-- none or several properties are no act's word
pub no_doing : (es : List (String Global × Value)) → (length es ≡ 1 → ⊥) → None ≡ doing_in (members_view es)
no_doing [] h = refl
no_doing (e ∷ []) h = absurd (h refl)
no_doing (e ∷ f ∷ es) h = refl

-- the words of acts are the names in the table
pub acts : (word : List ℕ) → has_property Doing word ≡ is_some (act_named word)
unfolding act_named properties_of
acts k = by (bytes_eq k (codes "open")) (bytes_eq k (codes "close")) (bytes_eq k (codes "collect")) (bytes_eq k (codes "enable")) (bytes_eq k (codes "disable"))
  where
    by : (a b c d e : Bool) → (a || (b || (c || (d || (e || false)))))
        ≡ is_some (if a then Some OpenPacket else (if b then Some ClosePacket else (if c then Some Collect else (if d then Some (Enable true) else (if e then Some (Enable false) else None)))))
    by true b c d e = refl
    by false true c d e = refl
    by false false true d e = refl
    by false false false true e = refl
    by false false false false true = refl
    by false false false false false = refl
