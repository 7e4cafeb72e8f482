-- What a reading that went well says of its steps.
use Rattle.std.proofs.Common.{◌≡◌, Bool, true, false, cond, Result, Ok, Err, refl}
use Rattle.conf_tree.specs.Flaw.{Flaw, Place}
use Rattle.conf_tree.specs.Reading.{◌>>=◌, at}

-- one step after the other
pub both_read : {A B : Type 0} (r : Result A Flaw) (next_step : A → Result B Flaw) (y : B) → (r >>= next_step) ≡ Ok y → (x : A) × (r ≡ Ok x) × (next_step x ≡ Ok y)
both_read (Ok x) next_step y e = (x, refl, e)
both_read (Err flaw) next_step y e = absurd cc

pub read_there : {A : Type 0} (place : Place) (r : Result A Flaw) (x : A) → at place r ≡ Ok x → r ≡ Ok x
read_there place (Ok y) x e = e
read_there place (Err flaw) x e = absurd cc

-- a test that was passed
pub is_passed : {A : Type 0} (b : Bool) (x y : A) (flaw : Flaw) → cond b (Ok x) (Err flaw) ≡ Ok y → (b ≡ true) × (x ≡ y)
is_passed true x y flaw e = (refl, cc)
is_passed false x y flaw e = absurd cc

-- ---- the last step of a reading

abbrev read_as : {A : Type 0} → A → Result A Flaw
read_as x = Ok x

pub ok_same : {A : Type 0} (x y : A) → read_as x ≡ read_as y → x ≡ y
ok_same x y e = cc
