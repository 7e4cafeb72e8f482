-- A case that is made under a test.
use Rattle.std.specs.Prelude.{◌≡◌, refl, Bool, true, false, Option, None}

-- a case under a test, made from its proof
abbrev pub proved : {A : Type 0} (b : Bool) → (b ≡ true → Option A) → Option A
proved true f = f refl
proved false f = None
