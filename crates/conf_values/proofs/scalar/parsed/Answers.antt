use Rattle.std.proofs.Common.{◌≡◌, ℕ, List, Option, Some, None, true, false, refl, true≢false, sym}
use Rattle.uuid.specs.Text.{parsed}
use Rattle.conf_values.specs.Scalar.{uuid_in}
use Rattle.conf_values.proofs.scalar.parsed.Goals as goal

none_is : (o : Option (List ℕ)) → (((u : List ℕ) × (o ≡ Some u)) → false ≡ true) → None ≡ o
none_is None h = refl
none_is (Some u) h = absurd (true≢false (sym (h (u, refl))))

pub returns-in-Ok : goal.returns-in-Ok
unfolding uuid_in
returns-in-Ok c = c.in-Ok.ensures.bytes

pub returns-in-Err : goal.returns-in-Err
unfolding uuid_in
returns-in-Err c = none_is (parsed c.args.text.now) c.in-Err.ensures.ok.1
