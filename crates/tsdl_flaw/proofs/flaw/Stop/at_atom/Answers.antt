use native.Mathlib.Omega.{arith}
use Rattle.std.proofs.Common.{refl, ◌∷◌, []}
use Rattle.tsdl_flaw.proofs.Stops.{whole}
use Rattle.tsdl_flaw.proofs.flaw.Stop.at_atom.Goals as goal

pub returns : goal.returns
returns c = λ front behind a w.
    whole front (a ∷ []) behind (record { at = c.args.at; end = c.saturating_add-end.result; flaw = c.args.flaw }) c.args.at c.saturating_add-end.result refl refl
    (λ some fits. let e = c.saturating_add-end.ensures in omega arith) w
