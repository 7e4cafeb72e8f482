use native.Mathlib.Omega.{arith}
use Rattle.std.proofs.Common.{refl}
use Rattle.tsdl_flaw.proofs.Stops.{whole}
use Rattle.tsdl_flaw.proofs.flaw.Stop.at.Goals as goal

pub returns : goal.returns
returns g c = λ front behind w.
    whole front (g.T.Spelled.toks c.args.tree.now) behind (record { at = c.args.at; end = c.saturating_add-end.result; flaw = c.args.flaw }) c.args.at c.saturating_add-end.result refl refl
    (λ some fits. let l = c.length.ensures some in let e = c.saturating_add-end.ensures in omega arith) w
