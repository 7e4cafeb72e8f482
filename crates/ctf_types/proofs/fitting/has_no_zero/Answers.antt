use Rattle.std.proofs.Common.{◌∙◌, ap, sym, not, arith}
use Rattle.ctf_types.proofs.FittingLemmas.{AreBytes, no_zero}
use Rattle.ctf_types.proofs.fitting.has_no_zero.Goals as goal

pub returns : goal.returns
returns c =
    let bytes : AreBytes c.args.bytes.now = λ k. omega (arith, c.type_inv.bytes k) in
    ap not c.contains.ensures.value ∙ sym (no_zero c.args.bytes.now bytes)
