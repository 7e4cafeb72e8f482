-- The number is not negative and stays, or it is negative: then its complement is what is left of all ones.
use Rattle.std.proofs.Common.{◌*◌, ◌^◌, ◌<◌, ◌∙◌, sym, subst, arith}
use Rattle.ctf_types.specs.Fitting.{InSignedRange}
use Rattle.value_codec.proofs.Complements.{signed_of-pos, signed_of-negsuc, ones_of_size, negative, not_negative}
use Rattle.value_codec.proofs.write_values.twos_complement.Goals as goal

pub overflow_sub-result-else-number-ge0-2 : goal.overflow_sub-result-else-number-ge0-2
overflow_sub-result-else-number-ge0-2 c =
    let (m, is, abs) = negative c.args.number c.ranges.number c.if-number-ge0.false in
    let low : 2 * m < 2 ^ c.args.size = subst (InSignedRange c.args.size) is c.requires.in_range in
    omega (arith, abs, ones_of_size c.args.size c.requires.at_most_64)

pub returns-then-number-ge0-clause-is : goal.returns-then-number-ge0-clause-is
returns-then-number-ge0-clause-is c =
    let (m, is, abs) = not_negative c.args.number c.ranges.number c.if-number-ge0.true in
    let low : 2 * m < 2 ^ c.args.size = subst (InSignedRange c.args.size) is c.requires.in_range in
    rw abs (signed_of-pos c.args.size m low ∙ sym is)

pub returns-else-number-ge0-clause-is : goal.returns-else-number-ge0-clause-is
returns-else-number-ge0-clause-is c =
    let (m, is, abs) = negative c.args.number c.ranges.number c.if-number-ge0.false in
    let low : 2 * m < 2 ^ c.args.size = subst (InSignedRange c.args.size) is c.requires.in_range in
    rw (abs, ones_of_size c.args.size c.requires.at_most_64) (signed_of-negsuc c.args.size m c.requires.some low ∙ sym is)

pub returns-else-number-ge0-clause-below : goal.returns-else-number-ge0-clause-below
returns-else-number-ge0-clause-below c =
    let (m, is, abs) = negative c.args.number c.ranges.number c.if-number-ge0.false in
    let low : 2 * m < 2 ^ c.args.size = subst (InSignedRange c.args.size) is c.requires.in_range in
    omega (arith, abs, ones_of_size c.args.size c.requires.at_most_64)
