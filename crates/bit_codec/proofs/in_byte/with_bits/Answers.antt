-- The byte that shifts put together has the value's bits where it is written, and the old byte's bits below and above.
use Rattle.std.proofs.Common.{◌<◌, arith, rules}
use Rattle.bit_codec.proofs.PartLaws.{byte_with, byte_with-shifts, byte_with-fits, byte_with-inside, byte_with-below, byte_with-above}
use Rattle.bit_codec.proofs.in_byte.with_bits.Goals as goal

pub overflow_cast-result-3 : goal.overflow_cast-result-3
overflow_cast-result-3 c =
    let byte = c.from-byte.result in
    let fits : byte < 256 = omega arith in
    let below : byte_with byte c.args.lowest c.args.n c.args.value < 256 = byte_with-fits byte c.args.lowest c.args.n c.args.value c.requires.in_byte fits c.requires.fits in
    rw (byte_with-shifts byte c.args.lowest c.args.n c.args.value c.requires.in_byte fits c.requires.fits) (search rules)

pub returns-clause-inside : goal.returns-clause-inside
returns-clause-inside c =
    let byte = c.from-byte.result in
    let fits : byte < 256 = omega arith in
    rw (byte_with-shifts byte c.args.lowest c.args.n c.args.value c.requires.in_byte fits c.requires.fits)
    (byte_with-inside byte c.args.lowest c.args.n c.args.value)

pub returns-clause-below : goal.returns-clause-below
returns-clause-below c =
    let byte = c.from-byte.result in
    let fits : byte < 256 = omega arith in
    rw (byte_with-shifts byte c.args.lowest c.args.n c.args.value c.requires.in_byte fits c.requires.fits, ← c.from-byte.ensures)
    (byte_with-below byte c.args.lowest c.args.n c.args.value)

pub returns-clause-above : goal.returns-clause-above
returns-clause-above c =
    let byte = c.from-byte.result in
    let fits : byte < 256 = omega arith in
    rw (byte_with-shifts byte c.args.lowest c.args.n c.args.value c.requires.in_byte fits c.requires.fits, ← c.from-byte.ensures)
    (λ i. byte_with-above byte c.args.lowest c.args.n c.args.value i c.requires.fits)
