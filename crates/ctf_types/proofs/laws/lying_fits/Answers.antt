use Rattle.ctf_types.specs.Bits.{bit_of}
use Rattle.ctf_types.specs.Layout.{AnyBits}
use Rattle.ctf_types.proofs.BitsOfBytes.{bit_of-below}
use Rattle.ctf_types.proofs.LyingFits.{struct_fits}
use Rattle.ctf_types.proofs.laws.lying_fits.Goals as goal

pub returns : goal.returns
returns c = record { fits = λ o bytes s p vs a x. struct_fits o (bit_of o bytes) AnyBits (bit_of-below o bytes) s p vs a x }
