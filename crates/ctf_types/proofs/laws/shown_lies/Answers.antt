use Rattle.ctf_types.specs.Bits.{AreZero}
use Rattle.ctf_types.specs.Layout.{AnyBits}
use Rattle.ctf_types.proofs.ShownLies.{struct_lies_shown, struct_end-shown}
use Rattle.ctf_types.proofs.laws.shown_lies.Goals as goal

pub returns : goal.returns
returns c = record {
  lies = λ o b s p vs a x. struct_lies_shown o b AnyBits s p vs a x;
  lies_clean = λ o b s p vs a x. struct_lies_shown o b (AreZero b) s p vs a x;
  ends = struct_end-shown;
}
