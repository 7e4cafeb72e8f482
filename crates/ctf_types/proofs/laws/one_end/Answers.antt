use Rattle.std.proofs.Common.{◌∙◌, sym}
use Rattle.ctf_types.specs.Layout.{AnyBits}
use Rattle.ctf_types.proofs.Unique.{record_one}
use Rattle.ctf_types.proofs.laws.one_end.Goals as goal

pub returns : goal.returns
returns c = record {
  of_a_field = λ o o' b d t p v q q' x y. x.1 ∙ sym y.1;
  of_a_structure = λ o o' b d s p vs q q' x y. x.1 ∙ sym y.1;
  of_a_record = λ o b s before p r r' q q' x y. record_one o b AnyBits AnyBits s before p r r' q q' x y;
}
