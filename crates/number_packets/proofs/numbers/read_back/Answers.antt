use Rattle.std.proofs.Common.{ℕ, List, Result, Ok, Err, subst, ◌∙◌}
use Rattle.std.specs.Prelude.{IfOk}
use Rattle.number_packets.specs.FirstPath.{AreBytes}
use Rattle.number_packets.proofs.numbers.read_back.Goals as goal

-- what holds anyway holds where a stream is read
anyway : {A B : Type 0} (r : Result A B) (bytes : List ℕ) → AreBytes bytes → IfOk r (λ s. AreBytes bytes)
anyway (Ok s) bytes h = h
anyway (Err e) bytes h = tt

pub returns-clause-bytes : goal.returns-clause-bytes
returns-clause-bytes c = anyway c.read_bytes.result _ (subst AreBytes (c.as_slice.ensures.value ∙ c.in_ok-bytes.ensures) c.read_bytes.ensures.bytes)
