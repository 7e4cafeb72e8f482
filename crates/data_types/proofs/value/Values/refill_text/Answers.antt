use Rattle.std.proofs.Common.{Bool, true, false, ◌∙◌, ap, rules}
use Rattle.std.specs.Bool.{OnTrue}
use Rattle.std.proofs.Math.ListN.{set}
use Rattle.std.proofs.lemmas.List.{map-set}
use Rattle.data_types.specs.declared.value.Value.TheVariants as value
use Rattle.data_types.specs.Datum as datum
use Rattle.data_types.specs.Values.{datum_of}
use Rattle.data_types.proofs.value.Values.refill_text.Goals as goal
use Rattle.data_types.proofs.value.Values.refill_text.Goals.{in-Text, in-Unsigned-1, in-Signed-1, in-List-1}

on_true : (b : Bool) {P Q : Type 0} → (P → Q) → OnTrue b P → OnTrue b Q
on_true true f h = f h
on_true false f h = h

pub returns-clause-filled : goal.returns-clause-filled
returns-clause-filled c =
    elim c.match-index_mut.branch [
      | in-Text w ↦
          rw (w.result-is, w.self-inside-is)
          (on_true w.refill.result
          (λ e. map-set datum_of c.self.inside.items.items c.args.index (value.Text w.refill.new.self)
          ∙ ap (λ s. set s c.args.index (datum.Text w.refill.new.self)) c.self.view_is ∙ ap (λ b. set c.args.self.now c.args.index (datum.Text b)) e) w.refill.ensures.filled)
      | in-Unsigned-1 w ↦ rw w.result-is (search rules)
      | in-Signed-1 w ↦ rw w.result-is (search rules)
      | in-List-1 w ↦ rw w.result-is (search rules)
    ]
