use Rattle.std.proofs.Common.{◌≡◌, ◌∙◌, true, false, sym}
use Rattle.serde_json.specs.View.{view}
use Rattle.trace_text.proofs.ScriptLaws.{in_events, in_streams, of_value, other_one}
use Rattle.trace_text.proofs.script_lists.faulty_list.Goals as goal

pub returns-in-Ok-read_streams : goal.returns-in-Ok-read_streams
returns-in-Ok-read_streams c = record {
  lies = λ text fault reads first. in_events c.args.config.now (view c.args.value.now) _ _ _ c.in-Ok.ensures c.in-Ok-read_streams.ensures fault
      (of_value c.args.config.now text (view c.args.value.now) fault reads first);
}

never : false ≡ true → ⊥
never e = cc

pub returns-else-eq : goal.returns-else-eq
returns-else-eq c =
    let refused = other_one c.in-Err-read_streams.ensures (λ memory. never (rw memory at (sym c.if-eq.false ∙ c.eq.ensures))) in
    record {
      lies = λ text fault reads first. in_streams c.args.config.now (view c.args.value.now) _ _ c.in-Err-read_streams.fault c.in-Ok.ensures refused fault
          (of_value c.args.config.now text (view c.args.value.now) fault reads first);
    }
