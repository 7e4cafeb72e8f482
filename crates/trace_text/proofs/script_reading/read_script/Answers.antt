use Rattle.serde_json.specs.View.{view}
use Rattle.trace_text.proofs.ScriptLaws.{says_script, tells_first, no_other, no_refusal}
use Rattle.trace_text.proofs.script_reading.read_script.Goals as goal

pub returns-in-Ok-clause-says : goal.returns-in-Ok-clause-says
returns-in-Ok-clause-says c = says_script c.args.config.now c.args.text.now (view c.in-Ok.value) c.read_value.result c.in-Ok.ensures.ok c.read_value.ensures

pub returns-in-Ok-clause-first : goal.returns-in-Ok-clause-first
returns-in-Ok-clause-first c = tells_first c.args.config.now c.args.text.now (view c.in-Ok.value) c.read_value.result c.in-Ok.ensures.ok c.read_value.ensures

pub returns-in-Ok-clause-only : goal.returns-in-Ok-clause-only
returns-in-Ok-clause-only c = no_other c.args.config.now c.args.text.now (view c.in-Ok.value) c.read_value.result c.in-Ok.ensures.ok c.read_value.ensures

pub returns-in-Ok-clause-accepted : goal.returns-in-Ok-clause-accepted
returns-in-Ok-clause-accepted c = no_refusal c.args.config.now c.args.text.now (view c.in-Ok.value) c.read_value.result c.in-Ok.ensures.ok c.read_value.ensures
