use Rattle.trace_text.proofs.DoingLaws.{acts}
use Rattle.trace_text.proofs.ScriptLaws.{one_script, one_first, no_fault}
use Rattle.trace_text.proofs.script_law.scripts_or_faults.Goals as goal

pub returns-clause-one_script : goal.returns-clause-one_script
returns-clause-one_script c = one_script

pub returns-clause-one_fault : goal.returns-clause-one_fault
returns-clause-one_fault c = one_first

pub returns-clause-not_both : goal.returns-clause-not_both
returns-clause-not_both c = no_fault

pub returns-clause-acts : goal.returns-clause-acts
returns-clause-acts c = acts
