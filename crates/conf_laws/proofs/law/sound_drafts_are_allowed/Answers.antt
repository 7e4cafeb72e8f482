use Rattle.conf_laws.proofs.Traces.{draft_allowed}
use Rattle.conf_laws.proofs.law.sound_drafts_are_allowed.Goals as goal

pub returns : goal.returns
returns c = λ number d draft. draft_allowed number d draft
