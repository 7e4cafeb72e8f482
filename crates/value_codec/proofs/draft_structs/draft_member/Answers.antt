use Rattle.std.proofs.Common.{refl}
use Rattle.ctf_types.specs.Fitting.{MemberFits}
use Rattle.ctf_types.specs.Layout.{member_end, MemberLies}
use Rattle.value_codec.proofs.DraftingLaws.{Drafts-weaker}
use Rattle.value_codec.proofs.draft_structs.draft_member.Goals as goal

pub returns-in-Plain : goal.returns-in-Plain
unfolding MemberFits member_end MemberLies
returns-in-Plain c = rw c.in-Plain.is (Drafts-weaker _ _ _ _ _ _ _ _ _ _ c.draft_field.result c.draft_field.ensures (λ fits. fits) (λ fits. refl) (λ fits b lies before. lies))
