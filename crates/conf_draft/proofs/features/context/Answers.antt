use Rattle.std.proofs.Common.{◌≡◌, Option, Some, refl}
use Rattle.ctf_types.specs.declared.IntType.{IntType}
use Rattle.conf_draft.specs.Features.{context, context_with}
use Rattle.conf_draft.proofs.features.context.Goals as goal

context_made : (a b : Option IntType) (p q d s : Option (Option IntType)) (u v : IntType) (w x y z : Option IntType) → a ≡ Some u → b ≡ Some v → p ≡ Some w → q ≡ Some x → d ≡ Some y → s ≡ Some z
    → context_with a b p q d s ≡ Some (record { packet_size = u; content_size = v; timestamp_begin = w; timestamp_end = x; events_discarded = y; packet_seq_num = z })
context_made a b p q d s u v w x y z e1 e2 e3 e4 e5 e6 = rw (e1, e2, e3, e4, e5, e6) refl

pub returns : goal.returns
unfolding context
returns c =
    context_made _ _ _ _ _ _ c.size.result c.size-2.result c.in_ok-begin.begin c.in_ok-end.end c.feature.result c.feature-2.result (cc) (cc) c.in_ok-begin.ensures c.in_ok-end.ensures (cc) (cc)
