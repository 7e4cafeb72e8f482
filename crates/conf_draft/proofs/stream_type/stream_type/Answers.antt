use Rattle.std.proofs.Common.{◌≡◌, ℕ, List, Ok, Option, Some, refl, subst}
use Rattle.std.specs.Prelude.{codes}
use Rattle.serde_json.specs.View.{members_view}
use Rattle.ctf_types.specs.declared.ContextFeatures.{ContextFeatures}
use Rattle.ctf_types.specs.declared.EventFeatures.{EventFeatures}
use Rattle.ctf_types.specs.declared.EventType.{EventType}
use Rattle.ctf_types.specs.declared.StructType.{StructType}
use Rattle.conf_draft.specs.Features.{context, event_header}
use Rattle.conf_draft.specs.Streams.{stream_type, stream_with, clock_of, feature_group}
use Rattle.conf_draft.proofs.stream_type.stream_type.Goals as goal

stream_made : (n m : List ℕ) (k l : Option (List ℕ)) (c : Option ContextFeatures) (e : Option StructType) (h : Option EventFeatures) (s : Option StructType) (es : Option (List EventType))
    (c1 : ContextFeatures) (e1 : StructType) (h1 : EventFeatures) (s1 : StructType) (es1 : List EventType) → m ≡ n → l ≡ k → c ≡ Some c1 → e ≡ Some e1 → h ≡ Some h1 → s ≡ Some s1 → es ≡ Some es1
    → stream_with n k c e h s es ≡ Some (record { name = m; default_clock = l; context = c1; extras = e1; event_header = h1; common = s1; events = es1 })
stream_made n m k l c e h s es c1 e1 h1 s1 es1 p q r t u v w = rw (← p, ← q, r, t, u, v, w) refl

pub returns : goal.returns
unfolding stream_type
returns c =
    let ms = members_view c.args.members.now.entries in
    let clock = c.in_ok-default_clock.ensures in
    let stream = c.in_ok-name in
    let named : c.from_str.result ≡ Ok stream.name = rw stream.ensures.first at c.both-head.ensures.first in
    let featured : c.features-features.result ≡ Ok (stream.context, stream.event_header) = rw stream.ensures.first at c.both-head.ensures.second in
    let structured : c.structures.result ≡ Ok (stream.extras, stream.common) = rw stream.ensures.second at c.both-types.ensures.first in
    let listed : c.event_types.result ≡ Ok stream.events = rw stream.ensures.second at c.both-types.ensures.second in
    stream_made c.args.name.now stream.name (clock_of ms) c.in_ok-default_clock.default_clock _ _ _ _ _ stream.context stream.extras stream.event_header stream.common stream.events
    (rw named at c.from_str.ensures) clock
    (subst (λ k. context k (feature_group (codes "packet") ms) ≡ Some stream.context) clock (rw featured at c.features-features.ensures.context))
    (rw structured at c.structures.ensures.extras)
    (subst (λ k. event_header k (feature_group (codes "event-record") ms) ≡ Some stream.event_header) clock (rw featured at c.features-features.ensures.header))
    (rw structured at c.structures.ensures.common) (rw listed at c.event_types.ensures)
