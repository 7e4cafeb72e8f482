use Rattle.std.proofs.Common.{refl, sym, ap, ◌∙◌}
use Rattle.tsdl_meaning.proofs.TextWords.{stream_in, stream_meaning}
use Rattle.tsdl_meaning.proofs.Fronts.{made_part}
use Rattle.tsdl_meaning.proofs.text_streams.streams_found.Goals as goal

pub loop-rest-preserved-in_ok-push : goal.loop-rest-preserved-in_ok-push
loop-rest-preserved-in_ok-push c =
    made_part stream_in (stream_meaning c.args.known.now) c.loop-rest.streams c.push.new.self c.loop-rest.rest.now c.block-item.result c.in-Stream.items c.in-Some.meaning _ _
    c.in-len1-up.len_at_least c.block-item.is (ap stream_in c.in-Stream.is)
    (ap (stream_meaning c.args.known.now) (sym c.as_slice.ensures) ∙ sym c.in_ok-meaning.ensures ∙ c.in-Some.is) c.in_ok-push.ensures.ok refl
    c.loop-rest.invariant
