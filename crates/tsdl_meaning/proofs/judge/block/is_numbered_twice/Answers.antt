use Rattle.std.proofs.Common.{sym, subst}
use Rattle.tsdl_meaning.proofs.TextWords.{BlockKind, Ends, begun, word_of}
use Rattle.tsdl_meaning.proofs.BlockAttributes.{unnumbered_twice, event_twice}
use Rattle.tsdl_meaning.proofs.judge.block.is_numbered_twice.Goals as goal

pub returns-in-None-clause-twice : goal.returns-in-None-clause-twice
returns-in-None-clause-twice c = λ front h b.
    let items = c.args.items.now in
    unnumbered_twice items front (subst (λ (k : BlockKind). Ends front (begun (word_of k) items)) c.in-Stream.is b.ends) (sym c.in-None.ensures) (c.has_stream.ensures.noted front b.noted h)

pub returns-in-Some-event_numbers-clause-twice : goal.returns-in-Some-event_numbers-clause-twice
returns-in-Some-event_numbers-clause-twice c = λ front h b.
    let items = c.args.items.now in
    event_twice items c.in-Some-event_numbers.numbers front (subst (λ (k : BlockKind). Ends front (begun (word_of k) items)) c.in-Event.is b.ends) c.in-Some-event_numbers.ensures.found
    (c.has_event.ensures.noted front b.noted h)
