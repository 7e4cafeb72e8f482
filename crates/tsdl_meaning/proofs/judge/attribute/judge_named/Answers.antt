use Rattle.std.proofs.Common.{rules, ℕ, List, sym, ap, ◌∙◌, subst, codes}
use Rattle.tsdl_meaning.proofs.JudgedParts.{handed}
use Rattle.tsdl_meaning.proofs.Misfits.{asked_at, asked_behind, cycles_ask}
use Rattle.tsdl_meaning.proofs.TextWords.{BlockKind, IfErr, IsAttribute, IsNotedAttribute, StopsUnless, StopsWhere, bytes_eq-Decides, clock_asks, of_event, passes, value_toks, word_of, is_natural}
use Rattle.tsdl_meaning.proofs.BlockAttributes.{clock_twice, stream_twice}
use Rattle.tsdl_meaning.proofs.WordTables.{absent}
use Rattle.tsdl_meaning.proofs.judge.attribute.judge_named.Goals as goal

pub returns-then-has_stream-clause-fault : goal.returns-then-has_stream-clause-fault
returns-then-has_stream-clause-fault c = λ front behind p.
    let ok = c.in_ok-stream-in-Stream in
    let stream = subst (λ (kind : BlockKind). IsAttribute (word_of kind) c.args.word.now front) c.in-Stream.is p.attribute in
    c.at.ensures front behind
    (stream_twice c.args.value.now ok.stream front ok.ensures.value (c.has_stream.ensures.noted front p.noted c.if-has_stream.true)
    (subst (λ (w : List ℕ). IsAttribute (codes "stream") w front) ((bytes_eq-Decides c.args.word.now (codes "id")).0 (sym c.eq.ensures ∙ c.if-eq.true)) stream))

pub returns-then-has_clock-clause-fault : goal.returns-then-has_clock-clause-fault
returns-then-has_clock-clause-fault c = λ front behind p.
    let ok = c.in_ok-judge_label-in-name-word in
    let clock = subst (λ (kind : BlockKind). IsAttribute (word_of kind) c.args.word.now front) c.in-Clock.is p.attribute in
    c.at-then-has_clock.ensures front behind
    (clock_twice c.args.value.now ok.field-0.now front ok.ensures.value (c.has_clock.ensures.noted front p.noted c.if-has_clock.true)
    (subst (λ (w : List ℕ). IsAttribute (codes "clock") w front) c.in-name-word.is clock))

pub returns-in_default-word-clause-fit : goal.returns-in_default-word-clause-fit
returns-in_default-word-clause-fit c =
    let n = c.in_default-word in
    rw c.in-Event.is (ap (λ o. passes o c.args.value.now) (absent of_event c.args.word.now (n.not-name, (n.not-id, (n.not-stream_id, (n.not-loglevel, tt))))))

pub returns-in_default-word-2-clause-fit : goal.returns-in_default-word-2-clause-fit
returns-in_default-word-2-clause-fit c =
    let n = c.in_default-word-2 in
    rw c.in-Clock.is
    (ap (λ o. passes o c.args.value.now)
    (absent (clock_asks c.args.judging.now.ledger.now) c.args.word.now
    (n.not-name, (n.not-name, (n.not-uuid, (n.not-description, (n.not-freq, (n.not-precision, (n.not-offset, (n.not-offset_s, (n.not-absolute, tt)))))))))))

pub returns-in_err-stream-in-Stream-clause-fault : goal.returns-in_err-stream-in-Stream-clause-fault
returns-in_err-stream-in-Stream-clause-fault c =
    let v = c.args.value.now in
    let ledger = c.args.judging.now.ledger.now in
    let stop = c.in_err-stream-in-Stream.field-0.0 in
    let is = (bytes_eq-Decides c.args.word.now (codes "id")).0 (sym c.eq.ensures ∙ c.if-eq.true) in
    rw (c.in-Stream.is, is)
    (handed c.from_residual.result stop (StopsWhere (IsNotedAttribute ledger (codes "stream") (codes "id")) c.args.at (value_toks v)) c.from_residual.ensures.1
    (λ front behind p. asked_at (codes "stream") (codes "id") v c.args.at stop (is_natural v) (λ e. e) c.in_err-stream-in-Stream.ensures.fault front behind p.attribute))

pub returns-in-freq-clause-fault : goal.returns-in-freq-clause-fault
returns-in-freq-clause-fault c =
    let v = c.args.value.now in
    let judged : IfErr c.map-in-freq.result (StopsUnless (is_natural v) c.args.at (value_toks v)) = search rules in
    rw c.in-Clock.is (asked_behind c.map-in-freq.result c.args.judging.now.ledger.now (codes "clock") c.args.word.now v c.args.at (is_natural v) (cycles_ask c.args.word.now v c.in-freq.is) judged)
