use Rattle.std.proofs.Common.{◌∙◌, ap, subst}
use Rattle.std.proofs.lemmas.List.{take_all}
use Rattle.conf_fault.specs.Wanted.{likeness}
use Rattle.conf_fault.proofs.NearestLemmas.{AreWithin, better, nearest, not_nearer, one_more, one_nearer, refuted}
use Rattle.conf_fault.proofs.expected.nearest.Goals.{then-is_nearer, else-is_nearer}
use Rattle.conf_fault.proofs.expected.nearest.Goals as goal

pub loop-word-preserved : goal.loop-word-preserved
loop-word-preserved c =
    let text = c.args.text.now in
    let words = c.args.words.now in
    let i = c.loop-word.word-index in
    let seen = c.loop-word.invariant.seen in
    let best = c.loop-word.invariant.best in
    let alike = c.likeness-alike.ensures ∙ ap (λ t. likeness t c.as_bytes-in-loop-word.result.now) c.as_bytes.ensures.value ∙ ap (λ w. likeness text w) c.as_bytes-in-loop-word.ensures.value in
    elim c.if-is_nearer.branch [
      | then-is_nearer w ↦
          let more = c.is_nearer.ensures.0 w.if-is_nearer.true in
          record {
            seen = rw w.most-is (rw w.least-is (one_nearer text words i _ _ _ _ _ c.loop-word-test.true alike c.gap-gap.ensures more seen));
            best = rw w.most-is (rw w.least-is (rw w.nearest-is (better c.args.floor text words i _ _ _ _ _ _ c.loop-word-test.true alike c.gap-gap.ensures more best)));
          }
      | else-is_nearer w ↦
          let own = not_nearer text _ c.loop-word.most c.loop-word.least c.likeness-alike.result c.gap-gap.result alike c.gap-gap.ensures (refuted c.is_nearer.result c.is_nearer.ensures.1 w.if-is_nearer.false) in
          record {
            seen = rw w.most-is (rw w.least-is (one_more text words i _ _ _ c.loop-word-test.true own seen));
            best = rw w.most-is (rw w.least-is (rw w.nearest-is best));
          }
    ]

pub returns : goal.returns
returns c =
    let words = c.args.words.now in
    nearest c.args.floor c.args.text.now words c.loop-word.most c.loop-word.least c.loop-word.nearest (subst (AreWithin c.args.text.now c.loop-word.most c.loop-word.least) (take_all c.loop-word.word-index words c.loop-word-test.false) c.loop-word.invariant.seen) c.loop-word.invariant.best
