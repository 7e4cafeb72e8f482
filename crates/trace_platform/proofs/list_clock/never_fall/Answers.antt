use Rattle.std.proofs.Common.{refl, arith}
use Rattle.std.proofs.lemmas.Bool.{false≢true}
use Rattle.trace_platform.proofs.Rising.{NeverFall-first, NeverFall-end}
use Rattle.trace_platform.proofs.list_clock.never_fall.Goals as goal

pub returns-then-reading-last : goal.returns-then-reading-last
returns-then-reading-last c = (
  λ e. absurd (false≢true e),
  λ p. absurd (omega (arith, ((NeverFall-first c.loop-reading.last c.args.readings.now c.loop-reading.reading-index c.loop-reading-test.true).0 (c.loop-reading.invariant.0 p)).0)),
)

pub loop-reading-preserved : goal.loop-reading-preserved
loop-reading-preserved c =
    let f = NeverFall-first c.loop-reading.last c.args.readings.now c.loop-reading.reading-index c.loop-reading-test.true in
    (λ p. (f.0 (c.loop-reading.invariant.0 p)).1, λ p. c.loop-reading.invariant.1 (f.1 (c.if-reading-last.false, p)))

pub returns : goal.returns
returns c = (λ e. c.loop-reading.invariant.1 (NeverFall-end c.loop-reading.last c.args.readings.now c.loop-reading.reading-index c.loop-reading-test.false), λ p. refl)
