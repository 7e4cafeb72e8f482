use Rattle.tsdl_writer.proofs.Printing.{ClockType, IsHeldClock, List, ap, block_and_semicolon, clock_block, drop, drop_all, map, text_toks, ◌+◌, one_more, all_printed, item, all_more, all_met}
use Rattle.tsdl_writer.proofs.metadata.clocks.Goals as goal

pub loop-one-preserved : goal.loop-one-preserved
loop-one-preserved c =
    let x = c.one-item.result in let xs = c.args.clocks.now in let i = c.loop-one.one-index in
    record {
      prints = one_more (block_and_semicolon (clock_block x)) (text_toks (map clock_block (drop (i + 1) xs))) c.loop-one.invariant.prints
          (ap (λ (ks : List ClockType). text_toks (map clock_block ks)) (item xs i x c.loop-one-test.true c.one-item.is)) c.in_ok-clock.ensures.prints;
      held = all_more IsHeldClock xs i x c.loop-one-test.true c.one-item.is c.loop-one.invariant.held c.in_ok-clock.ensures.held;
    }

pub returns : goal.returns
returns c =
    let xs = c.args.clocks.now in let i = c.loop-one.one-index in
    record {
      prints = all_printed c.loop-one.invariant.prints (ap (λ (ks : List ClockType). text_toks (map clock_block ks)) (drop_all i xs c.loop-one-test.false));
      held = all_met IsHeldClock xs i c.loop-one-test.false c.loop-one.invariant.held;
    }
