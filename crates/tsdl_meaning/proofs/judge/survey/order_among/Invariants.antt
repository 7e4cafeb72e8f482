use Rattle.std.proofs.Common.{◌≡◌, drop}
use Rattle.tsdl_meaning.proofs.TextWords.{first_of, flat_map, orders_in, trace_in}
use Rattle.tsdl_meaning.proofs.judge.survey.order_among.Given as goal

abbrev pub invariant-loop-block : goal.invariant-loop-block
invariant-loop-block l = first_of orders_in (flat_map trace_in (drop l.block-index l.blocks)) ≡ first_of orders_in (flat_map trace_in l.blocks)
