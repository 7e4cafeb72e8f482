use Rattle.std.proofs.Common.{◌≡◌, ◌+◌, ◌++◌, flat_map, length, sum_by}
use Rattle.std.specs.Vec.Iter.{into_iter_items, into_iter_len}
use Rattle.trace_clock.specs.History.{EachOnce, HaveSameNumbers}
use Rattle.trace_clock.specs.Seats.{SameClock, drawn, quota_of, refused_of}
use Rattle.trace_clock.proofs.joining.join_all.Given as goal

-- the first seat has what the seats so far had
abbrev pub invariant-loop-seat : goal.invariant-loop-seat
invariant-loop-seat l = record {
  seen : l.yielded ++ into_iter_items l.seat-iterator ≡ into_iter_items l.initial.seat-iterator;
  left : into_iter_len l.seat-iterator ≡ length (into_iter_items l.seat-iterator);
  same : SameClock l.fn.first l.all × (refused_of l.all ≡ refused_of l.fn.first);
  quota : quota_of l.all ≡ quota_of l.fn.first + sum_by quota_of l.yielded;
  numbers : HaveSameNumbers (drawn l.all) (drawn l.fn.first ++ flat_map drawn l.yielded);
  once : EachOnce (drawn l.all);
}
