use Rattle.std.proofs.Common.{◌≡◌, ◌+◌, List, Some, length, refl, sym, subst, ap, arith}
use Rattle.std.specs.Prelude.{slice_get}
use Rattle.std.proofs.lemmas.Option.{slice_get_read}
use Rattle.trace_clock.specs.declared.tick_seat.TickSeat.{TickSeat}
use Rattle.trace_clock.specs.Seats.{IsNew, left, rest}
use Rattle.trace_platform.specs.declared.writer_sink.WriterSink.{WriterSink}
use Rattle.trace_stack.specs.declared.event.Event.{Event}
use Rattle.trace_stack.specs.declared.worker.Worker.{Worker}
use Rattle.trace_text.specs.declared.script.ScriptStream.{ScriptStream}
use Rattle.trace_commands.specs.Workers.{IsWorkerOf}
use Rattle.trace_commands.proofs.WorkerLaws.{Standing, standing_all, standing_one}
use Rattle.trace_commands.proofs.script_workers.script_workers.Goals as goal

pub loop-number-preserved : goal.loop-number-preserved
loop-number-preserved g c =
    let i = c.loop-number.number in
    let script = c.args.script.now in
    let xs = c.as_slice-stream-items.result.now in
    let stream = c.stream-item.result in
    let w = c.in_ok-worker_of.field-0 in
    let first = rest c.args.clock.now in
    let before = rest c.loop-number.clock in
    let behind = rest c.seat_for.new.clock in
    let there : slice_get xs i ≡ Some stream = slice_get_read xs (length xs) i stream refl c.loop-number-test.true c.stream-item.is in
    let at = subst (λ (l : List ScriptStream). slice_get l i ≡ Some stream) c.as_slice-stream-items.ensures there in
    let points = c.args.points.now in
    let point = c.point_at-start.result in
    let behind_it : slice_get points i ≡ Some point = c.point_at-start.ensures in
    let new = subst (λ (s : TickSeat). IsNew before c.args.quota.readings s) (sym c.in_ok-worker_of.ensures.seat) c.in_ok-seat.ensures.new.0 in
    let is = subst (λ (es : List Event). IsWorkerOf c.args.sizes es i (stream, point) w) c.as_slice-events.ensures c.in_ok-worker_of.ensures.worker in
    let fewer = ap (λ (l : List g.row.F.Denot). length l) c.in-Some.ensures.items in
    let files = c.loop-number.invariant.files in
    record {
      files = omega (arith, fewer, files);
      events = c.as_slice-events.ensures;
      standing = subst (λ (l : List (Worker (WriterSink g.row.F.Denot))).
          Standing first behind (left c.seat_for.new.clock) c.args.quota.readings c.args.sizes script.events script.streams points (i + 1) l)
          (sym c.in_ok-push.ensures.items)
          (standing_one first before behind (left c.loop-number.clock) (left c.seat_for.new.clock) c.args.quota.readings c.args.sizes script.events script.streams points i
          c.loop-number.workers.items stream point w c.loop-number.invariant.standing at behind_it c.seat_for.ensures.same c.in_ok-seat.ensures.new.1 new is);
    }

pub returns : goal.returns
returns g c =
    let script = c.args.script.now in
    let long = ap (λ (l : List ScriptStream). length l) c.as_slice-stream-items.ensures in
    let past = c.loop-number-test.false in
    standing_all (rest c.args.clock.now) (rest c.loop-number.clock) (left c.loop-number.clock) c.args.quota.readings c.args.sizes script.events script.streams c.args.points.now
    c.loop-number.number c.loop-number.workers.items c.requires.points (omega (arith, long, past)) c.loop-number.invariant.standing
