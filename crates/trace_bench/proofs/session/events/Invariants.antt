use Rattle.std.proofs.Common.{◌≡◌}
use Rattle.std.specs.List.{All}
use Rattle.trace_stack.specs.declared.event.Event.{Event}
use Rattle.trace_bench.proofs.session.events.Given as goal

-- so far each event is of the one stream
abbrev pub invariant-loop-call : goal.invariant-loop-call
invariant-loop-call l = All (λ (e : Event). e.stream ≡ 0) l.events.items
