use Rattle.std.proofs.Common.{◌≡◌, nat_lt, drop}
use Rattle.std.specs.List.{list_all}
use Rattle.worked_rows.proofs.tests.session_steps.are_below.Given as goal

-- the events that are left are of streams that are there where all of them are
abbrev pub invariant-loop-event : goal.invariant-loop-event
invariant-loop-event l =
    list_all (λ e. nat_lt e.stream l.streams) l.events ≡ list_all (λ e. nat_lt e.stream l.streams) (drop l.event-index l.events)
