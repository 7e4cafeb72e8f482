use Rattle.std.proofs.Common.{◌≡◌, drop}
use Rattle.trace_text.specs.ScriptEntries.{event_named}
use Rattle.trace_text.proofs.script_event.event_named.Given as goal

-- the first event record type of the name is one of those that are left
abbrev pub invariant-loop-number : goal.invariant-loop-number
invariant-loop-number l = event_named l.name 0 l.events ≡ event_named l.name l.number (drop l.number l.events)
