use Rattle.std.proofs.Common.{◌≡◌, drop}
use Rattle.trace_text.specs.ScriptEntries.{script_stream_named}
use Rattle.trace_text.proofs.script_event.stream_named.Given as goal

-- the first stream of the name is one of those that are left
abbrev pub invariant-loop-number : goal.invariant-loop-number
invariant-loop-number l = script_stream_named l.name 0 l.streams ≡ script_stream_named l.name l.number (drop l.number l.streams)
