use Rattle.std.proofs.Common.{◌≡◌, drop}
use Rattle.trace_text.specs.ScriptEntries.{type_named, first_named}
use Rattle.trace_text.proofs.script_stream.type_named.Given as goal

-- the first type of the name is one of those that are left
abbrev pub invariant-loop-stream_type : goal.invariant-loop-stream_type
invariant-loop-stream_type l = type_named l.config l.name ≡ first_named l.name (drop l.stream_type-index l.types)
