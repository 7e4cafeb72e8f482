use Rattle.std.proofs.Common.{◌≡◌, map, drop}
use Rattle.trace_text.specs.declared.script.ScriptStream.{ScriptStream}
use Rattle.trace_stack.specs.StreamNames.{is_taken}
use Rattle.trace_text.proofs.names.is_taken.Given as goal

-- the name is taken where one of the streams that are left has it
abbrev pub invariant-loop-stream : goal.invariant-loop-stream
invariant-loop-stream l =
    is_taken (map (λ (s : ScriptStream). s.name) l.streams) l.name ≡ is_taken (map (λ (s : ScriptStream). s.name) (drop l.stream-index l.streams)) l.name
