use Rattle.std.proofs.Common.{◌≡◌, map, take, drop, []}
use Rattle.trace_text.specs.declared.script.ScriptStream.{ScriptStream}
use Rattle.trace_text.specs.Names.{first_refused}
use Rattle.trace_text.proofs.names.names_fault.Given as goal

-- the streams before are not refused
abbrev pub invariant-loop-index : goal.invariant-loop-index
invariant-loop-index l =
    first_refused [] 0 (map (λ (s : ScriptStream). s.name) l.streams)
    ≡ first_refused (map (λ (s : ScriptStream). s.name) (take l.index l.streams)) l.index (map (λ (s : ScriptStream). s.name) (drop l.index l.streams))
