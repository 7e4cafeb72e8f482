use Rattle.std.proofs.Common.{◌≡◌, drop}
use Rattle.serde_json.specs.View.{items_view}
use Rattle.trace_text.specs.ScriptEntries.{readings_of, readings_from}
use Rattle.trace_text.proofs.script_stream.clock_of.Given as goal

-- the readings that are left go behind those that were read
abbrev pub invariant-loop-item : goal.invariant-loop-item
invariant-loop-item l = readings_of (items_view l.items) ≡ readings_from l.floor l.readings (items_view (drop l.item-index l.items))
