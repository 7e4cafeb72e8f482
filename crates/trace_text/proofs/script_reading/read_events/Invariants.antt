use Rattle.std.proofs.Common.{◌≡◌, drop, []}
use Rattle.serde_json.specs.View.{items_view}
use Rattle.trace_text.specs.ScriptReading.{entries_from, entry_reading, event_reading}
use Rattle.trace_text.proofs.script_reading.read_events.Given as goal

-- the events of the entries that are left go behind those that were read
abbrev pub invariant-loop-index : goal.invariant-loop-index
invariant-loop-index l =
    entries_from (entry_reading (event_reading l.config l.streams)) [] 0 (items_view l.entries)
    ≡ entries_from (entry_reading (event_reading l.config l.streams)) l.events l.index (items_view (drop l.index l.entries))
