use Rattle.std.proofs.Common.{◌≡◌, drop, []}
use Rattle.serde_json.specs.View.{items_view}
use Rattle.trace_text.specs.ScriptReading.{entries_from, entry_reading, stream_reading}
use Rattle.trace_text.proofs.script_reading.read_streams.Given as goal

-- the streams of the entries that are left go behind those that were read
abbrev pub invariant-loop-index : goal.invariant-loop-index
invariant-loop-index l =
    entries_from (entry_reading (stream_reading l.config)) [] 0 (items_view l.entries)
    ≡ entries_from (entry_reading (stream_reading l.config)) l.streams l.index (items_view (drop l.index l.entries))
