-- A stream over the one end of a ring, and the other end, each in a thread of its own: they stay the two ends of one ring.
use Rattle.std.specs.Prelude.{List}
use Rattle.packet_ring.specs.declared.ring_back_end.RingBackEnd.{RingBackEnd}
use Rattle.packet_ring.specs.declared.ring_end.RingEnd.{RingEnd}
use Rattle.packet_ring.specs.Opening.{AreEnds}
use Rattle.thread_stream.specs.declared.stream.Stream.{Stream}
use Rattle.thread_stream.specs.History.{Item, Start}
use Rattle.thread_stream.specs.Verdicts.{Stands}
use Rattle.trace_platform.specs.Readings.{Readings, Reads}
use Rattle.trace_stack.specs.OverRings.{ring_platform}

-- some history stands for the stream, and this is the other end of its ring
abbrev pub IsAtRing : Stream Readings RingBackEnd → RingEnd → Type 0
IsAtRing a e = (s : Start) × (h : List Item) × Stands (ring_platform Reads) s h a × AreEnds a.back_end e

-- the other end of its ring before a call is so after it
abbrev pub StaysAtRing : Stream Readings RingBackEnd → Stream Readings RingBackEnd → Type 0
StaysAtRing a b = (e : RingEnd) → IsAtRing a e → IsAtRing b e
