-- The counts of a platform: of refused readings, of full answers and packets handed back, of a sink's faults. They go round at 2^64.
use Rattle.std.specs.Prelude.{ℕ, ◌+◌, ◌%◌, ◌^◌}

abbrev pub next_count : ℕ → ℕ
next_count n = (n + 1) % 2 ^ 64
