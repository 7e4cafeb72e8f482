-- How much a plan may ask for.
use Rattle.std.specs.Prelude.{◌≤◌}
use Rattle.trace_bench.specs.declared.plan.Deed.{Deed}
use Rattle.trace_bench.specs.declared.plan.Deed.TheVariants.{Share, Make, Trace, Write, Decode, Configure}
use Rattle.trace_bench.specs.declared.plan.Load.{Load}

abbrev pub IsLight : Load → Type 0
IsLight load = (load.threads ≤ 64) × (load.calls ≤ 100000000)

abbrev pub IsAllowed : Deed → Type 0
IsAllowed (Share load) = IsLight load
IsAllowed (Make load) = IsLight load
IsAllowed (Trace calls) = calls ≤ 100000000
IsAllowed (Write calls) = calls ≤ 100000000
IsAllowed Decode = Unit {0}
IsAllowed Configure = Unit {0}
