-- What a caller sees of a seat and of a clock, and what one reading does.
use Rattle.std.specs.Prelude.{◌≡◌, ℕ, ◌+◌, max, List, [], ◌∷◌, ◌++◌, Result, Ok, Err}
use Rattle.std.specs.List.{fold}
use Rattle.std.specs.Arc.{arc_value}
use Rattle.atomic_table.specs.Seated.{TableId}
use Rattle.trace_platform.specs.Count.{next_count}
use Rattle.trace_platform.specs.declared.clock.ClockSpent.{ClockSpent}
use Rattle.trace_clock.specs.declared.bounds.Bounds.{Bounds}
use Rattle.trace_clock.specs.declared.view.View.{View}
use Rattle.trace_clock.specs.declared.tick_seat.TickSeat.{TickSeat}
use Rattle.trace_clock.specs.declared.tick_clock.TickClock.{TickClock}
use Rattle.trace_clock.specs.declared.told.Told.{Told}
use Rattle.trace_clock.specs.History.{AllBelow, Happens}

-- which clock it is, and which numbers that gives
abbrev pub clock_of : TickSeat → TableId
clock_of s = (arc_value s.table).shared.table_id

abbrev pub bounds_of : TickSeat → Bounds
bounds_of s = (arc_value s.table).shared.key

abbrev pub view_of : TickSeat → View
view_of s = s.seat.me.0.view

-- the numbers that it drew, in their order
abbrev pub drawn : TickSeat → List ℕ
drawn s = (view_of s).drawn

-- the numbers that it heard of from other seats, kept apart from those that it drew
abbrev pub heard_of : TickSeat → List ℕ
heard_of s = s.seat.me.0.heard

-- how many readings it may still give, and how many it refused
abbrev pub quota_of : TickSeat → ℕ
quota_of s = s.quota

abbrev pub refused_of : TickSeat → ℕ
refused_of s = s.spent

abbrev pub SameClock : TickSeat → TickSeat → Type 0
SameClock a b = (clock_of b ≡ clock_of a) × (bounds_of b ≡ bounds_of a)

-- A reading is the number that the clock's word was before one was added: above all that the seat drew before, and at its end from now on. The
-- clock's history is known before and after it. It is refused only where the quota is 0.
abbrev pub Reads : TickSeat → Result ℕ ClockSpent → TickSeat → Type 0
Reads a (Ok n) b = SameClock a b × (quota_of a ≡ quota_of b + 1) × (drawn b ≡ drawn a ++ n ∷ []) × AllBelow n (drawn a)
    × Happens (bounds_of a) (view_of a) n (view_of b) × (refused_of b ≡ refused_of a)
Reads a (Err e) b = SameClock a b × (quota_of a ≡ 0) × (view_of b ≡ view_of a) × (refused_of b ≡ next_count (refused_of a))

-- a number that no later reading is below: the largest drawn, and the clock's first number where none was
abbrev pub floor_of : TickSeat → ℕ
floor_of s = fold max (bounds_of s).start (drawn s)

-- the seat that holds what the clock gave to no other
abbrev pub rest : TickClock → TickSeat
rest c = c.rest

abbrev pub left : TickClock → ℕ
left c = quota_of (rest c)

-- a new seat of this clock, with this quota
abbrev pub IsNew : TickSeat → ℕ → TickSeat → Type 0
IsNew a quota s = SameClock a s × (drawn s ≡ []) × (quota_of s ≡ quota) × (refused_of s ≡ 0)

-- of which clock a `Told` is, and which numbers it tells of
abbrev pub told_clock : Told → TableId
told_clock t = t.seat.table_id

abbrev pub told_numbers : Told → List ℕ
told_numbers t = t.seat.me.0.heard
