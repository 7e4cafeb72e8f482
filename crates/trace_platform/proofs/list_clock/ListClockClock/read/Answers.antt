use Rattle.std.proofs.Common.{◌≡◌, ℕ, ◌+◌, ◌≤◌, List, ◌∷◌, length, get_or, drop, Ok, refl, ap, ◌∙◌, subst, arith}
use Rattle.ctf_types.specs.Packets.{NeverFall}
use Rattle.trace_platform.specs.Readings.{Readings, Reads}
use Rattle.trace_platform.proofs.Rising.{reading_next}
use Rattle.trace_platform.proofs.list_clock.ListClockClock.read.Goals as goal
use Rattle.trace_platform.proofs.list_clock.ListClockClock.read.Goals.{In-Some}

step : (c : In-Some) → (c.self.inside.last ≤ c.in-Some.reading.now)
    × (drop c.self.inside.next c.self.inside.readings.items ≡ c.in-Some.reading.now ∷ drop (c.self.inside.next + 1) c.self.inside.readings.items)
    × NeverFall c.in-Some.reading.now (drop (c.self.inside.next + 1) c.self.inside.readings.items)
step c =
    let h = c.in-Some.ensures.lookup in
    reading_next c.self.inside.last c.self.inside.readings.items c.self.inside.next c.in-Some.reading.now
    (omega (arith, h.3.0, ap (λ (s : List ℕ). length s) c.deref.ensures.value))
    (h.4 (omega arith) 0 ∙ ap (λ (s : List ℕ). get_or s c.self.inside.next 0) c.deref.ensures.value)
    c.self.invariant

pub invariant_of-self-in-Some : goal.invariant_of-self-in-Some
invariant_of-self-in-Some c = (step (goal.at.invariant_of-self-in-Some c).In-Some).2

pub returns-in-Some : goal.returns-in-Some
returns-in-Some c =
    let s = step (goal.at.returns-in-Some c).In-Some in
    subst (λ (a : Readings). Reads a (Ok c.in-Some.reading.now) (record { left = drop (c.self.inside.next + 1) c.self.inside.readings.items; floor = c.in-Some.reading.now; spent = c.self.inside.spent }))
    c.self.view_is (s.0, s.1, refl)
