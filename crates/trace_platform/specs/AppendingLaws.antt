-- A sink in memory keeps the laws of a sink.
use Rattle.std.specs.Prelude.{◌≡◌, ℕ, ◌≤◌, List, [], ◌∷◌, ◌++◌, length, take, Ok, Err, refl}
use Rattle.std.proofs.Common.{ap, arith, ◌∙◌, sym}
use Rattle.trace_platform.specs.declared.sink.SinkFault.{SinkFault}
use Rattle.trace_platform.specs.Count.{next_count}
use Rattle.trace_platform.specs.Appending.{Memory, Fills}

pub fills_all : (a b : Memory) (xs : List ℕ) → Fills a xs (Ok tt) b → (b.bytes ≡ a.bytes ++ xs) × (b.faults ≡ a.faults)
fills_all a b xs h = (ap (λ (m : Memory). m.bytes) h, ap (λ (m : Memory). m.faults) h)

none_more : (xs : List ℕ) → xs ++ [] ≡ xs
none_more [] = refl
none_more (x ∷ xs) = ap (λ ys. x ∷ ys) (none_more xs)

pub fills_part : (a b : Memory) (xs : List ℕ) (e : SinkFault) → Fills a xs (Err e) b
    → ((n : ℕ) × (n ≤ length xs) × (b.bytes ≡ a.bytes ++ take n xs)) × (b.faults ≡ next_count a.faults)
fills_part a b xs e h = ((0, omega arith, ap (λ (m : Memory). m.bytes) h ∙ sym (none_more a.bytes)), ap (λ (m : Memory). m.faults) h)
