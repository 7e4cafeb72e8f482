use Rattle.std.proofs.Common.{◌≡◌, true, ℕ}
use Rattle.std.specs.Map.{lookup}
use Rattle.tsdl_meaning.proofs.TextWords.{AllByRecursion, ContainsKey, contains, is_at, is_some, nat_cmp, pair_cmp}
use Rattle.tsdl_meaning.proofs.judge.ledger.Ledger.first_orphan.Given as goal

-- where the streams of the events that are left are there, those of all are, and each event that is left is one of all
abbrev pub invariant-loop-stream : goal.invariant-loop-stream
invariant-loop-stream l =
    record {
      all : AllByRecursion (λ e. contains nat_cmp l.self.streams e.0.0 ≡ true) l.stream-iterator → AllByRecursion (λ e. contains nat_cmp l.self.streams e.0.0 ≡ true) l.self.events.entries;
      left : (key : ℕ × ℕ) → is_some (lookup (is_at (pair_cmp key)) l.stream-iterator) ≡ true → ContainsKey pair_cmp l.self.events key;
    }
