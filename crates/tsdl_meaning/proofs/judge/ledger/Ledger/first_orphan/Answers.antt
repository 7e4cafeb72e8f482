use Rattle.std.proofs.Common.{◌≡◌, ℕ, List, true, sym, subst, ◌∙◌}
use Rattle.std.specs.Map.{lookup}
use Rattle.tsdl_meaning.proofs.TextWords.{AllByRecursion, Global, String, contains, is_at, is_some, nat_cmp, pair_cmp}
use Rattle.tsdl_meaning.proofs.JudgedLedgers.{key_behind, key_streams}
use Rattle.tsdl_meaning.proofs.judge.ledger.Ledger.first_orphan.Goals as goal

pub loop-stream-init : goal.loop-stream-init
loop-stream-init c = record {
  all = subst (AllByRecursion (λ (e : (ℕ × ℕ) × String Global). contains nat_cmp c.args.self.now.streams e.0.0 ≡ true)) c.into_iter-stream-iterator.ensures.into_iter_gives.0;
  left = λ key. subst (λ (es : List ((ℕ × ℕ) × String Global)). is_some (lookup (is_at (pair_cmp key)) es) ≡ true) c.into_iter-stream-iterator.ensures.into_iter_gives.0;
}

pub loop-stream-preserved : goal.loop-stream-preserved
loop-stream-preserved c = record {
  all = λ all.
      c.loop-stream.invariant.all
      (subst (AllByRecursion (λ (e : (ℕ × ℕ) × String Global). contains nat_cmp c.args.self.now.streams e.0.0 ≡ true)) (sym c.in-Some.ensures.steps)
      (sym c.contains.ensures ∙ c.if-not-contains.false, all));
  left = λ key there.
      c.loop-stream.invariant.left key
      (subst (λ (es : List ((ℕ × ℕ) × String Global)). is_some (lookup (is_at (pair_cmp key)) es) ≡ true) (sym c.in-Some.ensures.steps) (key_behind _ _ key there));
}

pub returns : goal.returns
returns c = λ key there.
    key_streams c.args.self.now.streams c.args.self.now.events.entries key
    (c.loop-stream.invariant.all (subst (AllByRecursion (λ (e : (ℕ × ℕ) × String Global). contains nat_cmp c.args.self.now.streams e.0.0 ≡ true)) (sym c.in-None.ensures.steps.0) tt)) there
