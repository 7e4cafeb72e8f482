use Rattle.std.proofs.Common.{◌≡◌, List, [], ◌∷◌, ◌++◌, length, refl, sym, ap, append_assoc, append-nil, arith, flat_map, subst, rules, ◌∙◌}
use Rattle.std.specs.Vec.Iter.{into_iter_items}
use Rattle.std.proofs.lemmas.List.Sums.{sum_by_push}
use Rattle.trace_clock.specs.declared.view.View.{View}
use Rattle.trace_clock.specs.History.{times, HaveSameNumbers}
use Rattle.trace_clock.specs.Seats.{drawn, quota_of}
use Rattle.trace_clock.proofs.Histories.{each_once}
use Rattle.trace_clock.proofs.Merging.{times-append, times_flat_push, times_merged}
use Rattle.trace_clock.proofs.joining.join_all.Goals as goal

nothing_left : {X : Type 0} (l : List X) → length l ≡ 0 → l ≡ []
nothing_left [] h = refl
nothing_left (x ∷ xs) h = absurd (omega arith)

pub loop-seat-init : goal.loop-seat-init
loop-seat-init c = record {
  seen = refl;
  left = search rules;
  same = (c.look.ensures.same.0, c.look.ensures.same.2);
  quota = omega (arith, c.look.ensures.quota);
  numbers = λ x.
      let e = ap (λ (v : View). times x v.drawn) c.look.ensures.same.1 in
      let a = times-append x (drawn c.args.first) [] in
      omega (arith, e, a);
  once = λ x.
      let e = ap (λ (v : View). times x v.drawn) c.look.ensures.same.1 in
      let a = c.look.ensures.once x in
      omega (arith, e, a);
}

pub loop-seat-preserved : goal.loop-seat-preserved
loop-seat-preserved c =
    let before = c.loop-seat.invariant in
    let steps : into_iter_items c.loop-seat.seat-iterator ≡ c.in-Some.seat ∷ into_iter_items c.next.new.self = c.in-Some.ensures.steps.0 in
    let gone = c.in-Some.ensures.steps.1 in
    let short = ap length steps in
    let left = before.left in record {
      seen = append_assoc c.loop-seat.yielded (c.in-Some.seat ∷ []) _ ∙ rw (← steps) before.seen;
      left = omega arith;
      same = ((c.join.ensures.same.0.0 ∙ before.same.0.0, c.join.ensures.same.0.1 ∙ before.same.0.1), c.join.ensures.same.1 ∙ before.same.1);
      quota = omega (arith, c.join.ensures.quota, before.quota, sum_by_push quota_of c.loop-seat.yielded c.in-Some.seat);
      numbers = λ x.
          let e = ap (times x) c.join.ensures.drawn in
          let m = times_merged x (drawn c.loop-seat.all) (drawn c.in-Some.seat) in
          let b = before.numbers x in
          let f = times_flat_push x drawn c.loop-seat.yielded c.in-Some.seat in
          let p = times-append x (drawn c.args.first) (flat_map drawn c.loop-seat.yielded) in
          let q = times-append x (drawn c.args.first) (flat_map drawn (c.loop-seat.yielded ++ c.in-Some.seat ∷ [])) in
          omega (arith, e, m, b, f, p, q);
      once = each_once _ _ c.join.ensures.history;
    }

pub returns-clause-drawn : goal.returns-clause-drawn
returns-clause-drawn c =
    let at = c.loop-seat in
    let empty : into_iter_items at.seat-iterator ≡ [] = nothing_left _ (sym at.invariant.left ∙ c.in-None.ensures.steps.0) in
    let e : at.yielded ≡ c.args.others.items = sym (append-nil at.yielded) ∙ rw empty at at.invariant.seen ∙ c.into_iter-seat-iterator.ensures.into_iter_gives.0 in
    subst (λ ys. HaveSameNumbers (drawn at.all) (drawn c.args.first ++ flat_map drawn ys)) e at.invariant.numbers

pub returns-clause-once : goal.returns-clause-once
returns-clause-once c x =
    let same = returns-clause-drawn c x in
    let once = c.loop-seat.invariant.once x in
    omega (arith, same, once)
