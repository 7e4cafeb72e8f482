-- The steps of a clock keep its history.
use Rattle.std.proofs.Common.{◌≡◌, ◌≢◌, ℕ, ◌+◌, ◌%◌, ◌^◌, ◌≤◌, ◌<◌, List, [], ◌∷◌, ◌++◌, set, Result, Ok, Err, IfOk, refl, sym, ap, subst, ◌∙◌, ⊎_elim, arith}
use mathlib.Core.Option.{some}
use lib.ListN.{get_elem?}
use Rattle.std.specs.List.{slice_index}
use Rattle.std.proofs.Math.Nat.{mod-eq_of_lt}
use Rattle.std.proofs.lemmas.List.Elements.{All-push, All-nil, All-append}
use Rattle.std.proofs.lemmas.List.{map-set}
use lib.Seq.{set-get_or}
use native.Mathlib.Decide.{dec_le}
use Rattle.std.proofs.lemmas.List.Sums.{sum_by_push}
use Rattle.std.proofs.lemmas.List.Quantifiers.{all_pairs_push}
use Rattle.atomic_table.specs.Table.{Me, keeps, Allows, Splits, Joins}
use Rattle.atomic_table.proofs.Lists.{at_map, at_set, at_snoc, set_again, set_else}
use Rattle.trace_platform.specs.declared.clock.ClockSpent.{ClockSpent}
use Rattle.trace_clock.specs.declared.bounds.Bounds.{Bounds}
use Rattle.trace_clock.specs.declared.known.Known.{Known}
use Rattle.trace_clock.specs.declared.view.View.{View}
use Rattle.trace_clock.specs.History.{AllBelow, Rises, EachOnce, times, drawings, IsHistory, Shows, fresh, drew, gave, both, merged, knows, views_of, numbers_of, joined, HeardBelow, place, laid, Keeps, Draws}
use Rattle.trace_clock.proofs.Merging.{all_merged, below_last, none_rise, rises_merged, times_merged, times-append}
use Rattle.trace_clock.proofs.Totals.{total_set, part_of_total, is_once, once_other, same_or_other, times_push}

below_more : (n m : ℕ) (xs : List ℕ) → n ≤ m → AllBelow n xs → AllBelow m xs
below_more n m xs le h k d lt = let a = h k d lt in omega (arith, a, le)

drawings_draw : (x n : ℕ) (views : List View) (seat : ℕ) (v : View) → get_elem? views seat ≡ some v
    → drawings x (set views seat (drew v n)) ≡ drawings x views + is_once n x
drawings_draw x n views seat v at =
    let a = total_set (λ (u : View). times x u.drawn) views seat v (drew v n) at in
    let b = times_push x v.drawn n in
    omega (arith, a, b)

-- what holds of each view still holds where one of them changes
each_set : {X : Type 0} (F : X → Type 0) (views : List X) (seat : ℕ) (w : X) → F w → ((j : ℕ) (u : X) → get_elem? views j ≡ some u → F u)
    → (j : ℕ) (u : X) → get_elem? (set views seat w) j ≡ some u → F u
each_set F views seat w mine others j u e =
    ⊎_elim (λ (t : (j ≡ seat) × (w ≡ u)). subst F t.1 mine) (λ (t : (j ≢ seat) × (get_elem? views j ≡ some u)). others j u t.1) (at_set views seat j w u e)

history_draw : (b : Bounds) (n : ℕ) (views : List View) (seat : ℕ) (v : View) → 0 < v.quota → get_elem? views seat ≡ some v
    → IsHistory b n views → IsHistory b (n + 1) (set views seat (drew v n))
history_draw b n views seat v some_left at h =
    let D : (x : ℕ) → drawings x (set views seat (drew v n)) ≡ drawings x views + is_once n x = λ x. drawings_draw x n views seat v at in
    let mine = h.each seat v at in record {
      begun = let a = h.begun in omega (arith, a);
      counted = let a = h.counted in let q = total_set (λ (u : View). u.quota) views seat v (drew v n) at in omega (arith, a, q, some_left);
      once = λ x from to. ⊎_elim
          (λ (t : (n ≡ x) × (is_once n x ≡ 1)). let a = h.none_after x (omega (arith, t.0)) in let d = D x in omega (arith, a, d, t.1))
          (λ (t : (n ≢ x) × (is_once n x ≡ 0)). let ne = t.0 in let a = h.once x from (omega (arith, ne, to)) in let d = D x in omega (arith, a, d, t.1))
          (same_or_other n x);
      none_before = λ x to. let a = h.none_before x to in let d = D x in let s = h.begun in let o = once_other n x (λ e. omega (arith, e, s, to)) in omega (arith, a, d, o);
      none_after = λ x from. let a = h.none_after x (omega (arith, from)) in let d = D x in let o = once_other n x (λ e. omega (arith, e, from)) in omega (arith, a, d, o);
      each = each_set (λ (u : View). Rises u.drawn × AllBelow (n + 1) u.drawn) views seat (drew v n)
          (all_pairs_push (λ x y. x < y) v.drawn n mine.0 mine.1, All-push (λ x. x < n + 1) v.drawn n (below_more n (n + 1) v.drawn (omega arith) mine.1) (omega arith))
          (λ j u e. let t = h.each j u e in (t.0, below_more n (n + 1) u.drawn (omega arith) t.1));
    }

-- ---- the views of all seats, without what they heard of

view_at : (ks : List Known) (seat : ℕ) (k : Known) → get_elem? ks seat ≡ some k → get_elem? (views_of ks) seat ≡ some k.view
view_at ks seat k at = at_map (λ (l : Known). l.view) ks seat k at

views_set : (ks : List Known) (seat : ℕ) (k : Known) → views_of (set ks seat k) ≡ set (views_of ks) seat k.view
views_set ks seat k = map-set (λ (l : Known). l.view) ks seat k

views_snoc : (ks : List Known) (k : Known) → views_of (ks ++ k ∷ []) ≡ views_of ks ++ k.view ∷ []
views_snoc [] k = refl
views_snoc (l ∷ ks) k = ap (λ vs. l.view ∷ vs) (views_snoc ks k)

heard_set : (n : ℕ) (ks : List Known) (seat : ℕ) (k : Known) → AllBelow n k.heard → HeardBelow n ks → HeardBelow n (set ks seat k)
heard_set n ks seat k mine h = each_set (λ (l : Known). AllBelow n l.heard) ks seat k mine h

heard_snoc : (n : ℕ) (ks : List Known) (k : Known) → AllBelow n k.heard → HeardBelow n ks → HeardBelow n (ks ++ k ∷ [])
heard_snoc n ks k mine h j l e = ⊎_elim
    (λ (t : get_elem? ks j ≡ some l). h j l t)
    (λ (same : k ≡ l). subst (λ (u : Known). AllBelow n u.heard) same mine)
    (at_snoc ks k l j e)

heard_later : (n : ℕ) (ks : List Known) → HeardBelow n ks → HeardBelow (n + 1) ks
heard_later n ks h j l e = below_more n (n + 1) l.heard (omega arith) (h j l e)

-- A draw: the word stands where its table has it, and one is added to it without going round
pub draws : (b c : Bounds) (slots id : ℕ) (me : Me ℕ Known) → b ≡ c → me.1 ≡ [] → 0 < me.0.view.quota
    → Allows (Keeps b) slots id me place (λ n. (n + 1) % 2 ^ 64) (λ n after. Draws c me.0 n after.0 × (after.1 ≡ []))
draws b c slots id me same none some_left s h len at fits =
    let k : Known = me.0 in
    let v : View = k.view in
    let n : ℕ = h.1.0 in
    let views : List View = views_of s.views in
    let found : slice_index s.words place ≡ n = ap (λ ws. slice_index ws place) h.1.1 in
    let at_view = view_at s.views id k at in
    let left = part_of_total (λ (u : View). u.quota) views id v at_view in
    let room : n + 1 < 2 ^ 64 = let a = h.1.2.counted in let m = h.0 in omega (arith, a, m, left, some_left) in
    let words : set s.words place ((n + 1) % 2 ^ 64) ≡ laid (n + 1) = (λ i. set (h.1.1 i) place ((n + 1) % 2 ^ 64)) ∙ ap laid (mod-eq_of_lt room) in
    let later = history_draw b n views id v some_left at_view h.1.2 in
    let after : IsHistory b (n + 1) (views_of (set s.views id (knows (drew v n) k.heard))) =
    subst (IsHistory b (n + 1)) (sym (views_set s.views id (knows (drew v n) k.heard))) later in
    let mine = h.1.3 id k at in
    let heard : HeardBelow (n + 1) (set s.views id (knows (drew v n) k.heard)) =
    heard_set (n + 1) s.views id (knows (drew v n) k.heard) (below_more n (n + 1) k.heard (omega arith) mine) (heard_later n s.views h.1.3) in
    let told : Draws b k n (knows (drew v n) k.heard) = (refl, (h.1.2.each id v at_view).1, mine, (views, id, at_view, h.1.2, later)) in (
      knows (drew v (slice_index s.words place)) k.heard,
      keeps,
      tt,
      subst (λ m. Keeps b (record { words = set s.words place ((m + 1) % 2 ^ 64); homes = s.homes; views = set s.views id (knows (drew v m) k.heard) })) (sym found)
          (h.0, (n + 1, words, after, heard)),
      (
        subst (λ (d : Bounds). Draws d k (slice_index s.words place) (knows (drew v (slice_index s.words place)) k.heard)) same
            (subst (λ m. Draws b k m (knows (drew v m) k.heard)) (sym found) told),
        none,
      ),
    )

-- A look changes nothing
pub looks : (b c : Bounds) (slots id : ℕ) (me : Me ℕ Known) → b ≡ c
    → Allows (Keeps b) slots id me place (λ n. n) (λ n after. (after ≡ me) × Shows c me.0.view)
looks b c slots id me same s h len at fits =
    let k : Known = me.0 in (
      k,
      keeps,
      tt,
      subst (λ ws. Keeps b (record { words = ws; homes = s.homes; views = set s.views id k })) (sym (set-get_or s.words place 0))
          (subst (λ ks. Keeps b (record { words = s.words; homes = s.homes; views = ks })) (sym (set_again s.views id k at)) h),
      (refl, subst (λ (d : Bounds). Shows d k.view) same (h.1.0, views_of s.views, id, view_at s.views id k at, h.1.2, h.0)),
    )

history_cut : (b : Bounds) (n : ℕ) (views : List View) (seat : ℕ) (v : View) (quota : ℕ) → quota ≤ v.quota → get_elem? views seat ≡ some v
    → IsHistory b n views → IsHistory b n (set views seat (gave v quota) ++ fresh quota ∷ [])
history_cut b n views seat v quota le at h =
    let f : ℕ → View → ℕ = λ x u. times x u.drawn in
    let D : (x : ℕ) → drawings x (set views seat (gave v quota) ++ fresh quota ∷ []) ≡ drawings x views = λ x.
    let a = sum_by_push (f x) (set views seat (gave v quota)) (fresh quota) in
    let c = total_set (f x) views seat v (gave v quota) at in
    omega (arith, a, c) in record {
      begun = h.begun;
      counted =
          let a = sum_by_push (λ (u : View). u.quota) (set views seat (gave v quota)) (fresh quota) in
          let c = total_set (λ (u : View). u.quota) views seat v (gave v quota) at in
          let d = h.counted in
          omega (arith, a, c, d, le);
      once = λ x from to. D x ∙ h.once x from to;
      none_before = λ x to. D x ∙ h.none_before x to;
      none_after = λ x from. D x ∙ h.none_after x from;
      each = λ j u e. ⊎_elim
          (each_set (λ (u : View). Rises u.drawn × AllBelow n u.drawn) views seat (gave v quota) (h.each seat v at) h.each j u)
          (λ (same : fresh quota ≡ u). subst (λ (u : View). Rises u.drawn × AllBelow n u.drawn) same (none_rise, All-nil (λ x. x < n)))
          (at_snoc (set views seat (gave v quota)) (fresh quota) u j e);
    }

-- A quota is cut in two, and the new seat hears of all that the other knows
pub cuts : (b : Bounds) (id : ℕ) (k : Known) (quota : ℕ) → quota ≤ k.view.quota
    → Splits (Keeps b) id k (knows (gave k.view quota) k.heard) (knows (fresh quota) (numbers_of k))
cuts b id k quota le s h at =
    let n : ℕ = h.1.0 in
    let l : Known = knows (gave k.view quota) k.heard in
    let r : Known = knows (fresh quota) (numbers_of k) in
    let at_view = view_at s.views id k at in
    let mine = h.1.3 id k at in
    let later = history_cut b n (views_of s.views) id k.view quota le at_view h.1.2 in
    let same : views_of (set s.views id l ++ r ∷ []) ≡ set (views_of s.views) id l.view ++ r.view ∷ [] =
    views_snoc (set s.views id l) r ∙ ap (λ (vs : List View). vs ++ r.view ∷ []) (views_set s.views id l) in
    let heard = heard_snoc n (set s.views id l) r (All-append (λ x. x < n) k.heard k.view.drawn mine (h.1.2.each id k.view at_view).1) (heard_set n s.views id l mine h.1.3) in
    (h.0, (n, h.1.1, subst (IsHistory b n) (sym same) later, heard))

-- ---- one seat takes in another

pub at_most_once : (b : Bounds) (n : ℕ) (views : List View) → IsHistory b n views → (x : ℕ) → drawings x views ≤ 1
at_most_once b n views h x =
    elim (dec_le n x) [
      | yes le ↦ let a = h.none_after x le in omega (arith, a)
      | no under ↦ elim (dec_le b.start x) [
        | yes le ↦ let a = h.once x le (omega (arith, under)) in omega (arith, a)
        | no before ↦ let a = h.none_before x (omega (arith, before)) in omega (arith, a)
      ]
    ]

-- the numbers of one seat
pub each_once : (b : Bounds) (v : View) → Shows b v → EachOnce v.drawn
each_once b v h x =
    let a = at_most_once b h.0 h.1 h.4 x in
    let p = part_of_total (λ (u : View). times x u.drawn) h.1 h.2 v h.3 in
    omega (arith, a, p)

pub quota_fits : (b : Bounds) (v : View) → Shows b v → v.quota < 2 ^ 64
quota_fits b v h =
    let p = part_of_total (λ (u : View). u.quota) h.1 h.2 v h.3 in
    let c = h.4.counted in
    omega (arith, p, c, h.5)

-- of two seats
pub both_once : (xs ys : List ℕ) → EachOnce (merged xs ys) → EachOnce (xs ++ ys)
both_once xs ys h x = let a = h x in let m = times_merged x xs ys in let p = times-append x xs ys in omega (arith, a, m, p)

module _ (b : Bounds) (n : ℕ) (views : List View) (seat other : ℕ) (v w : View) (apart : other ≢ seat) (at : get_elem? views seat ≡ some v)
    (at_other : get_elem? (set views seat (both v w)) other ≡ some w) (h : IsHistory b n views) where
  two_parts : (x : ℕ) → times x v.drawn + times x w.drawn ≤ 1
  two_parts x =
      let f : View → ℕ = λ u. times x u.drawn in
      let a = total_set f views seat v (fresh 0) at in
      let there : get_elem? (set views seat (fresh 0)) other ≡ some w =
      set_else views seat other (fresh 0) apart ∙ sym (set_else views seat other (both v w) apart) ∙ at_other in
      let p = part_of_total f (set views seat (fresh 0)) other w there in
      let o = at_most_once b n views h x in
      omega (arith, a, p, o)

  drawings_join : (x : ℕ) → drawings x (set (set views seat (both v w)) other (fresh 0)) ≡ drawings x views
  drawings_join x =
      let f : View → ℕ = λ u. times x u.drawn in
      let a = total_set f views seat v (both v w) at in
      let c = total_set f (set views seat (both v w)) other w (fresh 0) at_other in
      let m = times_merged x v.drawn w.drawn in
      omega (arith, a, c, m)

  history_join : IsHistory b n (set (set views seat (both v w)) other (fresh 0))
  history_join =
      let w_at : get_elem? views other ≡ some w = sym (set_else views seat other (both v w) apart) ∙ at_other in
      let mine = h.each seat v at in
      let theirs = h.each other w w_at in record {
        begun = h.begun;
        counted =
            let a = total_set (λ (u : View). u.quota) views seat v (both v w) at in
            let c = total_set (λ (u : View). u.quota) (set views seat (both v w)) other w (fresh 0) at_other in
            let d = h.counted in
            omega (arith, a, c, d);
        once = λ x from to. drawings_join x ∙ h.once x from to;
        none_before = λ x to. drawings_join x ∙ h.none_before x to;
        none_after = λ x from. drawings_join x ∙ h.none_after x from;
        each = each_set (λ (u : View). Rises u.drawn × AllBelow n u.drawn) (set views seat (both v w)) other (fresh 0) (none_rise, All-nil (λ x. x < n))
            (each_set (λ (u : View). Rises u.drawn × AllBelow n u.drawn) views seat (both v w)
            (rises_merged v.drawn w.drawn mine.0 two_parts, all_merged (λ x. x < n) v.drawn w.drawn mine.1 theirs.1) h.each);
      }

-- One seat takes in another, with all that it knows
pub joins : (b : Bounds) (id other : ℕ) (k l : Known) → Joins (Keeps b) id k other l (joined k l) (knows (fresh 0) [])
joins b id other k l s h at apart at_other =
    let n : ℕ = h.1.0 in
    let j : Known = joined k l in
    let none : Known = knows (fresh 0) [] in
    let ks : List Known = set s.views id j in
    let views : List View = views_of s.views in
    let step : views_of ks ≡ set views id j.view = views_set s.views id j in
    let there : get_elem? (set views id j.view) other ≡ some l.view = subst (λ (vs : List View). get_elem? vs other ≡ some l.view) step (view_at ks other l at_other) in
    let later = history_join b n views id other k.view l.view apart (view_at s.views id k at) there h.1.2 in
    let same : views_of (set ks other none) ≡ set (set views id j.view) other (fresh 0) = views_set ks other none ∙ ap (λ (vs : List View). set vs other (fresh 0)) step in
    let l_at : get_elem? s.views other ≡ some l = sym (set_else s.views id other j apart) ∙ at_other in
    let heard = heard_set n ks other none (All-nil (λ x. x < n)) (heard_set n s.views id j (All-append (λ x. x < n) k.heard l.heard (h.1.3 id k at) (h.1.3 other l l_at)) h.1.3) in
    (h.0, (n, h.1.1, subst (IsHistory b n) (sym same) later, heard))

-- what is above all that was heard of is above what was told last
pub above_told : (r : Result ℕ ClockSpent) (all before told : List ℕ) → all ≡ before ++ told → IfOk r (λ n. AllBelow n all) → IfOk r (λ n. AllBelow n told)
above_told (Ok n) all before told e h = below_last n before told (subst (AllBelow n) e h)
above_told (Err e) all before told is h = h
