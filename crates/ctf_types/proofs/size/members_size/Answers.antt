use Rattle.std.proofs.Common.{◌≤◌, ◌^◌, drop, suc, add-one, sym, ap, subst, ◌∙◌, arith}
use Rattle.std.proofs.lemmas.List.{length-map}
use Rattle.ctf_types.specs.Layout.{member_end, members_end}
use Rattle.data_types.specs.Values.{data_of, datum_of}
use Rattle.ctf_types.proofs.SizesLemmas.{past_over, members_over, members_turn, members_none, members_spent, datum_first}
use Rattle.ctf_types.proofs.size.members_size.Goals as goal

pub returns-in_err-end : goal.returns-in_err-end
returns-in_err-end c =
    past_over c.from_residual.result c.args.at _ c.from_residual.ensures c.in_err-end.ensures
    (members_over (drop c.args.from c.args.structure.now.members) c.args.at (data_of c.args.values.now))

pub loop-value-init : goal.loop-value-init
loop-value-init c =
    record {
      end_of_rest = ap (λ p. members_end (drop c.args.from c.args.structure.now.members) p (data_of c.args.values.now)) c.in_ok-end.ensures.1;
      within = omega (arith, c.in_ok-end.ensures.0, c.in_ok-end.ensures.1);
    }

pub returns-then-index-len : goal.returns-then-index-len
returns-then-index-len c =
    let whole = sym (members_none c.args.structure.now.members c.loop-value.index c.loop-value.end (drop c.loop-value.value-index (data_of c.args.values.now)) (omega arith))
    ∙ c.loop-value.invariant.end_of_rest in
    (subst (λ e. e ≤ 2 ^ 23) whole c.loop-value.invariant.within, whole)

pub returns-in_err-end-2 : goal.returns-in_err-end-2
returns-in_err-end-2 c =
    let ms = c.args.structure.now.members in
    let vs = c.args.values.now in
    let i = c.loop-value.index in
    let j = c.loop-value.value-index in
    let p = c.loop-value.end in
    let v = c.value-item.result in
    let t = c.member_at.result.now in
    let whole = sym c.loop-value.invariant.end_of_rest
    ∙ members_turn ms i t p (data_of vs) j (datum_of v) c.member_at.ensures (datum_first vs j v (c.loop-value-test.true, c.value-item.is)) in
    past_over c.from_residual-in_err-end-2.result (member_end t p (datum_of v)) _ c.from_residual-in_err-end-2.ensures c.in_err-end-2.ensures
    (rw whole (members_over (drop (suc i) ms) (member_end t p (datum_of v)) (drop (suc j) (data_of vs))))

pub loop-value-preserved : goal.loop-value-preserved
loop-value-preserved c =
    let ms = c.args.structure.now.members in
    let vs = c.args.values.now in
    let i = c.loop-value.index in
    let j = c.loop-value.value-index in
    let p = c.loop-value.end in
    let v = c.value-item.result in
    let t = c.member_at.result.now in
    record {
      end_of_rest =
          rw (add-one i, add-one j)
          (ap (λ e. members_end (drop (suc i) ms) e (drop (suc j) (data_of vs))) c.in_ok-end-2.ensures.1
          ∙ sym (members_turn ms i t p (data_of vs) j (datum_of v) c.member_at.ensures (datum_first vs j v (c.loop-value-test.true, c.value-item.is)))
          ∙ c.loop-value.invariant.end_of_rest);
      within = omega (arith, c.in_ok-end-2.ensures.0, c.in_ok-end-2.ensures.1);
    }

pub returns : goal.returns
returns c =
    let whole = sym (members_spent (drop c.loop-value.index c.args.structure.now.members) c.loop-value.end (data_of c.args.values.now) c.loop-value.value-index (rw (length-map c.args.values.now datum_of) c.loop-value-test.false))
    ∙ c.loop-value.invariant.end_of_rest in
    (subst (λ e. e ≤ 2 ^ 23) whole c.loop-value.invariant.within, whole)
