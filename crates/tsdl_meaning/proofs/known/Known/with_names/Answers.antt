use Rattle.std.proofs.Common.{arith, true, cond, List, ℕ, ◌+◌, ◌∷◌, ◌++◌, take, ap, sym, subst, ◌∙◌, []}
use Rattle.tsdl_meaning.proofs.TextWords.{HasNames, bytes_eq, contains_text, string_bytes, take_all, take_more}
use Rattle.std.proofs.lemmas.Map.Text.{btree_set_updates_text}
use Rattle.tsdl_meaning.proofs.DistinctKeys.{one_name}
use Rattle.tsdl_meaning.proofs.known.Known.with_names.Goals as goal

pub loop-clock-preserved : goal.loop-clock-preserved
loop-clock-preserved c =
    let listed = c.as_slice-listed.result.now in
    let i = c.loop-clock.clock-index in
    let x = c.clock-item.result in
    one_name c.loop-clock.names c.insert.new.self (take i listed) (take (i + 1) listed) x
    (take_more listed i x (omega arith) ∙ ap (λ (y : List ℕ). take i listed ++ y ∷ []) (sym c.clock-item.is)) c.loop-clock.invariant
    (λ w.
    btree_set_updates_text (string_bytes c.in_ok-from_str.field-0) c.loop-clock.names c.insert.new.self true c.in_ok-_is_new.ensures.updates w
    ∙ ap (λ (n : List ℕ). cond (bytes_eq n w) true (contains_text c.loop-clock.names w)) (c.in_ok-from_str.ensures.ok ∙ c.as_str.ensures))

pub invariant_of-result : goal.invariant_of-result
invariant_of-result c =
    subst (λ (names : List (List ℕ)). HasNames c.loop-clock.names names) (take_all c.loop-clock.clock-index c.as_slice-listed.result.now (omega arith) ∙ c.as_slice-listed.ensures)
    c.loop-clock.invariant
