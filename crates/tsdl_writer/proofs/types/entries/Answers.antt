use Rattle.tsdl_writer.proofs.Printing.{Ends, List, Mapping, ap, arith, drop, drop_all, entries_toks, entry_tree, entry_trees, flat_map, length, map, next_entry_toks, subst, sym, take, take_rest, ◌++◌, ◌+◌, ◌-◌, ◌<◌, ◌∙◌, ◌∷◌, ◌≡◌, one_more, all_printed, item, groups}
use Rattle.tsdl_writer.proofs.types.entries.Goals as goal

pub loop-mapping-preserved : goal.loop-mapping-preserved
loop-mapping-preserved c =
    let x = c.mapping-item.result in let ms = c.args.mappings.now in let xs = take (length ms - 1) (drop 1 ms) in let i = c.loop-mapping.mapping-index in
    one_more (next_entry_toks (entry_tree x)) (flat_map next_entry_toks (map entry_tree (drop (i + 1) xs))) c.loop-mapping.invariant
    (ap (λ (w : List Mapping). flat_map next_entry_toks (map entry_tree w)) (item xs i x c.loop-mapping-test.true c.mapping-item.is))
    (λ rest text e. c.in_ok-token.ensures _ text (c.in_ok-entry-2.ensures rest text e))

pub returns : goal.returns
returns c rest text e =
    let ms = c.args.mappings.now in let x = c.first-item.result in
    let some : 0 < length ms = omega (arith, c.in-len1-up.len_at_least) in
    let xs = take (length ms - 1) (drop 1 ms) in
    let split : ms ≡ x ∷ xs = item ms 0 x some c.first-item.is ∙ ap (λ (w : List Mapping). x ∷ w) (sym (take_rest ms 1)) in
    let all = all_printed c.loop-mapping.invariant (ap (λ (w : List Mapping). flat_map next_entry_toks (map entry_tree w)) (drop_all c.loop-mapping.mapping-index xs c.loop-mapping-test.false)) in
    subst (λ (w : List Mapping). Ends c.args.out.now (entries_toks (entry_trees w) ++ rest) text) (sym split) (simp groups (simp groups at (c.in_ok-entry.ensures _ text (all rest text e))))
