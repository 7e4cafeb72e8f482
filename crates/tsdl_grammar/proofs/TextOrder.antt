-- Texts of blocks in another order.
use Rattle.std.proofs.Common.{◌≡◌, ℕ, List, Option, Some, sym, ◌∙◌}
use Rattle.ctf_types.specs.declared.Metadata.{Metadata}
use Rattle.tsdl_grammar.specs.declared.tree.Block.{Block}
use Rattle.tsdl_grammar.specs.{Denotes.{Denotes, IsTextOf, text_meta}, FieldOrders.SameFields}
use Rattle.tsdl_grammar.specs.Orders.{Reordered, Paired, SameItems, SameButClockOrder, SameButEnvironmentOrder}
use Rattle.tsdl_grammar.proofs.{BlockOrder.blocks_reordered, ItemOrder.items_reordered, FieldOrder.fields_reordered}

-- what a text's blocks mean it denotes
denotes_theirs : (text : List ℕ) (bs : List Block) (m : Metadata) → IsTextOf text bs → text_meta bs ≡ Some m → Denotes text m
denotes_theirs text bs m h e = (h.0, h.1, h.2, h.3, (bs, h.4, e))

module _ (text other : List ℕ) (bs cs : List Block) (m : Metadata) (one : IsTextOf text bs) (two : IsTextOf other cs) where
  pub of_blocks : Reordered bs cs → text_meta bs ≡ Some m → Denotes text m × ((n : Metadata) × Denotes other n × SameButClockOrder m n)
  of_blocks same e =
      let found = blocks_reordered bs cs m same e in
      (denotes_theirs text bs m one e, (found.0, denotes_theirs other cs found.0 two found.1, found.2))

  pub of_items : Paired SameItems bs cs → text_meta bs ≡ Some m → Denotes text m × ((n : Metadata) × Denotes other n × SameButEnvironmentOrder m n)
  of_items same e =
      let found = items_reordered bs cs m same e in
      (denotes_theirs text bs m one e, (found.0, denotes_theirs other cs found.0 two found.1, found.2))

  pub of_fields : Paired SameFields bs cs → text_meta bs ≡ Some m → Denotes text m × Denotes other m
  of_fields same e = (denotes_theirs text bs m one e, denotes_theirs other cs m two (sym (fields_reordered bs cs same) ∙ e))
