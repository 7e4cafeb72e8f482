-- What a text lacks where it ends, though its blocks are spelled: a trace block, or the stream of an event.
use Rattle.std.specs.Prelude.{◌≡◌, ℕ, ◌⊎◌, List, [], Some, codes}
use Rattle.std.specs.List.{Contains, flat_map}
use Rattle.tsdl_grammar.specs.declared.atom.Atom.{Atom}
use Rattle.tsdl_grammar.specs.declared.tree.Item.{Item}
use Rattle.tsdl_grammar.specs.declared.tree.Block.{Block}
use Rattle.tsdl_grammar.specs.Spelling.{text_toks}
use Rattle.tsdl_grammar.specs.Lookups.{attrs_in}
use Rattle.tsdl_grammar.specs.BlockMeaning.{number_or_zero}
use Rattle.tsdl_grammar.specs.Denotes.{trace_in, stream_in, event_in}
use Rattle.tsdl_flaw.specs.Twice.{HasNumbers}

-- an event block of a stream that none of the stream blocks has the number of
pub record IsOrphan (bs : List Block) : Type 0 where
  pub event : List Item
  pub stream : ℕ
  pub id : ℕ
  pub there : Contains (flat_map event_in bs) event
  pub numbered : HasNumbers event stream id
  pub alone : (other : List Item) → Contains (flat_map stream_in bs) other → number_or_zero (codes "id") (attrs_in other) ≡ Some stream → ⊥

-- blocks without a trace block, or with an event of no stream
pub record IsUnfinished (toks : List Atom) : Type 0 where
  pub blocks : List Block
  pub spelled : toks ≡ text_toks blocks
  pub lacks : (flat_map trace_in blocks ≡ []) ⊎ IsOrphan blocks
