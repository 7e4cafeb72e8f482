-- The blocks that have attributes and scopes, and what stands before their parts.
use Rattle.std.specs.Prelude.{ℕ, List, codes}
use Rattle.tsdl_grammar.specs.declared.atom.Atom.{Atom}
use Rattle.tsdl_grammar.specs.declared.tree.Item.{Item}
use Rattle.tsdl_flaw.specs.Fronts.{Ends}
use Rattle.tsdl_flaw.specs.Twice.{begun}
use Rattle.tsdl_meaning.specs.declared.judge.block.BlockKind.{BlockKind}
use Rattle.tsdl_meaning.specs.declared.judge.block.BlockKind.TheVariants as kinds
use Rattle.tsdl_meaning.specs.declared.judge.block.Judging.{Judging}
use Rattle.tsdl_meaning.specs.declared.judge.ledger.Ledger.{Ledger}
use Rattle.tsdl_meaning.specs.Judged.{IsAttribute}
use Rattle.tsdl_meaning.specs.Ledgers.{AreNoted}

-- the word of a block
abbrev pub word_of : BlockKind → List ℕ
word_of kinds.Trace = codes "trace"
word_of kinds.Stream = codes "stream"
word_of kinds.Event = codes "event"
word_of kinds.Clock = codes "clock"

-- a block is begun with these items, behind the blocks of the ledger
pub record IsBegun (judging : Judging) (items : List Item) (front : List Atom) : Type 0 where
  pub noted : AreNoted front judging.ledger.now
  pub ends : Ends front (begun (word_of judging.kind) items)

-- the value of an attribute of this name stands next, in a block of this word behind the blocks of a ledger
pub record IsNotedAttribute (ledger : Ledger) (block name : List ℕ) (front : List Atom) : Type 0 where
  pub noted : AreNoted front ledger
  pub attribute : IsAttribute block name front
