use Rattle.std.proofs.Common.{take}
use Rattle.tsdl_meaning.proofs.TextWords.{StandsBehind, begun, word_of}
use Rattle.tsdl_meaning.proofs.FlawlessItems.{Items}
use Rattle.tsdl_meaning.proofs.judge.block.judge_items.Given as goal

-- the items so far stand before the place, with all the names
abbrev pub invariant-loop-item : goal.invariant-loop-item
invariant-loop-item l =
    let done = take l.item-index l.items in
    record {
      place : StandsBehind l.at (begun (word_of l.judging.kind) done) l.next;
      flawless : Items l.judging.survey.now.known l.judging.kind l.judging.ledger.now done l.attributes.names l.scopes.names;
    }
