use Rattle.std.proofs.Common.{take}
use Rattle.tsdl_meaning.proofs.TextWords.{AreNoted, StandsBehind, text_toks}
use Rattle.tsdl_meaning.proofs.FlawlessTexts.{Text}
use Rattle.tsdl_meaning.proofs.ListedBlocks.{Listed}
use Rattle.tsdl_meaning.proofs.judge.text.judge_blocks.Given as goal

-- the blocks so far stand before the place, and the ledger is of them
abbrev pub invariant-loop-block : goal.invariant-loop-block
invariant-loop-block l =
    let before = text_toks (take l.block-index l.blocks) in
    record { place : StandsBehind 0 before l.at; noted : AreNoted before l.ledger; text : Text l.survey.known l.ledger (take l.block-index l.blocks); listed : Listed l.ledger (take l.block-index l.blocks) }
