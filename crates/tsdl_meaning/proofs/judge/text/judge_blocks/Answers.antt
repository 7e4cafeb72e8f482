use Rattle.std.proofs.Common.{inl, inr, arith, List, ◌∷◌, ◌++◌, take, refl, sym, ◌∙◌, subst, append_assoc, []}
use Rattle.tsdl_meaning.proofs.TextWords.{AreNoted, Atom, Block, StandsBehind, StopsIn, append-nil, behind_more, block_and_semicolon, block_toks, flat_next, kind_of, mark, take_all, text_toks}
use Rattle.tsdl_flaw.specs.TextStops.{IsMissed}
use Rattle.tsdl_grammar.specs.declared.token.Mark.TheVariants as marks
use Rattle.tsdl_meaning.proofs.JudgedParts.{handed, holds_last, in_item, stops_same}
use Rattle.tsdl_meaning.proofs.Fronts.{next_item}
use Rattle.tsdl_meaning.proofs.JudgedLedgers.{at_end, noted_more}
use Rattle.tsdl_meaning.proofs.FlawlessTexts.{Text, block_more, no_blocks, sizes_missed}
use Rattle.tsdl_meaning.proofs.ListedBlocks.{Listed, listed_more, none_listed, unfinished}
use Rattle.tsdl_meaning.proofs.judge.text.judge_blocks.Goals as goal

pub returns-in_err-judge_block-clause-fault : goal.returns-in_err-judge_block-clause-fault
returns-in_err-judge_block-clause-fault c =
    let blocks = c.args.blocks.now in
    let i = c.loop-block.block-index in
    let b = c.block-item.result in
    let toks = text_toks blocks in
    let before = text_toks (take i blocks) in
    let next = c.loop-block.at in
    let stop = c.in_err-judge_block.field-0.0 in
    handed c.from_residual.result stop (StopsIn [] 0 toks) c.from_residual.ensures.1
    (subst (λ (l : List Atom). StopsIn [] 0 l stop) (append-nil toks)
    (in_item block_and_semicolon blocks i b toks [] [] [] [] 0 next stop (omega arith) c.block-item.is (sym (append-nil toks)) c.loop-block.invariant.place
    (λ after.
    stops_same before (block_and_semicolon b ++ after) (block_toks b ++ (mark marks.Semicolon ∷ after)) next stop (append_assoc (block_toks b) (mark marks.Semicolon ∷ []) after)
    (c.in_err-judge_block.ensures.fault before (mark marks.Semicolon ∷ after) c.loop-block.invariant.noted))))

pub loop-block-preserved : goal.loop-block-preserved
loop-block-preserved c =
    let blocks = c.args.blocks.now in
    let i = c.loop-block.block-index in
    let b = c.block-item.result in
    let before = text_toks (take i blocks) in
    let closing = mark marks.Semicolon ∷ [] in
    let more = (before ++ block_toks b) ++ closing in
    let e = append_assoc before (block_toks b) closing ∙ sym (flat_next block_and_semicolon blocks i b (omega arith) c.block-item.is) in
    record {
      place =
          subst (λ (l : List Atom). StandsBehind 0 l c.saturating_add-at.result) e
          (behind_more (before ++ block_toks b) closing 0 c.saturating_add.result 1 c.saturating_add-at.result
          (behind_more before (block_toks b) 0 c.loop-block.at c.length.result c.saturating_add.result c.loop-block.invariant.place c.length.ensures c.saturating_add.ensures)
          (λ h. refl) c.saturating_add-at.ensures);
      noted =
          subst (λ (l : List Atom). AreNoted l c.add.new.self) e
          (noted_more (before ++ block_toks b) closing c.add.new.self (c.in_ok-add.ensures.noted (before ++ block_toks b) (noted_more before (block_toks b) c.loop-block.ledger c.loop-block.invariant.noted) (holds_last before (block_toks b))));
      text =
          next_item (λ (bs : List Block). Text c.args.survey.now.known c.add.new.self bs) blocks i b (omega arith) c.block-item.is
          (block_more c.args.survey.now.known c.loop-block.ledger c.add.new.self (take i blocks) b c.loop-block.invariant.text c.in_ok-judge_block.ensures.flawless c.in_ok-add.ensures.adds);
      listed =
          next_item (λ (bs : List Block). Listed c.add.new.self bs) blocks i b (omega arith) c.block-item.is
          (listed_more c.args.survey.now.known c.loop-block.ledger c.add.new.self (take i blocks) b c.loop-block.invariant.listed c.in_ok-judge_block.ensures.flawless c.in_ok-add.ensures.adds);
    }

pub returns-clause-end : goal.returns-clause-end
returns-clause-end c =
    let blocks = c.args.blocks.now in
    let toks = text_toks blocks in
    let next = c.loop-block.at in
    let place : StandsBehind 0 toks next =
    subst (λ (bs : List Block). StandsBehind 0 (text_toks bs) next) (take_all c.loop-block.block-index blocks (omega arith)) c.loop-block.invariant.place
    in
    let known = c.args.survey.now.known in
    let ledger = c.loop-block.ledger in
    let text = subst (λ (bs : List Block). Text known ledger bs) (take_all c.loop-block.block-index blocks (omega arith)) c.loop-block.invariant.text in
    let listed = subst (λ (bs : List Block). Listed ledger bs) (take_all c.loop-block.block-index blocks (omega arith)) c.loop-block.invariant.listed in
    let missed : IsMissed toks (kind_of c.in_ok-flaw.flaw) =
    elim c.in_ok-flaw.ensures.kind [ inl sizes ↦ inl sizes | inr l ↦ inr (l.0, unfinished known ledger blocks text listed l.1) ]
    in
    λ bound. at_end toks next c.in_ok-flaw.flaw (let e = place (omega arith) in omega arith) missed

pub loop-block-init : goal.loop-block-init
loop-block-init c = record { place = λ fits. refl; noted = c.new-ledger.ensures.noted []; text = no_blocks c.args.survey.now.known c.new-ledger.result c.new-ledger.ensures.empty; listed = none_listed c.new-ledger.result c.new-ledger.ensures.empty }

pub returns-clause-sizes : goal.returns-clause-sizes
returns-clause-sizes c = λ surveys none bounded kind.
    let blocks = c.args.blocks.now in
    let known = c.args.survey.now.known in
    let text = subst (λ (bs : List Block). Text known c.loop-block.ledger bs) (take_all c.loop-block.block-index blocks (omega arith)) c.loop-block.invariant.text in
    let complete = c.in_ok-flaw.ensures.complete kind in
    sizes_missed known c.loop-block.ledger blocks text complete.0 complete.1 surveys none
