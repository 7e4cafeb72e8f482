use Rattle.std.proofs.Common.{ℕ, List, ap₂, ◌∙◌}
use Rattle.tsdl_meaning.proofs.TextWords.{ByteOrder, Known}
use Rattle.tsdl_meaning.proofs.SurveyedBlocks.{surveyed}
use Rattle.tsdl_meaning.proofs.judge.survey.survey_of_blocks.Goals as goal

pub returns : goal.returns
returns c =
    let made : ByteOrder → List (List ℕ) → Known = λ order clocks. record { order = order; clocks = clocks } in
    surveyed c.args.blocks.now c.in_ok-known.known c.order_among-order.result c.order_among-order.ensures (c.in_ok-known.ensures ∙ ap₂ made c.unwrap_or.ensures c.in_ok-clocks.ensures)
