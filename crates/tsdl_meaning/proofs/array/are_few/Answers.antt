use Rattle.std.proofs.Common.{ℕ, ◌*◌, ◌-◌, ◌^◌, List, take, get_or, min, sym, ap, ap₂, ◌∙◌, arith}
use Rattle.tsdl_meaning.proofs.TextWords.{elements_of, take_more}
use Rattle.tsdl_meaning.proofs.ElementCounts.{capped}
use Rattle.tsdl_meaning.proofs.array.are_few.Goals as goal

pub loop-length-preserved : goal.loop-length-preserved
loop-length-preserved c =
    let ns = c.args.lengths.now in
    let i = c.loop-length.length-index in
    let most = 2 ^ 64 - 1 in
    c.saturating_mul-elements.ensures ∙ ap₂ (λ (made n : ℕ). min (made * n) most) c.loop-length.invariant c.max.ensures ∙ capped most (take i ns) (get_or ns i 0)
    ∙ ap (λ (l : List ℕ). min (elements_of l) most) (sym (take_more ns i 0 (omega arith)))
