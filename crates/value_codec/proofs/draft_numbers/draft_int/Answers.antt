use Rattle.std.proofs.Common.{ℕ, ◌∙◌, refl, sym, ap}
use Rattle.ctf_types.specs.Layout.{IntLies, value_of}
use Rattle.value_codec.proofs.DraftingLaws.{Drafts-weaker}
use Rattle.value_codec.proofs.draft_numbers.draft_int.Goals as goal

pub returns-in-Some : goal.returns-in-Some
unfolding IntLies
returns-in-Some c =
    let int = c.args.int.now in
    let drafted = rw (c.align.ensures.is, c.size.ensures.is) at c.draft_aligned.ensures in
    Drafts-weaker _ _ _ _ _ _ _ _ _ _ c.draft_aligned.result drafted (λ low. c.in-Some.ensures.fits) (λ low. refl)
    (λ low b lies. (lies.0, c.in-Some.ensures.is ∙ ap (λ (n : ℕ). value_of int.signed int.size n) (sym lies.1)))
