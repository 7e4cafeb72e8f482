use Rattle.std.proofs.Common.{ap, sym, subst, ◌∙◌, max, drop, suc, add-one, arith}
use Rattle.data_types.specs.Alignment.{IsAlignment}
use Rattle.ctf_types.specs.Layout.{largest_align}
use Rattle.ctf_types.proofs.SizesLemmas.{largest_turn, largest_end, larger_alignment}
use Rattle.ctf_types.proofs.alignment.align_of.Goals as goal

pub loop-index-preserved : goal.loop-index-preserved
loop-index-preserved c =
    let ms = c.args.structure.now.members in
    let i = c.loop-index.index in
    record {
      largest_of_rest =
          rw add-one
          (ap (λ a. largest_align a (drop (suc i) ms)) (c.max-largest.ensures ∙ ap (max c.loop-index.largest) c.align_of_member.ensures.is)
          ∙ largest_turn ms i c.loop-index.largest c.member_at.result.now c.member_at.ensures
          ∙ c.loop-index.invariant.largest_of_rest);
      alignment = subst IsAlignment (sym c.max-largest.ensures) (larger_alignment _ _ c.loop-index.invariant.alignment c.align_of_member.ensures.alignment);
    }

pub returns-clause-is : goal.returns-clause-is
returns-clause-is c =
    sym (largest_end c.args.structure.now.members c.loop-index.index c.loop-index.largest (omega arith)) ∙ c.loop-index.invariant.largest_of_rest
