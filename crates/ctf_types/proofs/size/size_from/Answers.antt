use Rattle.std.proofs.Common.{sym, ap, ◌∙◌}
use Rattle.std.proofs.lemmas.Bool.{false≢true}
use Rattle.data_types.specs.Alignment.{up}
use Rattle.ctf_types.specs.Layout.{members_end, struct_align}
use Rattle.data_types.specs.Values.{data_of}
use Rattle.ctf_types.proofs.SizesLemmas.{past_over, same_end, members_over, struct_empty, struct_filled}
use Rattle.ctf_types.proofs.size.size_from.Goals as goal

pub returns-then-is_empty : goal.returns-then-is_empty
returns-then-is_empty c =
    same_end c.within_packet.result c.args.at _ (struct_empty c.args.structure.now c.args.at (data_of c.args.values.now) (c.is_empty.ensures.0 c.if-is_empty.true)) c.within_packet.ensures

pub returns-in_err-start : goal.returns-in_err-start
returns-in_err-start c =
    let vs = data_of c.args.values.now in
    let s = c.args.structure.now in
    same_end c.from_residual.result _ _ (struct_filled s c.args.at vs (λ h. absurd (false≢true (sym c.if-is_empty.false ∙ c.is_empty.ensures.1 h))))
    (past_over c.from_residual.result (up c.args.at c.align_of.result) _ c.from_residual.ensures c.in_err-start.ensures
    (rw c.align_of.ensures.is (members_over s.members (up c.args.at (struct_align s)) vs)))

pub returns : goal.returns
returns c =
    let vs = data_of c.args.values.now in
    let s = c.args.structure.now in
    same_end c.members_size.result _ _
    (struct_filled s c.args.at vs (λ h. absurd (false≢true (sym c.if-is_empty.false ∙ c.is_empty.ensures.1 h)))
    ∙ ap (λ p. members_end s.members p vs) (sym (c.in_ok-start.ensures.1 ∙ ap (up c.args.at) c.align_of.ensures.is)))
    c.members_size.ensures
