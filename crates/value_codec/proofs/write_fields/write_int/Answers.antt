use Rattle.std.proofs.Common.{ℕ, ◌∙◌, sym, ap}
use Rattle.ctf_types.specs.Layout.{IntLies, value_of}
use Rattle.value_codec.proofs.WritingLaws.{Writes-weaker}
use Rattle.value_codec.proofs.write_fields.write_int.Goals as goal

pub returns-clause-writes : goal.returns-clause-writes
unfolding IntLies
returns-clause-writes c =
    let int = c.args.int.now in
    let written = rw (c.align.ensures.is, c.size.ensures.is) at c.write_aligned.ensures.writes in
    Writes-weaker _ written
    (λ b lies. (lies.0, c.number_of-number.ensures.is ∙ ap (λ (n : ℕ). value_of int.signed int.size n) (sym lies.1)))
