-- A position that is no multiple of the alignment goes on to the multiple after it.
use Rattle.std.proofs.Common.{◌≡◌, ◌≢◌, ℕ, ◌-◌, ◌%◌, ◌∙◌, sym, ap, arith}
use Rattle.std.specs.Int.Bits.{bit_and}
use Rattle.std.proofs.Math.Nat.{mod-le, mod-lt}
use Rattle.ctf_types.proofs.Ends.{up_of_multiple, up_by_rest}
use Rattle.value_codec.proofs.Alignments.{masked}
use Rattle.value_codec.proofs.write_padding.aligned.Goals as goal

pub overflow_add-result : goal.overflow_add-result
overflow_add-result c =
    let same : c.from-align.result ≡ c.args.align = omega arith in
    let rest : bit_and c.args.at (c.from-align.result - 1) ≡ c.args.at % c.args.align = ap (λ (a : ℕ). bit_and c.args.at (a - 1)) same ∙ masked c.args.at c.args.align c.requires.align in
    let some : c.args.at % c.args.align ≢ 0 = omega (arith, rest) in
    omega (arith, same, rest, up_by_rest c.args.at c.args.align c.requires.align.0 some, mod-le c.args.at c.args.align, mod-lt c.args.at c.requires.align.0)

pub returns-then-past-eq0 : goal.returns-then-past-eq0
returns-then-past-eq0 c =
    let same : c.from-align.result ≡ c.args.align = omega arith in
    let rest : bit_and c.args.at (c.from-align.result - 1) ≡ c.args.at % c.args.align = ap (λ (a : ℕ). bit_and c.args.at (a - 1)) same ∙ masked c.args.at c.args.align c.requires.align in
    sym (up_of_multiple c.args.at c.args.align c.requires.align.0 (omega (arith, rest)))

pub returns-else-past-eq0 : goal.returns-else-past-eq0
returns-else-past-eq0 c =
    let same : c.from-align.result ≡ c.args.align = omega arith in
    let rest : bit_and c.args.at (c.from-align.result - 1) ≡ c.args.at % c.args.align = ap (λ (a : ℕ). bit_and c.args.at (a - 1)) same ∙ masked c.args.at c.args.align c.requires.align in
    let some : c.args.at % c.args.align ≢ 0 = omega (arith, rest) in
    omega (arith, same, rest, up_by_rest c.args.at c.args.align c.requires.align.0 some, mod-le c.args.at c.args.align, mod-lt c.args.at c.requires.align.0)
