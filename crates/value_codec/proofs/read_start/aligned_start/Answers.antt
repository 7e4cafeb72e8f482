use Rattle.std.proofs.Common.{◌≡◌, ◌≢◌, ℕ, ◌+◌, ◌-◌, ◌%◌, ◌<◌, ◌≤◌, ◌∙◌, sym, ap, arith}
use Rattle.std.specs.Int.Bits.{bit_and}
use Rattle.value_codec.proofs.Alignments.{masked}
use Rattle.value_codec.proofs.ReadingSteps.{start_there, start_later, start_past}
use Rattle.value_codec.proofs.read_start.aligned_start.Goals as goal

pub returns-then-rest-eq0-clause-start : goal.returns-then-rest-eq0-clause-start
returns-then-rest-eq0-clause-start c =
    let same : c.from-align.result ≡ c.args.align = omega arith in
    let rest : bit_and c.args.at (c.from-align.result - 1) ≡ c.args.at % c.args.align = ap (λ (a : ℕ). bit_and c.args.at (a - 1)) same ∙ masked c.args.at c.args.align c.requires.align in
    sym (start_there c.args.limit c.args.align c.args.at c.requires.align.0 (omega (arith, rest)) c.requires.ordered)

pub returns-then-gap-limit-clause-start : goal.returns-then-gap-limit-clause-start
returns-then-gap-limit-clause-start c =
    let same : c.from-align.result ≡ c.args.align = omega arith in
    let rest : bit_and c.args.at (c.from-align.result - 1) ≡ c.args.at % c.args.align = ap (λ (a : ℕ). bit_and c.args.at (a - 1)) same ∙ masked c.args.at c.args.align c.requires.align in
    let between : c.args.at % c.args.align ≢ 0 = omega (arith, rest) in
    let past : c.args.limit < c.args.at + (c.args.align - c.args.at % c.args.align) = omega (arith, same, rest) in
    sym (start_past c.args.limit c.args.align c.args.at c.requires.align.0 between past)

pub returns-clause-start : goal.returns-clause-start
returns-clause-start c =
    let same : c.from-align.result ≡ c.args.align = omega arith in
    let rest : bit_and c.args.at (c.from-align.result - 1) ≡ c.args.at % c.args.align = ap (λ (a : ℕ). bit_and c.args.at (a - 1)) same ∙ masked c.args.at c.args.align c.requires.align in
    let between : c.args.at % c.args.align ≢ 0 = omega (arith, rest) in
    let within : c.args.at + (c.args.align - c.args.at % c.args.align) ≤ c.args.limit = omega (arith, same, rest) in
    rw same (rw (masked c.args.at c.args.align c.requires.align) (sym (start_later c.args.limit c.args.align c.args.at c.requires.align.0 between within)))
