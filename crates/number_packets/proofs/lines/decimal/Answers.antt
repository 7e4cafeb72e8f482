use Rattle.std.proofs.Common.{◌≡◌, ◌≤◌, ◌-◌, true, ℕ, get_or, refl, arith}
use Rattle.std.specs.Char.{is_ascii_digit}
use Rattle.std.proofs.lemmas.List.Elements.{All-get_or}
use Rattle.std.proofs.lemmas.List.Sums.{AllPass-from_list_all}
use Rattle.std.proofs.lemmas.Bool.Decides.{nat_tests}
use Rattle.number_packets.specs.Lines.{decimal_after}
use Rattle.number_packets.proofs.LineLemmas.{decimal_after-more}
use Rattle.number_packets.proofs.lines.decimal.Goals as goal

pub loop-digit-init : goal.loop-digit-init
unfolding decimal_after
loop-digit-init c = record { so_far = refl; none = λ h. omega arith; one = λ h. omega arith; two = λ h. omega arith }

digit : (c : ℕ) → is_ascii_digit c ≡ true → c - 48 ≤ 9
digit c h = grind (arith, nat_tests)

pub loop-digit-preserved : goal.loop-digit-preserved
loop-digit-preserved c =
    let line = c.args.line.now in
    let i = c.loop-digit.digit-index in
    let here = c.loop-digit-test.true in
    let more = decimal_after-more 0 line i here in
    let low = digit (get_or line i 0) (All-get_or (λ (x : ℕ). is_ascii_digit x ≡ true) line i 0 here (AllPass-from_list_all is_ascii_digit line c.requires.digits)) in
    let n : ℕ = c.loop-digit.number in
    let d : ℕ = c.from.result in
    let d_is : d ≡ get_or line i 0 - 48 = c.from.ensures in
    record {
      so_far = omega (arith, more, c.loop-digit.invariant.so_far, d_is);
      none = λ h. omega arith;
      one = λ h. let z : n ≤ 0 = c.loop-digit.invariant.none (omega arith) in omega (arith, low, d_is, z);
      two = λ h. let z : n ≤ 9 = c.loop-digit.invariant.one (omega arith) in omega (arith, low, d_is, z);
    }
