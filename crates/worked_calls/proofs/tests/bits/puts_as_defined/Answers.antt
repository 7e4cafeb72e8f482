use Rattle.std.proofs.Common.{◌≡◌, ◌+◌, ◌-◌, ◌^◌, ◌<◌, arith}
use Rattle.std.proofs.lemmas.Nat.{shr_below}
use Rattle.worked_calls.proofs.tests.bits.puts_as_defined.Goals as goal

pub put-read-requires-clause-fits : goal.put-read-requires-clause-fits
put-read-requires-clause-fits g c =
    let n = c.args.n in
    let whole : n + (64 - n) ≡ 64 = omega arith in
    let fits : c.args.pattern < 2 ^ (n + (64 - n)) = rw whole (omega arith) in
    shr_below c.args.pattern n (64 - n) fits
