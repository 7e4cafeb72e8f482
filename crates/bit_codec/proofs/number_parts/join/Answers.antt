-- The shifts lose no bit, and the two parts share none.
use Rattle.std.proofs.Common.{◌≡◌, ◌+◌, ◌*◌, ◌%◌, ◌^◌, bit_or, ap, ◌∙◌, arith}
use Rattle.std.proofs.lemmas.Nat.{shl_whole, or_shifted, or_comm}
use Rattle.ctf_types.specs.declared.ByteOrder.TheVariants.{Little, Big}
use Rattle.bit_codec.proofs.PartLaws.{joined-below}
use Rattle.bit_codec.proofs.number_parts.join.Goals as goal
use Rattle.bit_codec.proofs.number_parts.join.Goals.{In-Little, In-Big}

little_joined : (c : In-Little) → bit_or c.args.front (c.args.back * 2 ^ c.args.m % 2 ^ 64) ≡ c.args.front + c.args.back * 2 ^ c.args.m
little_joined c =
    let front = c.args.front in
    let back = c.args.back * 2 ^ c.args.m in
    let whole : back % 2 ^ 64 ≡ back = shl_whole c.args.back c.args.n c.args.m 64 c.requires.back_fits (omega arith) in
    let sum : back + front ≡ front + back = omega arith in
    ap (bit_or front) whole ∙ or_comm front back ∙ or_shifted c.args.back c.args.m front c.requires.front_fits ∙ sum

big_joined : (c : In-Big) → bit_or (c.args.front * 2 ^ c.args.n % 2 ^ 64) c.args.back ≡ c.args.front * 2 ^ c.args.n + c.args.back
big_joined c =
    let front = c.args.front * 2 ^ c.args.n in
    let whole : front % 2 ^ 64 ≡ front = shl_whole c.args.front c.args.m c.args.n 64 c.requires.front_fits (omega arith) in
    ap (λ f. bit_or f c.args.back) whole ∙ or_shifted c.args.front c.args.n c.args.back c.requires.back_fits

pub returns-in-Little-clause-joined : goal.returns-in-Little-clause-joined
returns-in-Little-clause-joined c = rw c.in-Little.is (little_joined c)

pub returns-in-Little-clause-below : goal.returns-in-Little-clause-below
returns-in-Little-clause-below c =
    rw (little_joined c) (joined-below Little c.args.m c.args.n c.args.front c.args.back c.requires.front_fits c.requires.back_fits)

pub returns-in-Big-clause-joined : goal.returns-in-Big-clause-joined
returns-in-Big-clause-joined c = rw c.in-Big.is (big_joined c)

pub returns-in-Big-clause-below : goal.returns-in-Big-clause-below
returns-in-Big-clause-below c =
    rw (big_joined c) (joined-below Big c.args.m c.args.n c.args.front c.args.back c.requires.front_fits c.requires.back_fits)
