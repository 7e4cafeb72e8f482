use Rattle.std.proofs.Common.{◌≡◌, ℕ, sym}
use Rattle.ctf_types.specs.Bits.{bit_of}
use Rattle.ctf_types.specs.Layout.{member_end, MemberLies, AnyBits}
use Rattle.ctf_types.specs.Values.{data_of}
use Rattle.value_codec.specs.Reading.{member_at, datum_read}
use Rattle.value_codec.proofs.ReadingAnswers.{given, given_same, stopped}
use Rattle.value_codec.proofs.ReadingLaws.{member_reads}
use Rattle.value_codec.specs.Stopping.{MemberStops}
use Rattle.value_codec.proofs.StoppingLaws.{member_stops}
use Rattle.value_codec.proofs.read_structure.read_member.Goals as goal

pub returns-clause-found : goal.returns-clause-found
returns-clause-found c =
    let b : ℕ → ℕ = bit_of c.args.order c.args.bytes.now in
    let before = data_of c.args.before.now in
    let reads = member_reads c.args.order b c.args.limit before c.in-Some.member.now in
    rw (sym c.in-Some.ensures)
    (given datum_read _ (member_at c.args.order b c.args.limit before c.in-Some.member.now c.args.at) (λ x. MemberLies c.args.order b AnyBits c.in-Some.member.now before c.args.at x.0)
    (λ x e. (reads.found c.args.at x e).0) c.read_typed.ensures.value)

pub returns-clause-ends : goal.returns-clause-ends
returns-clause-ends c =
    let b : ℕ → ℕ = bit_of c.args.order c.args.bytes.now in
    let before = data_of c.args.before.now in
    let reads = member_reads c.args.order b c.args.limit before c.in-Some.member.now in
    rw (sym c.in-Some.ensures)
    (given datum_read _ (member_at c.args.order b c.args.limit before c.in-Some.member.now c.args.at) (λ x. x.1 ≡ member_end c.in-Some.member.now c.args.at x.0)
    (λ x e. (reads.found c.args.at x e).1) c.read_typed.ensures.value)

pub returns-clause-only : goal.returns-clause-only
returns-clause-only c =
    let b : ℕ → ℕ = bit_of c.args.order c.args.bytes.now in
    let before = data_of c.args.before.now in
    let reads = member_reads c.args.order b c.args.limit before c.in-Some.member.now in
    rw (sym c.in-Some.ensures) (λ v l h. given_same datum_read _ _ _ (reads.again c.args.at v l h) c.read_typed.ensures.value)

pub returns-clause-stops : goal.returns-clause-stops
returns-clause-stops c =
    let b : ℕ → ℕ = bit_of c.args.order c.args.bytes.now in
    let before = data_of c.args.before.now in
    let stops = member_stops c.args.order b c.args.limit before c.in-Some.member.now in
    rw (sym c.in-Some.ensures)
    (stopped datum_read _ (member_at c.args.order b c.args.limit before c.in-Some.member.now c.args.at) (MemberStops c.args.order b c.args.limit before c.in-Some.member.now c.args.at)
    (λ e h. stops.found c.args.at e h) c.read_typed.ensures.value)

pub returns-clause-stops_only : goal.returns-clause-stops_only
returns-clause-stops_only c =
    let b : ℕ → ℕ = bit_of c.args.order c.args.bytes.now in
    let before = data_of c.args.before.now in
    let stops = member_stops c.args.order b c.args.limit before c.in-Some.member.now in
    rw (sym c.in-Some.ensures) (λ e s. given_same datum_read _ _ _ (stops.again c.args.at e s) c.read_typed.ensures.value)
