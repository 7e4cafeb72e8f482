use Rattle.std.proofs.Common.{◌≡◌, ℕ, ◌+◌, ◌<◌, ◌≤◌, List, [], length, take, drop, get_or, ◌∙◌, arith}
use Rattle.std.proofs.lemmas.Result.{err_from_is_err_and}
use Rattle.std.proofs.lemmas.List.{drop_all, take_all}
use Rattle.ctf_types.specs.declared.Value.TheVariants.{Unsigned}
use Rattle.ctf_types.specs.Bits.{bit_of}
use Rattle.ctf_types.specs.Datum.{Datum}
use Rattle.ctf_types.specs.Values.{datum_of, data_of}
use Rattle.value_codec.specs.Reading.{members_at}
use Rattle.value_codec.proofs.ReadingRest.{after_none}
use Rattle.value_codec.proofs.ReadingMembers.{members_onward, members_done, members_fault, data-place}
use Rattle.value_codec.proofs.MemberLaws.{next_member}
use Rattle.value_codec.proofs.read_structure.reread_members.Goals as goal

pub loop-i-init : goal.loop-i-init
loop-i-init c = record {
  read_so_far = after_none (members_at c.args.order (bit_of c.args.order c.args.bytes.now) c.args.limit [] c.args.s.now.members c.args.at);
  count = c.requires.count;
  within = c.requires.ordered;
}

pub returns-in_err-place-clause-values : goal.returns-in_err-place-clause-values
returns-in_err-place-clause-values c =
    let p = err_from_is_err_and c.from_residual.result c.from_residual.ensures.1 in
    let members = c.args.s.now.members in
    let i = c.loop-i.i in
    let (name, next) = next_member members i c.member_at.result.now c.member_at.ensures in
    rw (p.1, p.2, c.loop-i.invariant.read_so_far, next)
    (members_fault c.args.order (bit_of c.args.order c.args.bytes.now) c.args.limit {A = Datum × ℕ} {B = List Datum × ℕ} (λ x. x) (λ x. x) (data_of (take i c.loop-i.places)) (name, c.member_at.result.now) (drop (i + 1) members) c.loop-i.place _ c.in_err-place.ensures.value)

pub loop-i-preserved : goal.loop-i-preserved
loop-i-preserved c =
    let members = c.args.s.now.members in
    let i = c.loop-i.i in
    let held = c.loop-i.places in
    let new = c.reread_member.new.places in
    let b : ℕ → ℕ = bit_of c.args.order c.args.bytes.now in
    let (name, next) = next_member members i c.member_at.result.now c.member_at.ensures in
    let within : i < length new = omega (arith, c.in_ok-place.ensures.count, c.loop-i.invariant.count, c.loop-i-test.true, c.len-i-end.ensures.len) in
    record {
      read_so_far =
          rw (data-place held new i (Unsigned 0) within c.in_ok-place.ensures.before)
          (members_onward c.args.order b c.args.limit (members_at c.args.order b c.args.limit [] members c.args.at) (data_of (take i held)) (drop i members) (name, c.member_at.result.now) (drop (i + 1) members) c.loop-i.place
          (datum_of (get_or new i (Unsigned 0))) c.in_ok-place.place next c.loop-i.invariant.read_so_far c.in_ok-place.ensures.value);
      count = c.in_ok-place.ensures.count ∙ c.loop-i.invariant.count;
      within = c.in_ok-place.ensures.within;
    }

pub returns-clause-values : goal.returns-clause-values
returns-clause-values c =
    let members = c.args.s.now.members in
    let i = c.loop-i.i in
    let places = c.loop-i.places in
    let over : length members ≤ i = omega (arith, c.loop-i-test.false, c.len-i-end.ensures.len) in
    let all : take i places ≡ places = take_all i places (omega (arith, over, c.loop-i.invariant.count)) in
    let b : ℕ → ℕ = bit_of c.args.order c.args.bytes.now in
    let so_far = rw all at c.loop-i.invariant.read_so_far in
    members_done c.args.order b c.args.limit (members_at c.args.order b c.args.limit [] members c.args.at) (data_of places) (drop i members) c.loop-i.place (drop_all i members over) so_far
