-- Each member before the rest of them.
use Rattle.std.proofs.Common.{◌≡◌, ℕ, ◌+◌, ◌≤◌, ◌∙◌, drop, length, refl, sym, ap, subst, arith}
use Rattle.ctf_types.specs.Bits.{AreZero}
use Rattle.ctf_types.specs.Layout.{member_end, members_end}
use Rattle.ctf_types.specs.Values.{datum_of, data_of}
use Rattle.value_codec.specs.Writing.{MembersLieAnyhow}
use Rattle.value_codec.proofs.DraftingLaws.{Writes-left}
use Rattle.value_codec.proofs.FieldLaws.{data_of-more}
use Rattle.value_codec.proofs.MemberLaws.{next_member, MembersFit-first, members_end-next, MembersLie-next, members_end-over, MembersFit-over, MembersLie-over}
use Rattle.value_codec.proofs.WritingLaws.{Writes-none, Writes-then, Writes-weaker}
use Rattle.value_codec.proofs.draft_structs.draft_members.Goals as goal

pub loop-index-init : goal.loop-index-init
loop-index-init c = record {
  fits = λ fit. fit;
  position = refl;
  within = c.requires.within.0;
  writes = Writes-none c.args.order _ c.args.at c.args.bytes.now (λ b lies. lies);
}

pub returns-in-None : goal.returns-in-None
returns-in-None c = Writes-left _ c.loop-index.invariant.writes c.in-None.ensures

pub loop-index-preserved : goal.loop-index-preserved
loop-index-preserved c =
    let members = c.args.s.now.members in
    let o = c.args.order in
    let i = c.loop-index.index in
    let values = c.args.values.now in
    let value = c.index-values-index.result in
    let member = c.member_at.result.now in
    let (name, next) = next_member members i member c.member_at.ensures in
    let more = data_of-more values i value c.loop-index-test.true c.index-values-index.is in
    let ms = drop i members in
    let rest = drop (i + 1) members in
    let vs = data_of (drop i values) in
    let others = data_of (drop (i + 1) values) in
    let drafted = c.in-Some.ensures in
    let ends : c.in-Some.next ≡ member_end member c.loop-index.end (datum_of value) = drafted.ends in
    record {
      fits = λ fit. c.loop-index.invariant.fits (MembersFit-first ms rest (name, member) next vs others (datum_of value) more drafted.fits fit);
      position = ap (λ (p : ℕ). members_end rest p others) ends ∙ sym (members_end-next ms rest (name, member) next vs others (datum_of value) more c.loop-index.end)
          ∙ c.loop-index.invariant.position;
      within = omega (arith, drafted.within, c.draft_member.auto.bytes);
      writes = Writes-then _ c.loop-index.invariant.writes drafted.writes
          (λ b lies first then. lies (MembersLie-next ms rest (name, member) next vs others (datum_of value) more o b _ c.loop-index.end first
          (subst (λ (p : ℕ). MembersLieAnyhow o b (AreZero b) rest p others) ends then)));
    }

pub returns : goal.returns
returns c =
    let members = c.args.s.now.members in
    let i = c.loop-index.index in
    let values = c.args.values.now in
    let none : length values ≤ i = c.loop-index-test.false in
    let over : length members ≤ i = omega (arith, c.requires.count, none) in
    let fit = MembersFit-over members i values over none in
    record {
      fits = c.loop-index.invariant.fits fit;
      ends = sym (members_end-over members i c.loop-index.end (data_of (drop i values)) over) ∙ c.loop-index.invariant.position;
      within = omega (arith, c.loop-index.invariant.within, c.loop-index.auto.bytes);
      writes = Writes-weaker _ c.loop-index.invariant.writes (λ b lies. lies (MembersLie-over c.args.order b _ members i c.loop-index.end (data_of (drop i values)) over fit));
    }
