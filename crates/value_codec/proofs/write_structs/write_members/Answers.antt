-- Each member before the rest of them.
use Rattle.std.proofs.Common.{◌≡◌, ℕ, ◌+◌, ◌-◌, ◌≤◌, ◌∙◌, drop, refl, sym, ap, subst, arith, rules}
use Rattle.ctf_types.specs.Bits.{AreZero}
use Rattle.ctf_types.specs.Layout.{member_end, members_end}
use Rattle.ctf_types.specs.Values.{datum_of, data_of}
use Rattle.value_codec.specs.Writing.{MembersLieAnyhow}
use Rattle.value_codec.proofs.MemberLaws.{next_value, IsAutomatic-next, value_for_member, MembersFit-next, members_end-next, member_end-within, MembersLie-next, members_end-over, MembersLie-over}
use Rattle.value_codec.proofs.WritingLaws.{Writes-none, Writes-then, Writes-lie}
use Rattle.value_codec.proofs.write_structs.write_members.Goals as goal

pub bounds-values-index : goal.bounds-values-index
bounds-values-index c =
    value_for_member c.args.s.now.members c.loop-index.index (c.loop-index.index - c.args.from) c.member_at.result.now c.args.values.now c.member_at.ensures
    c.loop-index.invariant.fit

pub offset_bounds-values-index : goal.offset_bounds-values-index
offset_bounds-values-index c =
    let within = value_for_member c.args.s.now.members c.loop-index.index (c.loop-index.index - c.args.from) c.member_at.result.now c.args.values.now c.member_at.ensures
    c.loop-index.invariant.fit in
    search rules

pub write_member-end-requires : goal.write_member-end-requires
write_member-end-requires c =
    let members = c.args.s.now.members in
    let i = c.loop-index.index in
    let from = c.args.from in
    let values = c.args.values.now in
    let value = c.index-values-index.result in
    let member = c.member_at.result.now in
    let (name, next, more) = next_value members i from member values value c.member_at.ensures c.loop-index.auto.index c.index-values-index.is c.loop-index.invariant.fit in
    let ms = drop i members in
    let rest = drop (i + 1) members in
    let vs = data_of (drop (i - from) values) in
    let others = data_of (drop (i + 1 - from) values) in
    let within = member_end-within ms rest (name, member) next vs others (datum_of value) more c.loop-index.end in
    let low : member_end member c.loop-index.end (datum_of value) ≤ members_end (drop from members) c.args.at (data_of values) =
    omega (arith, within, c.loop-index.invariant.position) in
    record {
      automatic = IsAutomatic-next members rest i name member c.requires.automatic next;
      fits = (MembersFit-next ms rest (name, member) next vs others (datum_of value) more c.loop-index.invariant.fit).0;
      room = (omega (arith, low, c.requires.within, c.loop-index.auto.bytes), omega (arith, low, c.requires.position));
    }

pub loop-index-init : goal.loop-index-init
loop-index-init c =
    let none : c.args.from - c.args.from ≡ 0 = omega arith in
    let all : drop (c.args.from - c.args.from) c.args.values.now ≡ c.args.values.now = ap (λ (k : ℕ). drop k c.args.values.now) none in
    record {
      fit = rw all c.requires.fits;
      position = rw all refl;
      writes = rw all (Writes-none c.args.order _ c.args.at c.args.bytes.now (λ b lies. lies));
    }

pub loop-index-preserved : goal.loop-index-preserved
loop-index-preserved c =
    let members = c.args.s.now.members in
    let o = c.args.order in
    let i = c.loop-index.index in
    let from = c.args.from in
    let values = c.args.values.now in
    let value = c.index-values-index.result in
    let member = c.member_at.result.now in
    let (name, next, more) = next_value members i from member values value c.member_at.ensures c.loop-index.auto.index c.index-values-index.is c.loop-index.invariant.fit in
    let ms = drop i members in
    let rest = drop (i + 1) members in
    let vs = data_of (drop (i - from) values) in
    let others = data_of (drop (i + 1 - from) values) in
    let ends : c.write_member-end.result ≡ member_end member c.loop-index.end (datum_of value) = c.write_member-end.ensures.ends in
    record {
      fit = (MembersFit-next ms rest (name, member) next vs others (datum_of value) more c.loop-index.invariant.fit).1;
      position = ap (λ (p : ℕ). members_end rest p others) ends ∙ sym (members_end-next ms rest (name, member) next vs others (datum_of value) more c.loop-index.end)
          ∙ c.loop-index.invariant.position;
      writes = Writes-then _ c.loop-index.invariant.writes c.write_member-end.ensures.writes
          (λ b lies first then. lies (MembersLie-next ms rest (name, member) next vs others (datum_of value) more o b _ c.loop-index.end first
          (subst (λ (p : ℕ). MembersLieAnyhow o b (AreZero b) rest p others) ends then)));
    }

pub returns : goal.returns
returns c =
    let written = c.loop-index.invariant.writes in
    record {
      ends = sym (members_end-over c.args.s.now.members c.loop-index.index c.loop-index.end _ (omega arith)) ∙ c.loop-index.invariant.position;
      lies = Writes-lie written (MembersLie-over c.args.order _ _ c.args.s.now.members c.loop-index.index c.loop-index.end _ (omega arith) c.loop-index.invariant.fit);
      others = written.others;
    }
