-- A structure without members is not there; one with members begins at its alignment.
use Rattle.std.proofs.Common.{◌≡◌, ℕ, ◌≤◌, ◌∙◌, [], Bool, false, true, sym, ap, subst, inl, arith}
use Rattle.std.proofs.lemmas.Bool.{false≢true}
use Rattle.ctf_types.proofs.Ends.{le-members_end}
use Rattle.ctf_types.specs.Alignment.{up}
use Rattle.ctf_types.specs.Bits.{bit_of, AreZero}
use Rattle.ctf_types.specs.Layout.{struct_align, members_end}
use Rattle.ctf_types.specs.Values.{data_of}
use Rattle.bit_codec.proofs.SpanLaws.{AreZero-outside, SameOutside-none, SameOutside-then}
use Rattle.value_codec.specs.Writing.{MembersLieAnyhow}
use Rattle.value_codec.proofs.MemberLaws.{empty_struct_end, empty_struct-lies, full_struct_end, full_struct-lies}
use Rattle.value_codec.proofs.WritingLaws.{Writes-lie}
use Rattle.value_codec.proofs.write_structs.write_struct.Goals as goal

not_when_false : (b : Bool) (P : Type 0) → b ≡ false → (P → b ≡ true) → P → ⊥
not_when_false b P is_false is_true holds = false≢true (sym is_false ∙ is_true holds)

pub returns-then-is_empty : goal.returns-then-is_empty
returns-then-is_empty c =
    let s = c.args.s.now in
    let vs = data_of c.args.values.now in
    let none : s.members ≡ [] = c.is_empty.ensures.0 c.if-is_empty.true in
    let b = bit_of c.args.order c.args.bytes.now in
    record {
      ends = sym (empty_struct_end s c.args.at vs none);
      lies = empty_struct-lies c.args.order b s c.args.at vs none c.requires.fits;
      others = SameOutside-none b c.args.at c.args.at;
    }

pub write_padding-start-requires-clause-room : goal.write_padding-start-requires-clause-room
write_padding-start-requires-clause-room c =
    let s = c.args.s.now in
    let vs = data_of c.args.values.now in
    let some = not_when_false c.is_empty.result (s.members ≡ []) c.if-is_empty.false c.is_empty.ensures.1 in
    let start : up c.args.at c.align_of.result ≡ up c.args.at (struct_align s) = ap (up c.args.at) c.align_of.ensures.is in
    let end = full_struct_end s c.args.at vs some in
    let onward = le-members_end s.members (up c.args.at (struct_align s)) vs in
    (omega (arith, start, end, onward, c.requires.within), omega (arith, start, end, onward, c.requires.position))

pub write_members-requires : goal.write_members-requires
write_members-requires c =
    let s = c.args.s.now in
    let vs = data_of c.args.values.now in
    let some = not_when_false c.is_empty.result (s.members ≡ []) c.if-is_empty.false c.is_empty.ensures.1 in
    let start : c.write_padding-start.result ≡ up c.args.at (struct_align s) = c.write_padding-start.ensures.ends ∙ ap (up c.args.at) c.align_of.ensures.is in
    let ends = ap (λ (p : ℕ). members_end s.members p vs) start in
    let end = full_struct_end s c.args.at vs some in
    record {
      automatic = c.requires.automatic;
      fits = c.requires.fits;
      within = omega (arith, ends, end, c.requires.within, c.write_padding-start.auto.bytes);
      position = omega (arith, ends, end, c.requires.position);
    }

pub returns : goal.returns
returns c =
    let o = c.args.order in
    let s = c.args.s.now in
    let vs = data_of c.args.values.now in
    let some = not_when_false c.is_empty.result (s.members ≡ []) c.if-is_empty.false c.is_empty.ensures.1 in
    let start : c.write_padding-start.result ≡ up c.args.at (struct_align s) = c.write_padding-start.ensures.ends ∙ ap (up c.args.at) c.align_of.ensures.is in
    let padding = c.write_padding-start.ensures.writes in
    let b = bit_of o c.write_members.new.bytes in
    let zeros = AreZero-outside (bit_of o c.write_padding-start.new.bytes) b c.args.at c.write_padding-start.result c.write_padding-start.result c.write_members.result
    c.write_members.ensures.others (inl (omega arith)) (Writes-lie padding) in
    let onward : c.write_padding-start.result ≤ c.write_members.result =
    omega (arith, c.write_members.ensures.ends, le-members_end s.members c.write_padding-start.result vs) in
    record {
      ends = c.write_members.ensures.ends ∙ ap (λ (p : ℕ). members_end s.members p vs) start ∙ sym (full_struct_end s c.args.at vs some);
      lies = full_struct-lies o b (AreZero b) s c.args.at vs some
          (subst (λ (p : ℕ). AreZero b c.args.at p) start zeros) (subst (λ (p : ℕ). MembersLieAnyhow o b (AreZero b) s.members p vs) start c.write_members.ensures.lies);
      others = SameOutside-then (bit_of o c.args.bytes.now) (bit_of o c.write_padding-start.new.bytes) b c.args.at c.write_members.result
          c.args.at c.write_padding-start.result c.write_padding-start.result c.write_members.result padding.others c.write_members.ensures.others
          (omega arith) onward padding.onward (omega arith);
    }
