-- The members up to here are written: what lies from here on, as the members left, makes all of them lie there.
use Rattle.std.proofs.Common.{◌≡◌, ◌-◌, drop}
use Rattle.ctf_types.specs.Fitting.{MembersFit}
use Rattle.ctf_types.specs.Layout.{members_end}
use Rattle.ctf_types.specs.Values.{data_of}
use Rattle.value_codec.specs.Writing.{Writes, MembersLieAnyhow}
use Rattle.value_codec.proofs.write_structs.write_members.Given as goal

abbrev pub invariant-loop-index : goal.invariant-loop-index
invariant-loop-index l = record {
  fit : MembersFit (drop l.index l.s.members) (data_of (drop (l.index - l.from) l.values));
  position : members_end (drop l.index l.s.members) l.end (data_of (drop (l.index - l.from) l.values))
      ≡ members_end (drop l.from l.s.members) l.at (data_of l.values);
  writes : Writes l.order
      (λ b pad. MembersLieAnyhow l.order b pad (drop l.index l.s.members) l.end (data_of (drop (l.index - l.from) l.values))
      → MembersLieAnyhow l.order b pad (drop l.from l.s.members) l.at (data_of l.values))
      l.at l.end l.initial.bytes l.bytes;
}
