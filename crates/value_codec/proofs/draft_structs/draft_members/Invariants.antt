-- The members up to here are drafted: where the members left fit and lie from here on, all of them fit and lie.
use Rattle.std.proofs.Common.{◌≡◌, ◌*◌, ◌≤◌, drop, length}
use Rattle.ctf_types.specs.Fitting.{MembersFit}
use Rattle.ctf_types.specs.Layout.{members_end}
use Rattle.ctf_types.specs.Values.{data_of}
use Rattle.value_codec.specs.Writing.{Writes, MembersLieAnyhow}
use Rattle.value_codec.proofs.draft_structs.draft_members.Given as goal

abbrev pub invariant-loop-index : goal.invariant-loop-index
invariant-loop-index l = record {
  fits : MembersFit (drop l.index l.s.members) (data_of (drop l.index l.values)) → MembersFit l.s.members (data_of l.values);
  position : members_end (drop l.index l.s.members) l.end (data_of (drop l.index l.values)) ≡ members_end l.s.members l.at (data_of l.values);
  within : l.end ≤ 8 * length l.bytes;
  writes : Writes l.order
      (λ b pad. MembersLieAnyhow l.order b pad (drop l.index l.s.members) l.end (data_of (drop l.index l.values))
      → MembersLieAnyhow l.order b pad l.s.members l.at (data_of l.values))
      l.at l.end l.initial.bytes l.bytes;
}
