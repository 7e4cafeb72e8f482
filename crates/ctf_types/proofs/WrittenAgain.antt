-- Numbers that are written again: other values over the first members of a structure, all integers, leave the further members where and as they lie.
use Rattle.std.proofs.Common.{ℕ, List, [], ◌∷◌, ◌++◌}
use Rattle.std.proofs.lemmas.List.Elements.{All-head, All-tail}
use Rattle.data_types.specs.declared.byte_order.ByteOrder.{ByteOrder}
use Rattle.data_types.specs.declared.member_type.Length.TheVariants.{Auto, At}
use Rattle.data_types.specs.declared.member_type.MemberType.{MemberType}
use Rattle.data_types.specs.declared.member_type.MemberType.TheVariants.{Plain, Dyn}
use Rattle.data_types.specs.Datum.{Datum}
use Rattle.ctf_types.specs.Laws.{IsAutomatic, AreAutomatic}
use Rattle.ctf_types.specs.Layout.{member_end, MemberLies, MembersLie}

-- members with automatic lengths do not look at the values before them
module _ (o : ByteOrder) (b : ℕ → ℕ) (pad : ℕ → ℕ → Type 0) where
  member_lies_anywhere : (m : MemberType) (before before' : List Datum) (p : ℕ) (v : Datum) → IsAutomatic m → MemberLies o b pad m before p v → MemberLies o b pad m before' p v
  unfolding MemberLies
  member_lies_anywhere (Plain t) before before' p v a x = x
  member_lies_anywhere (Dyn t Auto) before before' p v a x = x
  member_lies_anywhere (Dyn t (At i)) before before' p v a x = absurd a

  pub members_lie_anywhere : (ms : List (List ℕ × MemberType)) (before before' : List Datum) (p : ℕ) (vs : List Datum) → AreAutomatic ms →
      MembersLie o b pad ms before p vs → MembersLie o b pad ms before' p vs
  unfolding MembersLie
  members_lie_anywhere [] before before' p [] a x = tt
  members_lie_anywhere [] before before' p (v ∷ vs) a x = x
  members_lie_anywhere (m ∷ ms) before before' p [] a x = x
  members_lie_anywhere (m ∷ ms) before before' p (v ∷ vs) a x = (
    member_lies_anywhere m.1 before before' p v (All-head (λ (k : List ℕ × MemberType). IsAutomatic k.1) m ms a) x.0,
    members_lie_anywhere ms (before ++ v ∷ []) (before' ++ v ∷ []) (member_end m.1 p v) vs (All-tail (λ (k : List ℕ × MemberType). IsAutomatic k.1) m ms a) x.1,
  )
