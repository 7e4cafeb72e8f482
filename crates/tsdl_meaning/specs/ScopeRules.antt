-- What the scopes of a metadata text ask of their members.
use Rattle.std.specs.Prelude.{◌≡◌, ℕ, Bool, true, ◌&&◌, List, [], ◌∷◌, slice_index_or, codes}
use Rattle.ctf_types.specs.declared.MemberType.{MemberType}
use Rattle.ctf_types.specs.{Chain.Chain, Packets.own_names}
use Rattle.tsdl_grammar.specs.BlockMeaning.{suits_header, suits, is_flat, is_byte}
use Rattle.tsdl_meaning.specs.declared.scope_rule.ScopeRule.{ScopeRule}
use Rattle.tsdl_meaning.specs.declared.scope_rule.ScopeRule.TheVariants.{AnyMembers, PacketHeader, PacketContext, EventHeader}

abbrev pub suits_rule : ScopeRule → List ℕ × MemberType → Bool
suits_rule AnyMembers m = true
suits_rule PacketHeader m = suits_header m
suits_rule PacketContext m = suits own_names m
suits_rule EventHeader m = suits (codes "id" ∷ []) m

-- the answer is whether the member at the index is as the rule asks
abbrev pub SuitsAt : ScopeRule → List (List ℕ × MemberType) → ℕ → Bool → Type 0
SuitsAt rule members index answer = (d : List ℕ × MemberType) → suits_rule rule (slice_index_or members index d) ≡ answer

-- no array, and an unsigned integer of 8 bits on any byte
abbrev pub is_byte_chain : Chain → Bool
is_byte_chain c = is_flat c.lengths && is_byte c.leaf
