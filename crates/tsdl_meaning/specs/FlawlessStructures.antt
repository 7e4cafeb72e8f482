-- What a structure is in which no flaw is found: it means something, and its members are as its scope asks.
use Rattle.std.specs.Prelude.{◌≡◌, ℕ, ◌<◌, true, false, List, [], ◌∷◌, ◌++◌, length, Some}
use Rattle.std.specs.List.{list_all}
use Rattle.ctf_types.specs.declared.MemberType.{MemberType}
use Rattle.ctf_types.specs.declared.StructType.{StructType}
use Rattle.ctf_types.specs.declared.limits.TheConstants.{MAX_MEMBERS}
use Rattle.tsdl_grammar.specs.declared.tree.MemberTree.{MemberTree}
use Rattle.tsdl_grammar.specs.declared.tree.Structure.{Structure}
use Rattle.tsdl_grammar.specs.IntegerMeaning.{Known}
use Rattle.tsdl_grammar.specs.MemberMeaning.{member_meaning}
use Rattle.tsdl_grammar.specs.StructureMeaning.{has_member, struct_meaning}
use Rattle.tsdl_meaning.specs.declared.scope_rule.ScopeRule.{ScopeRule}
use Rattle.tsdl_meaning.specs.ScopeRules.{suits_rule}

-- one more member behind fewer than a structure may have: its name is new, it means something, and it is as its scope asks
pub record AddsMember (known : Known) (rule : ScopeRule) (before : List (List ℕ × MemberType)) (tree : MemberTree) (after : List (List ℕ × MemberType)) : Type 0 where
  pub member : MemberType
  pub few : length before < MAX_MEMBERS
  pub fresh : has_member tree.name before ≡ false
  pub meant : member_meaning known before tree ≡ Some member
  pub suits : suits_rule rule (tree.name, member) ≡ true
  pub added : after ≡ before ++ (tree.name, member) ∷ []

-- the structure means a type of which each member is as its scope asks
pub record IsFlawless (known : Known) (rule : ScopeRule) (structure : Structure) : Type 0 where
  pub meant : StructType
  pub means : struct_meaning known structure ≡ Some meant
  pub suit : list_all (suits_rule rule) meant.members ≡ true
