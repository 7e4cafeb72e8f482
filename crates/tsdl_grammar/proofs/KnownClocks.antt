-- What is known of the clocks is their names, and not the order in which they stand.
use Rattle.std.proofs.Common.{◌≡◌, ℕ, Bool, true, not, ◌&&◌, List, [], ◌∷◌, ◌++◌, Option, Some, None, refl, ap, ap₂, codes, nat_le, length, option_map, bytes_eq}
use mathlib.Core.Path.{fun_ext}
use Rattle.std.specs.List.{list_any, list_all}
use Rattle.ctf_types.specs.{declared.MemberType.MemberType, declared.StructType.StructType, declared.IntType.IntType}
use Rattle.ctf_types.specs.{Chain.{Leaf, Number, Labelled}, Packets.own_names, declared.limits.TheConstants.MAX_MEMBERS}
use Rattle.tsdl_grammar.specs.{declared.tree.Value.Value, declared.tree.Attribute.Attribute, declared.tree.Kind.Kind, declared.tree.MemberTree.MemberTree}
use Rattle.tsdl_grammar.specs.{declared.tree.Structure.Structure, declared.tree.Scope.Scope, declared.tree.Item.Item}
use Rattle.tsdl_grammar.specs.declared.tree.Value.TheVariants as values
use Rattle.tsdl_grammar.specs.declared.tree.Kind.TheVariants as kinds
use Rattle.tsdl_grammar.specs.Steps.{◌>>=◌, provided}
use Rattle.tsdl_grammar.specs.Lookups.{words_of, scope, scopes_in}
use Rattle.tsdl_grammar.specs.IntegerMeaning.{Known, clock_in, clock_value, int_meaning}
use Rattle.tsdl_grammar.specs.MemberMeaning.{kind_meaning, enum_meaning, bracketed, member_meaning}
use Rattle.tsdl_grammar.specs.StructureMeaning.{has_member, members_meaning, align_of, align_with, struct_type, struct_meaning, structure_of, scope_meaning}
use Rattle.tsdl_grammar.specs.BlockMeaning.{header_meaning, stream_meaning, event_meaning, packet_header, suits_header, packet_context, suits, event_header, event_context, specific_context, fields_scope}

-- the same byte order, and clocks of the same names
pub record KnowSame (k l : Known) : Type 0 where
  pub order : k.order ≡ l.order
  pub clocks : (w : List ℕ) → list_any (bytes_eq w) k.clocks ≡ list_any (bytes_eq w) l.clocks

module _ (k l : Known) (same : KnowSame k l) where
  clock_alike : (v : Value) → clock_value k.clocks v ≡ clock_value l.clocks v
  unfolding clock_value
  clock_alike (values.Number n) = refl
  clock_alike (values.Text s) = refl
  clock_alike (values.Name n) = among (words_of n)
    where
      among : (ws : List (List ℕ)) → clock_in k.clocks ws ≡ clock_in l.clocks ws
      among (a ∷ b ∷ c ∷ []) = ap (λ (there : Bool). provided (bytes_eq a (codes "clock") && bytes_eq c (codes "value") && there) (Some b)) (same.clocks b)
      among _ = refl

  int_alike : (attrs : List Attribute) → int_meaning k attrs ≡ int_meaning l attrs
  unfolding int_meaning
  int_alike attrs = rw (same.order, fun_ext clock_alike) refl

  kind_alike : (kind : Kind) → kind_meaning k kind ≡ kind_meaning l kind
  unfolding kind_meaning
  kind_alike (kinds.Integer attrs) = ap (option_map Number) (int_alike attrs)
  kind_alike (kinds.Enumeration attrs es) = ap (λ (o : Option IntType). o >>= λ int. option_map Labelled (enum_meaning int es)) (int_alike attrs)
  kind_alike (kinds.Text attrs) = refl

  member_alike : (before : List (List ℕ × MemberType)) (m : MemberTree) → member_meaning k before m ≡ member_meaning l before m
  unfolding member_meaning
  member_alike before m = ap (λ (o : Option Leaf). o >>= λ leaf. bracketed before leaf m.brackets) (kind_alike m.kind)

  members_alike : (before : List (List ℕ × MemberType)) (ms : List MemberTree) → members_meaning k before ms ≡ members_meaning l before ms
  unfolding members_meaning
  members_alike before [] = refl
  members_alike before (m ∷ ms) =
      ap₂ (λ (o : Option MemberType) (more : MemberType → Option (List (List ℕ × MemberType))). provided (not (has_member m.name before)) o >>= more)
      (member_alike before m) (fun_ext (λ t. members_alike (before ++ (m.name, t) ∷ []) ms))

  struct_alike : (s : Structure) → struct_meaning k s ≡ struct_meaning l s
  unfolding struct_meaning
  struct_alike s =
      ap (λ (o : Option (List (List ℕ × MemberType))). provided (nat_le (length s.members) MAX_MEMBERS) o >>= λ members. align_of s.align >>= λ align. struct_type members (align_with members align)) (members_alike [] s.members)

  structure_alike : (o : Option Structure) → structure_of k o ≡ structure_of l o
  structure_alike None = refl
  structure_alike (Some s) = struct_alike s

  pub scope_alike : (name : List (List ℕ)) (test : List ℕ × MemberType → Bool) (scopes : List Scope) → scope_meaning k name test scopes ≡ scope_meaning l name test scopes
  scope_alike name test scopes = ap (λ (o : Option StructType). o >>= λ t. provided (list_all test t.members) (Some t)) (structure_alike (scope name scopes))

  pub header_alike : (is : List Item) → header_meaning k is ≡ header_meaning l is
  unfolding header_meaning
  header_alike is = scope_alike packet_header suits_header (scopes_in is)

  pub stream_alike : (is : List Item) → stream_meaning k is ≡ stream_meaning l is
  unfolding stream_meaning
  stream_alike is =
      rw (scope_alike packet_context (suits own_names) (scopes_in is), scope_alike event_header (suits (codes "id" ∷ [])) (scopes_in is), scope_alike event_context (λ m. true) (scopes_in is)) refl

  pub event_alike : (is : List Item) → event_meaning k is ≡ event_meaning l is
  unfolding event_meaning
  event_alike is = rw (scope_alike specific_context (λ m. true) (scopes_in is), scope_alike fields_scope (λ m. true) (scopes_in is)) refl
