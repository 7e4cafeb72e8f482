-- The sizes of packets: the packet context of a stream has the size of the packet and that of its content (CTF 1.8.3, section 5.2).
use Rattle.std.specs.Prelude.{◌≡◌, ℕ, ◌≤◌, Bool, false, ◌&&◌, List, [], length, map, Option, Some, None, codes}
use Rattle.std.specs.List.{Contains, list_any, flat_map}
use Rattle.std.specs.Str.{bytes_eq}
use Rattle.tsdl_grammar.specs.declared.fault.MetaFaultKind.TheVariants as faults
use Rattle.tsdl_grammar.specs.declared.tree.Structure.{Structure}
use Rattle.tsdl_grammar.specs.declared.tree.Item.{Item}
use Rattle.tsdl_grammar.specs.declared.tree.Block.{Block}
use Rattle.tsdl_grammar.specs.Spelling.{text_toks}
use Rattle.tsdl_grammar.specs.Lookups.{scopes_in, scope}
use Rattle.tsdl_grammar.specs.BlockMeaning.{packet_context}
use Rattle.tsdl_grammar.specs.Denotes.{stream_in}
use Rattle.tsdl_flaw.specs.declared.flaw.Stop.{Stop}
use Rattle.tsdl_flaw.specs.declared.flaw.Stop.TheVariants as stops
use Rattle.tsdl_flaw.specs.Lengths.{most}
use Rattle.tsdl_flaw.specs.Stopping.{kind_of}

-- the names of a structure's members, none where there is no structure
abbrev pub member_names : Option Structure → List (List ℕ)
member_names None = []
member_names (Some s) = map (λ m. m.name) s.members

-- the packet context of a stream block has a member of this name
abbrev pub has_in_context : List ℕ → List Item → Bool
has_in_context name is = list_any (bytes_eq name) (member_names (scope packet_context (scopes_in is)))

abbrev pub has_sizes : List Item → Bool
has_sizes is = has_in_context (codes "packet_size") is && has_in_context (codes "content_size") is

-- a stream block of these lacks one of the sizes
pub record LacksSizes (bs : List Block) : Type 0 where
  pub stream : List Item
  pub there : Contains (flat_map stream_in bs) stream
  pub lacks : has_sizes stream ≡ false

-- what holds where judging stops for want of a size
abbrev pub IfSizesMissed : Stop → Type 0 → Type 0
IfSizesMissed (stops.Fault fault) P = kind_of fault.flaw ≡ faults.NoPacketSize → P
IfSizesMissed stops.NoMemory P = Unit {0}

-- where judging blocks stops for want of a size, a stream block lacks one, where each atom of theirs has an index
abbrev pub MissesSizes : List Block → Stop → Type 0
MissesSizes bs stop = length (text_toks bs) ≤ most → IfSizesMissed stop (LacksSizes bs)
