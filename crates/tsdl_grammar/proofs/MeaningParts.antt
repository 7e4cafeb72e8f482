-- What integers, structures and texts mean, taken apart.
use Rattle.std.proofs.Common.{◌≡◌, ℕ, Bool, true, false, List, [], length, Some, None, refl, sym, ap, subst, ◌∙◌, nat_le, codes, flat_map, bytes_eq}
use Rattle.std.proofs.lemmas.Option.{same_Some}
use Rattle.ctf_types.specs.{declared.Base.TheVariants.Dec, declared.IntType.IntType, declared.StructType.StructType, declared.MemberType.MemberType}
use Rattle.ctf_types.specs.{declared.Metadata.Metadata, declared.limits.TheConstants.MAX_MEMBERS}
use Rattle.tsdl_grammar.specs.{declared.tree.Attribute.Attribute, declared.tree.Structure.Structure, declared.tree.Block.Block}
use Rattle.tsdl_grammar.specs.Steps.{◌>>=◌, provided, only, at_most_one, each}
use Rattle.tsdl_grammar.specs.Lookups.{attr, no_two}
use Rattle.tsdl_grammar.specs.AttributeValues.{natural_value, flag_value, with_default, optional}
use Rattle.tsdl_grammar.specs.IntegerMeaning.{Known, int_meaning, int_attrs, has_only, default_align, order_value, base_value, clock_value}
use Rattle.tsdl_grammar.specs.StructureMeaning.{struct_meaning, struct_type, members_meaning, align_of, align_with}
use Rattle.tsdl_grammar.specs.BlockMeaning.{is_trace, trace_order, trace_uuid, header_meaning, clock_meaning, environment_meaning}
use Rattle.tsdl_grammar.specs.Denotes.{text_meta, trace_in, clock_in, environment_in, known_of, streams_meaning}
use Rattle.tsdl_grammar.specs.Laws.{SaysInteger, SaysStructure, SaysMetadata, SameBlocks}
use Rattle.tsdl_grammar.proofs.Inversion.{bind_some, bind_is, provided_some}
use Rattle.tsdl_grammar.proofs.TypeParts.{int_type-parts, struct_type-parts}

pub says_integer : (known : Known) (attrs : List Attribute) (t : IntType) → int_meaning known attrs ≡ Some t → SaysInteger known attrs t
unfolding int_meaning
says_integer known attrs t e =
    let g = provided_some (has_only int_attrs attrs) _ t e in
    let a = bind_some (attr (codes "size") attrs >>= natural_value) _ t g.1 in
    let b = bind_some (with_default (default_align a.0) natural_value (attr (codes "align") attrs)) _ t a.2 in
    let c = bind_some (with_default false flag_value (attr (codes "signed") attrs)) _ t b.2 in
    let d = bind_some (with_default known.order (order_value known.order) (attr (codes "byte_order") attrs)) _ t c.2 in
    let f = bind_some (with_default Dec base_value (attr (codes "base") attrs)) _ t d.2 in
    let h = bind_some (optional (clock_value known.clocks) (attr (codes "map") attrs)) _ t f.2 in
    let p = int_type-parts a.0 b.0 c.0 f.0 h.0 t h.2 in
    record {
      once = g.0;
      size = a.1 ∙ ap Some (sym p.size_is);
      align = ap (λ (n : ℕ). with_default (default_align n) natural_value (attr (codes "align") attrs)) p.size_is ∙ b.1 ∙ ap Some (sym p.align_is);
      signed = c.1 ∙ ap Some (sym p.signed_is);
      base = f.1 ∙ ap Some (sym p.base_is);
      clock = h.1 ∙ ap Some (sym p.clock_is);
    }

pub size_needed : (known : Known) (attrs : List Attribute) → attr (codes "size") attrs ≡ None → int_meaning known attrs ≡ None
unfolding int_meaning
size_needed known attrs h = rw h (elim (has_only int_attrs attrs) as (λ b. provided {A = IntType} b None ≡ None) [ true ↦ refl | false ↦ refl ])

pub says_structure : (known : Known) (s : Structure) (t : StructType) → struct_meaning known s ≡ Some t → SaysStructure known s t
unfolding struct_meaning
says_structure known s t e =
    let a = bind_some (provided (nat_le (length s.members) MAX_MEMBERS) (members_meaning known [] s.members)) (λ members. align_of s.align >>= λ align. struct_type members (align_with members align)) t e in
    let g = provided_some (nat_le (length s.members) MAX_MEMBERS) (members_meaning known [] s.members) a.0 a.1 in
    let b = bind_some (align_of s.align) (λ align. struct_type a.0 (align_with a.0 align)) t a.2 in
    let p = struct_type-parts a.0 (align_with a.0 b.0) t b.2 in
    record {
      few = g.0;
      members = g.1 ∙ ap Some (sym p.0);
      align = rw b.1 (ap (λ (ms : List (List ℕ × MemberType)). Some (align_with ms b.0)) p.0 ∙ ap Some (sym p.1));
    }

pub says_metadata : (bs : List Block) (m : Metadata) → text_meta bs ≡ Some m → SaysMetadata bs m
unfolding text_meta
says_metadata bs m e =
    let a = bind_some (only (flat_map trace_in bs)) _ m e in
    let b = bind_some (provided (is_trace a.0) (trace_order a.0)) _ m a.2 in
    let v = provided_some (is_trace a.0) (trace_order a.0) b.0 b.1 in
    let c = bind_some (trace_uuid a.0) _ m b.2 in
    let d = bind_some (at_most_one (flat_map environment_in bs)) _ m c.2 in
    let f = bind_some (environment_meaning d.0) _ m d.2 in
    let g = bind_some (each clock_meaning (flat_map clock_in bs)) _ m f.2 in
    let h = bind_some (provided (no_two bytes_eq (known_of b.0 g.0).clocks) (header_meaning (known_of b.0 g.0) a.0)) _ m g.2 in
    let w = provided_some (no_two bytes_eq (known_of b.0 g.0).clocks) (header_meaning (known_of b.0 g.0) a.0) h.0 h.1 in
    let k = bind_some (streams_meaning (known_of b.0 g.0) bs) _ m h.2 in
    let made : Metadata = record { order = b.0; uuid = c.0; environment = f.0; clocks = g.0; header = h.0; streams = k.0 } in
    let says : SaysMetadata bs made = record {
      trace = a.0;
      one_trace = a.1;
      version = v.0;
      order = v.1;
      uuid = c.1;
      environment = bind_is (at_most_one (flat_map environment_in bs)) environment_meaning d.0 f.0 d.1 f.1;
      clocks = g.1;
      clocks_once = w.0;
      header = w.1;
      streams = k.1;
    } in
    subst (SaysMetadata bs) (same_Some made m k.2) says

-- blocks that say the parts of a metadata mean it
pub text_says : (bs : List Block) (m : Metadata) → SaysMetadata bs m → text_meta bs ≡ Some m
unfolding text_meta
text_says bs m s =
    let d = bind_some (at_most_one (flat_map environment_in bs)) environment_meaning m.environment s.environment in
    let known = known_of m.order m.clocks in
    bind_is (only (flat_map trace_in bs)) _ s.trace m s.one_trace
    (bind_is (provided (is_trace s.trace) (trace_order s.trace)) _ m.order m (ap (λ (b : Bool). provided b (trace_order s.trace)) s.version ∙ s.order)
    (bind_is (trace_uuid s.trace) _ m.uuid m s.uuid
    (bind_is (at_most_one (flat_map environment_in bs)) _ d.0 m d.1
    (bind_is (environment_meaning d.0) _ m.environment m d.2
    (bind_is (each clock_meaning (flat_map clock_in bs)) _ m.clocks m s.clocks
    (bind_is (provided (no_two bytes_eq known.clocks) (header_meaning known s.trace)) _ m.header m
    (ap (λ (b : Bool). provided b (header_meaning known s.trace)) s.clocks_once ∙ s.header)
    (bind_is (streams_meaning known bs) _ m.streams m s.streams refl)))))))

-- a text means what its blocks of each kind mean, however the kinds are mixed
pub same_meaning : (bs cs : List Block) → SameBlocks bs cs → text_meta bs ≡ text_meta cs
unfolding text_meta streams_meaning
same_meaning bs cs same = rw (same.traces, same.environments, same.clocks, same.streams, same.events) refl
