-- What clock, stream and event blocks mean, taken apart.
use Rattle.std.proofs.Common.{◌≡◌, ℕ, true, false, ◌&&◌, List, [], ◌∷◌, Some, subst, pos, codes}
use Rattle.std.proofs.lemmas.Option.{same_Some}
use Rattle.ctf_types.specs.{declared.ClockType.ClockType, declared.Stream.Stream, declared.Event.Event, Packets.own_names}
use Rattle.tsdl_grammar.specs.declared.tree.Item.{Item}
use Rattle.tsdl_grammar.specs.{Steps.◌>>=◌, IntegerMeaning.Known, StructureMeaning.{scope_meaning, has_member}}
use Rattle.tsdl_grammar.specs.Lookups.{attr, attrs_in, scopes_in, has_parts}
use Rattle.tsdl_grammar.specs.AttributeValues.{natural_value, whole_value, text_value, name_value, uuid_value, flag_value, with_default, optional}
use Rattle.tsdl_grammar.specs.BlockMeaning.{number_or_zero, clock_meaning, stream_meaning, event_meaning, packet_context, event_header, event_context, suits, specific_context, fields_scope}
use Rattle.tsdl_grammar.specs.Laws.{SaysClock, SaysStream, SaysEvent}
use Rattle.tsdl_grammar.proofs.Inversion.{bind_some, provided_some}

pub says_clock : (is : List Item) (t : ClockType) → clock_meaning is ≡ Some t → SaysClock is t
unfolding clock_meaning
says_clock is t e =
    let attrs = attrs_in is in
    let p = provided_some (has_parts [] is) _ t e in
    let a = bind_some (attr (codes "name") attrs >>= name_value) _ t p.1 in
    let b = bind_some (optional uuid_value (attr (codes "uuid") attrs)) _ t a.2 in
    let c = bind_some (optional text_value (attr (codes "description") attrs)) _ t b.2 in
    let d = bind_some (with_default 1000000000 natural_value (attr (codes "freq") attrs)) _ t c.2 in
    let f = bind_some (number_or_zero (codes "precision") attrs) _ t d.2 in
    let g = bind_some (with_default (pos 0) whole_value (attr (codes "offset_s") attrs)) _ t f.2 in
    let h = bind_some (number_or_zero (codes "offset") attrs) _ t g.2 in
    let k = bind_some (with_default false flag_value (attr (codes "absolute") attrs)) _ t h.2 in
    let made : ClockType = record { name = a.0; uuid = b.0; description = c.0; frequency = d.0; precision = f.0; offset_seconds = g.0; offset_cycles = h.0; absolute = k.0 } in
    let says : SaysClock is made = record { once = p.0; name = a.1; uuid = b.1; description = c.1; frequency = d.1; precision = f.1; offset_seconds = g.1; offset_cycles = h.1; absolute = k.1 } in
    subst (SaysClock is) (same_Some made t k.2) says

pub says_stream : (known : Known) (is : List Item) (t : Stream) → stream_meaning known is ≡ Some t → SaysStream known is t
unfolding stream_meaning
says_stream known is t e =
    let scopes = scopes_in is in
    let p = provided_some (has_parts (packet_context ∷ event_header ∷ event_context ∷ []) is) _ t e in
    let a = bind_some (number_or_zero (codes "id") (attrs_in is)) _ t p.1 in
    let b = bind_some (scope_meaning known packet_context (suits own_names) scopes) _ t a.2 in
    let c = bind_some (scope_meaning known event_header (suits (codes "id" ∷ [])) scopes) _ t b.2 in
    let d = bind_some (scope_meaning known event_context (λ m. true) scopes) _ t c.2 in
    let q = provided_some (has_member (codes "packet_size") b.0.members && has_member (codes "content_size") b.0.members) _ t d.2 in
    let made : Stream = record { id = a.0; context = b.0; event_header = c.0; common = d.0; events = [] } in
    let says : SaysStream known is made = record { once = p.0; id = a.1; context = b.1; header = c.1; common = d.1; sizes = q.0 } in
    subst (SaysStream known is) (same_Some made t q.1) says

pub says_event : (known : Known) (is : List Item) (t : ℕ × Event) → event_meaning known is ≡ Some t → SaysEvent known is t.0 t.1
unfolding event_meaning
says_event known is t e =
    let attrs = attrs_in is in let scopes = scopes_in is in
    let p = provided_some (has_parts (specific_context ∷ fields_scope ∷ []) is) _ t e in
    let a = bind_some (attr (codes "name") attrs >>= name_value) _ t p.1 in
    let b = bind_some (number_or_zero (codes "id") attrs) _ t a.2 in
    let c = bind_some (number_or_zero (codes "stream_id") attrs) _ t b.2 in
    let d = bind_some (optional natural_value (attr (codes "loglevel") attrs)) _ t c.2 in
    let f = bind_some (scope_meaning known specific_context (λ m. true) scopes) _ t d.2 in
    let g = bind_some (scope_meaning known fields_scope (λ m. true) scopes) _ t f.2 in
    let made : ℕ × Event = (c.0, record { id = b.0; name = a.0; log_level = d.0; specific = f.0; fields = g.0 }) in
    let says : SaysEvent known is made.0 made.1 = record { once = p.0; name = a.1; id = b.1; stream_id = c.1; log_level = d.1; specific = f.1; fields = g.1 } in
    subst (λ (x : ℕ × Event). SaysEvent known is x.0 x.1) (same_Some made t g.2) says
