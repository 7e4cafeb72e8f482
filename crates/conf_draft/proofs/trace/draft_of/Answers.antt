use Rattle.std.proofs.Common.{◌≡◌, ℕ, List, Option, Bool, refl, rules}
use Rattle.std.specs.Prelude.{◌&&◌, Some, not, is_some}
use Rattle.serde_json.specs.Data.{Members}
use Rattle.serde_json.specs.View.{members_view}
use Rattle.ctf_types.specs.declared.ByteOrder.{ByteOrder}
use Rattle.ctf_types.specs.declared.ClockType.{ClockType}
use Rattle.ctf_types.specs.declared.EnvironmentEntry.{EnvironmentEntry}
use Rattle.ctf_types.specs.declared.HeaderFeatures.{HeaderFeatures}
use Rattle.ctf_types.specs.declared.StreamType.{StreamType}
use Rattle.conf_draft.specs.Clocks.{clock_types}
use Rattle.conf_draft.specs.Traces.{trace_order, has_two_orders, asks_number, identifier_of, draft_with, draft_of_type, draft_of_trace, draft_of_root}
use Rattle.conf_draft.proofs.trace.draft_of.Goals as goal

draft_made : (number : Option (List ℕ)) (entries : List EnvironmentEntry) (ms : Members) (h : Option HeaderFeatures) (s : Option (List StreamType))
    (o : ByteOrder) (u : Option (List ℕ)) (clocks : List ClockType) (header : HeaderFeatures) (streams : List StreamType) (lacks two : Bool)
    → o ≡ trace_order ms → u ≡ identifier_of number ms → clocks ≡ clock_types ms → h ≡ Some header → s ≡ Some streams
    → lacks ≡ (not (is_some number) && asks_number ms) → two ≡ has_two_orders ms
    → draft_with number entries ms h s ≡ Some (record { config = record { order = o; uuid = u; environment = entries; clocks = clocks; header = header; streams = streams }; lacks_number = lacks; two_orders = two })
draft_made number entries ms h s o u clocks header streams lacks two a b c d e f g = rw (a, b, c, d, e, f, g) refl

pub returns : goal.returns
unfolding draft_of_root draft_of_trace draft_of_type
returns c =
    let ms = members_view c.unwrap-trace_type.result.now.entries in
    let told : draft_of_type c.args.number c.in_ok-environment.environment ms ≡ Some (record {
      config = record { order = c.byte_order-order.result.0; uuid = c.identifier-uuid.result.0; environment = c.in_ok-environment.environment; clocks = c.in_ok-clocks.clocks; header = c.header-header.result; streams = c.in_ok-streams.streams };
      lacks_number = c.identifier-uuid.result.1;
      two_orders = c.byte_order-order.result.1;
    }) = draft_made _ _ ms _ _ _ _ _ _ _ _ _ c.byte_order-order.ensures.order c.identifier-uuid.ensures.identifier c.in_ok-clocks.ensures (search rules) c.in_ok-streams.ensures c.identifier-uuid.ensures.lacks c.byte_order-order.ensures.two in
    search (rules, told)
