-- What an entry of the list of events says is what it is read as, and its fault is what it is refused for.
use Rattle.std.proofs.Common.{◌≡◌, ℕ, Option, Some, None, Ok, List, refl, ap, ◌∙◌, sym, ◌⊎◌, inl, inr}
use Rattle.std.specs.Prelude.{is_some, option_and_then, codes}
use Rattle.std.specs.Result.{result_err}
use Rattle.serde_json.specs.Data.{Data, Members}
use Rattle.serde_json.specs.Find.{as_object}
use Rattle.ctf_types.specs.declared.Config.{Config}
use Rattle.ctf_types.specs.declared.EventType.{EventType}
use Rattle.ctf_types.specs.declared.StreamType.{StreamType}
use Rattle.trace_stack.specs.declared.event.Act.{Act}
use Rattle.trace_stack.specs.declared.event.Event.{Event}
use Rattle.trace_text.specs.declared.script.ScriptStream.{ScriptStream}
use Rattle.trace_text.specs.declared.script_fault.ScriptFaultKind.TheVariants.{Shape, NoSuchStream, NoSuchEvent, BadValue}
use Rattle.trace_text.specs.declared.script_object.ScriptObject.TheVariants.{Tracing}
use Rattle.trace_text.specs.ScriptEntries.{SaysEvent, SaysDoing, SaysTracing, has_only, text_in, list_in, type_named, script_stream_named, event_named, doing_in}
use Rattle.trace_text.specs.ScriptFaults.{lowest, tracing_tests, event_tests, tests_of_event, event_fault, stream_in, type_in, event_in}
use Rattle.trace_text.specs.ScriptReading.{entry_reading, event_reading, act_of_event, doing_reading, tracing_reading, tracing_made}
use Rattle.trace_text.specs.ScriptValues.{members_values}
use Rattle.trace_text.proofs.StepLaws.{same_ok, went_well, passed, goes_well, passes, judged, test_judged, all_passed, then_says, entry_judged, is_object, values_judged}

doing_says : (ss : List ScriptStream) (ms : Members) (act : Act) (name : List ℕ) (e : Event) → doing_in ms ≡ Some (act, name)
    → doing_reading ss act name ≡ Ok e → SaysDoing ss ms e
unfolding doing_reading
doing_says ss ms act name e doing h =
    let stream = went_well NoSuchStream (script_stream_named name 0 ss) _ e h in
    let made = same_ok _ e stream.2 in
    record {
      name = name;
      doing = doing ∙ ap (λ (x : Event). Some (x.act, name)) made;
      stream = stream.0.1;
      there = stream.1 ∙ ap (λ (x : Event). Some (x.stream, stream.0.1)) made;
    }

doing_only : (ss : List ScriptStream) (ms : Members) (e : Event) (p : SaysDoing ss ms e) → doing_reading ss e.act p.name ≡ Ok e
unfolding doing_reading
doing_only ss ms e p = goes_well NoSuchStream (script_stream_named p.name 0 ss) (e.stream, p.stream) _ (Ok e) p.there refl

tracing_says : (c : Config) (ss : List ScriptStream) (ms : Members) (e : Event) → doing_in ms ≡ None → tracing_reading c ss ms ≡ Ok e → SaysTracing c ss ms e
unfolding tracing_reading tracing_made
tracing_says c ss ms e no_doing h =
    let names = passed Shape (has_only Tracing ms) _ e h in
    then_says (SaysTracing c ss ms e) Shape (text_in (codes "trace") ms) _ e names.1 (λ name name_is h1.
    then_says (SaysTracing c ss ms e) Shape (text_in (codes "event") ms) _ e h1 (λ event_name event_name_is h2.
    then_says (SaysTracing c ss ms e) Shape (list_in (codes "common") ms) _ e h2 (λ common common_is h3.
    then_says (SaysTracing c ss ms e) Shape (list_in (codes "specific") ms) _ e h3 (λ specific specific_is h4.
    then_says (SaysTracing c ss ms e) Shape (list_in (codes "payload") ms) _ e h4 (λ payload payload_is h5.
    then_says (SaysTracing c ss ms e) NoSuchStream (script_stream_named name 0 ss) _ e h5 (λ stream stream_is h6.
    then_says (SaysTracing c ss ms e) NoSuchStream (type_named c stream.1.type_name) _ e h6 (λ type type_is h7.
    then_says (SaysTracing c ss ms e) NoSuchEvent (event_named event_name 0 type.events) _ e h7 (λ event event_is h8.
    then_says (SaysTracing c ss ms e) BadValue (members_values type.common.members common) _ e h8 (λ commons commons_is h9.
    then_says (SaysTracing c ss ms e) BadValue (members_values event.1.specific.members specific) _ e h9 (λ specifics specifics_is h10.
    then_says (SaysTracing c ss ms e) BadValue (members_values event.1.payload.members payload) _ e h10 (λ payloads payloads_is h11.
    let made = same_ok _ e h11 in
    record {
      no_doing = no_doing;
      no_others = names.0;
      name = name;
      named = name_is;
      event_name = event_name;
      event_is_named = event_name_is;
      common = common;
      common_listed = common_is;
      specific = specific;
      specific_listed = specific_is;
      payload = payload;
      payload_listed = payload_is;
      stream = stream.1;
      stream_there = stream_is ∙ ap (λ (x : Event). Some (x.stream, stream.1)) made;
      type = type;
      type_there = type_is;
      number = event.0;
      event = event.1;
      event_there = event_is;
      args = record { common = commons; specific = specifics; payload = payloads };
      common_values = commons_is;
      specific_values = specifics_is;
      payload_values = payloads_is;
      act = sym (ap (λ (x : Event). x.act) made);
    })))))))))))

tracing_only : (c : Config) (ss : List ScriptStream) (ms : Members) (e : Event) → SaysTracing c ss ms e → tracing_reading c ss ms ≡ Ok e
unfolding tracing_reading tracing_made
tracing_only c ss ms e p =
    passes Shape (has_only Tracing ms) _ (Ok e) p.no_others
    (goes_well Shape (text_in (codes "trace") ms) p.name _ (Ok e) p.named
    (goes_well Shape (text_in (codes "event") ms) p.event_name _ (Ok e) p.event_is_named
    (goes_well Shape (list_in (codes "common") ms) p.common _ (Ok e) p.common_listed
    (goes_well Shape (list_in (codes "specific") ms) p.specific _ (Ok e) p.specific_listed
    (goes_well Shape (list_in (codes "payload") ms) p.payload _ (Ok e) p.payload_listed
    (goes_well NoSuchStream (script_stream_named p.name 0 ss) (e.stream, p.stream) _ (Ok e) p.stream_there
    (goes_well NoSuchStream (type_named c p.stream.type_name) p.type _ (Ok e) p.type_there
    (goes_well NoSuchEvent (event_named p.event_name 0 p.type.events) (p.number, p.event) _ (Ok e) p.event_there
    (goes_well BadValue (members_values p.type.common.members p.common) p.args.common _ (Ok e) p.common_values
    (goes_well BadValue (members_values p.event.specific.members p.specific) p.args.specific _ (Ok e) p.specific_values
    (goes_well BadValue (members_values p.event.payload.members p.payload) p.args.payload _ (Ok e) p.payload_values
    (ap (λ (a : Act). Ok (record { stream = e.stream; act = a })) (sym p.act)))))))))))))

says_one : (c : Config) (ss : List ScriptStream) (ms : Members) (e : Event) (o : Option (Act × List ℕ)) → doing_in ms ≡ o → act_of_event c ss ms o ≡ Ok e
    → SaysDoing ss ms e ⊎ SaysTracing c ss ms e
says_one c ss ms e None is h = inr (tracing_says c ss ms e is h)
says_one c ss ms e (Some doing) is h = inl (doing_says ss ms doing.0 doing.1 e is h)

pub event_says : (c : Config) (ss : List ScriptStream) (d : Data) (e : Event) → entry_reading (event_reading c ss) d ≡ Ok e → SaysEvent c ss d e
event_says c ss d e h =
    let here = went_well Shape (as_object d) (event_reading c ss) e h in
    record { properties = here.0; an_object = is_object d here.0 here.1; said = says_one c ss here.0 e (doing_in here.0) refl here.2 }

reads_one : (c : Config) (ss : List ScriptStream) (ms : Members) (e : Event) → SaysDoing ss ms e ⊎ SaysTracing c ss ms e → event_reading c ss ms ≡ Ok e
reads_one c ss ms e (inl p) = ap (act_of_event c ss ms) p.doing ∙ doing_only ss ms e p
reads_one c ss ms e (inr p) = ap (act_of_event c ss ms) p.no_doing ∙ tracing_only c ss ms e p

pub event_only : (c : Config) (ss : List ScriptStream) (d : Data) (e : Event) → SaysEvent c ss d e → entry_reading (event_reading c ss) d ≡ Ok e
event_only c ss d e p = goes_well Shape (as_object d) p.properties (event_reading c ss) (Ok e) (ap as_object p.an_object) (reads_one c ss p.properties e p.said)

tracing_judged : (c : Config) (ss : List ScriptStream) (ms : Members) → lowest (tracing_tests c ss ms) ≡ result_err (tracing_reading c ss ms)
unfolding tracing_reading tracing_made
tracing_judged c ss ms =
    test_judged Shape (has_only Tracing ms) _ _
    (judged Shape (text_in (codes "trace") ms) _ _ _ refl (λ name name_is.
    judged Shape (text_in (codes "event") ms) _ _ _ refl (λ event_name event_name_is.
    judged Shape (list_in (codes "common") ms) _ _ _ refl (λ common common_is.
    judged Shape (list_in (codes "specific") ms) _ _ _ refl (λ specific specific_is.
    judged Shape (list_in (codes "payload") ms) _ _ _ refl (λ payload payload_is.
    judged NoSuchStream (script_stream_named name 0 ss) _ _ _ (ap (λ o. is_some (option_and_then (λ (n : List ℕ). script_stream_named n 0 ss) o)) name_is) (λ stream stream_is.
    let stream_there : stream_in ss ms ≡ Some stream = ap (option_and_then (λ (n : List ℕ). script_stream_named n 0 ss)) name_is ∙ stream_is in
    judged NoSuchStream (type_named c stream.1.type_name) _ _ _ (ap (λ o. is_some (option_and_then (λ (s : ℕ × ScriptStream). type_named c s.1.type_name) o)) stream_there) (λ type type_is.
    let type_there : type_in c ss ms ≡ Some type = ap (option_and_then (λ (s : ℕ × ScriptStream). type_named c s.1.type_name)) stream_there ∙ type_is in
    let event_at : event_in (type_in c ss ms) ms ≡ event_named event_name 0 type.events =
    ap (λ o. event_in o ms) type_there ∙ ap (option_and_then (λ (n : List ℕ). event_named n 0 type.events)) event_name_is in
    judged NoSuchEvent (event_named event_name 0 type.events) _ _ _ (ap (λ (o : Option (ℕ × EventType)). is_some o) event_at) (λ event event_is.
    judged BadValue (members_values type.common.members common) _ _ _
    (values_judged (λ (t : StreamType). t.common.members) (type_in c ss ms) type (codes "common") ms common type_there common_is) (λ commons commons_is.
    judged BadValue (members_values event.1.specific.members specific) _ _ _
    (values_judged (λ (e : ℕ × EventType). e.1.specific.members) (event_in (type_in c ss ms) ms) event (codes "specific") ms specific (event_at ∙ event_is) specific_is) (λ specifics specifics_is.
    judged BadValue (members_values event.1.payload.members payload) _ _ _
    (values_judged (λ (e : ℕ × EventType). e.1.payload.members) (event_in (type_in c ss ms) ms) event (codes "payload") ms payload (event_at ∙ event_is) payload_is) (λ payloads payloads_is.
    all_passed))))))))))))

one_judged : (c : Config) (ss : List ScriptStream) (ms : Members) (o : Option (Act × List ℕ)) → lowest (tests_of_event c ss ms o) ≡ result_err (act_of_event c ss ms o)
unfolding doing_reading
one_judged c ss ms None = tracing_judged c ss ms
one_judged c ss ms (Some doing) = judged NoSuchStream (script_stream_named doing.1 0 ss) _ _ _ refl (λ stream stream_is. all_passed)

pub event_judged : (c : Config) (ss : List ScriptStream) (d : Data) → event_fault c ss d ≡ result_err (entry_reading (event_reading c ss) d)
event_judged c ss d = entry_judged (event_tests c ss) (event_reading c ss) d (λ ms. one_judged c ss ms (doing_in ms))
