-- What an entry of the list of streams says is what it is read as, and its fault is what it is refused for.
use Rattle.std.proofs.Common.{◌≡◌, Option, Some, Ok, refl, ap, ◌∙◌, sym}
use Rattle.std.specs.Prelude.{is_some, option_and_then, codes}
use Rattle.std.specs.Result.{result_err}
use Rattle.serde_json.specs.Data.{Data, Items, Members}
use Rattle.serde_json.specs.Find.{as_object}
use Rattle.ctf_types.specs.declared.Config.{Config}
use Rattle.ctf_types.specs.declared.StreamType.{StreamType}
use Rattle.trace_text.specs.declared.script.ScriptStream.{ScriptStream}
use Rattle.trace_text.specs.declared.script_fault.ScriptFaultKind.TheVariants.{Shape, NoSuchStream, BadValue}
use Rattle.trace_text.specs.declared.script_object.ScriptObject.TheVariants.{Stream}
use Rattle.trace_text.specs.ScriptEntries.{SaysStream, has_only, text_in, list_in, readings_of, type_named}
use Rattle.trace_text.specs.ScriptFaults.{lowest, stream_tests, stream_fault, stream_type_in}
use Rattle.trace_text.specs.ScriptReading.{entry_reading, stream_reading, stream_made}
use Rattle.trace_text.specs.ScriptValues.{members_values}
use Rattle.trace_text.proofs.StepLaws.{same_ok, then_says, passed, goes_well, passes, found_then, judged, test_judged, all_passed, entry_judged, is_object, values_judged}

pub stream_says : (c : Config) (d : Data) (s : ScriptStream) → entry_reading (stream_reading c) d ≡ Ok s → SaysStream c d s
unfolding stream_reading stream_made
stream_says c d s h =
    then_says (SaysStream c d s) Shape (as_object d) (stream_reading c) s h (λ ms ms_is h0.
    let names = passed Shape (has_only Stream ms) _ s h0 in
    then_says (SaysStream c d s) Shape (text_in (codes "name") ms) _ s names.1 (λ name name_is h1.
    then_says (SaysStream c d s) Shape (text_in (codes "type") ms) _ s h1 (λ type_name type_name_is h2.
    then_says (SaysStream c d s) Shape (list_in (codes "extras") ms) _ s h2 (λ items items_is h3.
    then_says (SaysStream c d s) Shape (list_in (codes "clock") ms) _ s h3 (λ readings readings_is h4.
    then_says (SaysStream c d s) Shape (readings_of readings) _ s h4 (λ clock clock_is h5.
    then_says (SaysStream c d s) NoSuchStream (type_named c type_name) _ s h5 (λ type type_is h6.
    then_says (SaysStream c d s) BadValue (members_values type.extras.members items) _ s h6 (λ values values_is h7.
    let made = same_ok _ s h7 in
    record {
      properties = ms;
      an_object = is_object d ms ms_is;
      no_others = names.0;
      name = name_is ∙ ap (λ (x : ScriptStream). Some x.name) made;
      type_name = type_name_is ∙ ap (λ (x : ScriptStream). Some x.type_name) made;
      clock = ap (option_and_then readings_of) readings_is ∙ clock_is ∙ ap (λ (x : ScriptStream). Some x.clock) made;
      items = items;
      listed = items_is;
      type = type;
      there = ap (λ (x : ScriptStream). type_named c x.type_name) (sym made) ∙ type_is;
      extras = values_is ∙ ap (λ (x : ScriptStream). Some x.extras) made;
    }))))))))

pub stream_only : (c : Config) (d : Data) (s : ScriptStream) → SaysStream c d s → entry_reading (stream_reading c) d ≡ Ok s
unfolding stream_reading stream_made
stream_only c d s p =
    let clock = found_then (list_in (codes "clock") p.properties) readings_of s.clock p.clock in
    goes_well Shape (as_object d) p.properties (stream_reading c) (Ok s) (ap as_object p.an_object)
    (passes Shape (has_only Stream p.properties) _ (Ok s) p.no_others
    (goes_well Shape (text_in (codes "name") p.properties) s.name _ (Ok s) p.name
    (goes_well Shape (text_in (codes "type") p.properties) s.type_name _ (Ok s) p.type_name
    (goes_well Shape (list_in (codes "extras") p.properties) p.items _ (Ok s) p.listed
    (goes_well Shape (list_in (codes "clock") p.properties) clock.0 _ (Ok s) clock.1
    (goes_well Shape (readings_of clock.0) s.clock _ (Ok s) clock.2
    (goes_well NoSuchStream (type_named c s.type_name) p.type _ (Ok s) p.there
    (goes_well BadValue (members_values p.type.extras.members p.items) s.extras _ (Ok s) p.extras refl))))))))

tests_judged : (c : Config) (ms : Members) → lowest (stream_tests c ms) ≡ result_err (stream_reading c ms)
unfolding stream_reading stream_made
tests_judged c ms =
    test_judged Shape (has_only Stream ms) _ _
    (judged Shape (text_in (codes "name") ms) _ _ _ refl (λ name name_is.
    judged Shape (text_in (codes "type") ms) _ _ _ refl (λ type_name type_name_is.
    judged Shape (list_in (codes "extras") ms) _ _ _ refl (λ extras extras_is.
    judged Shape (list_in (codes "clock") ms) _ _ _ refl (λ readings readings_is.
    judged Shape (readings_of readings) _ _ _ (ap (λ (o : Option Items). is_some (option_and_then readings_of o)) readings_is) (λ clock clock_is.
    judged NoSuchStream (type_named c type_name) _ _ _ (ap (λ o. is_some (option_and_then (type_named c) o)) type_name_is) (λ type type_is.
    judged BadValue (members_values type.extras.members extras) _ _ _
    (values_judged (λ (t : StreamType). t.extras.members) (stream_type_in c ms) type (codes "extras") ms extras (ap (option_and_then (type_named c)) type_name_is ∙ type_is) extras_is) (λ values values_is.
    all_passed))))))))

pub stream_judged : (c : Config) (d : Data) → stream_fault c d ≡ result_err (entry_reading (stream_reading c) d)
stream_judged c d = entry_judged (stream_tests c) (stream_reading c) d (tests_judged c)
