use Rattle.std.proofs.Common.{rules, ◌+◌, ◌*◌, ◌<◌, ◌++◌, List, ℕ, ap, sym, length, arith}
use Rattle.std.specs.Prelude.{codes}
use Rattle.ctf_types.specs.Datum.{depth, depth_of}
use Rattle.ctf_types.specs.FieldTypes.{chain_of}
use Rattle.ctf_types.specs.Values.{datum_of}
use Rattle.trace_text.specs.PrintedTexts.{string_text, listed}
use Rattle.trace_text.specs.PrintedValues.{value_text}
use Rattle.trace_text.proofs.Listing.{elements_more, element_depth, texts_are}
use Rattle.trace_text.proofs.Saying.{more, said}
use Rattle.trace_text.proofs.printing_values.+say_value.Goals as goal

pub say_elements-say_value-requires : goal.say_elements-say_value-requires
say_elements-say_value-requires g t c =
    let held = c.as_slice-held.result.now in
    let v = c.index-held-index.result in
    let within : c.loop-index.index < length held = omega (arith, c.loop-index-test.true) in
    let smaller : 3 * depth (datum_of v) < 3 * depth_of c.args.values.now + 1 =
    omega (arith, element_depth held c.args.values.now c.loop-index.index v c.as_slice-held.ensures within c.index-held-index.is) in
    search rules

pub say_elements-loop-index-preserved : goal.say_elements-loop-index-preserved
say_elements-loop-index-preserved g t c =
    let held = c.as_slice-held.result.now in
    let within : c.loop-index.index < length held = omega (arith, c.loop-index-test.true) in
    said _
    (elements_more (chain_of c.args.leaf.now).leaf held c.args.values.now c.loop-index.index c.index-held-index.result c.as_slice-held.ensures within c.index-held-index.is)
    (more (more c.loop-index.invariant c.say_comma.ensures) c.say_value.ensures)

pub say_list-returns : goal.say_list-returns
say_list-returns g t c = more (more c.say.ensures c.say_elements.ensures) c.say-2.ensures

pub say_value-returns-in-Text : goal.say_value-returns-in-Text
unfolding value_text
say_value-returns-in-Text g t c = rw c.in-Text.is (said _ (ap string_text c.as_slice.ensures) c.say_string.ensures)

pub say_value-returns-in-List : goal.say_value-returns-in-List
unfolding value_text
say_value-returns-in-List g t c =
    rw c.in-List.is
    (said _ (ap (λ (w : List (List ℕ)). codes "[" ++ listed w ++ codes "]") (sym (texts_are (chain_of c.args.leaf.now).leaf c.in-List.values))) c.say_list.ensures)
