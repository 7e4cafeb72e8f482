use Rattle.std.proofs.Common.{◌≡◌, drop, [], option_map}
use Rattle.serde_json.specs.View.{items_view}
use Rattle.ctf_types.specs.FieldTypes.{chain_of}
use Rattle.trace_text.specs.ScriptValues.{elements_of}
use Rattle.trace_text.proofs.script_value.+value.Given as goal

-- the values of the elements that are left go behind those that were read
abbrev pub invariant-element_values-loop-item : goal.invariant-element_values-loop-item
invariant-element_values-loop-item l =
    elements_of (option_map (λ t. chain_of t.now) l.element) [] (items_view l.items.items)
    ≡ elements_of (option_map (λ t. chain_of t.now) l.element) l.values (items_view (drop l.item-index l.items.items))
