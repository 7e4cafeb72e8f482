use Rattle.std.proofs.Common.{◌≡◌, ◌++◌, ◌∙◌, ◌∷◌, ◌+◌, ap, append_assoc, codes, drop, map, rules, sym}
use Rattle.std.proofs.{Output.{has_written_append, has_written_of_eq}, lemmas.List.{drop_all, drop_more}}
use Rattle.std.specs.List.{flat_map}
use Rattle.conf_tree.specs.{FaultWords.further_place, Flaw.place_of}
use Rattle.conf_tree.proofs.fault.write_way.Goals as goal

pub loop-step-preserved : goal.loop-step-preserved
loop-step-preserved g c = λ plain.
    let so_far = c.loop-step.invariant plain in
    let step = c.step-item.result in
    let others = c.in-Some.others.now in
    let i = c.loop-step.step-index in
    let more : drop i others ≡ step ∷ drop (i + 1) others = drop_more others i step c.loop-step-test.true ∙ ap (λ x. x ∷ drop (i + 1) others) (sym c.step-item.is) in
    let further = further_place (place_of step) in
    let rest = flat_map further_place (map place_of (drop (i + 1) others)) in (
      so_far.0 ++ further,
      has_written_append _ _ _ _ _ _ so_far.1 (search rules),
      append_assoc so_far.0 further (rest ++ codes ": ") ∙ ap (λ t. so_far.0 ++ t) (sym (append_assoc further rest (codes ": ")))
          ∙ ap (λ l. so_far.0 ++ (flat_map further_place (map place_of l) ++ codes ": ")) (sym more) ∙ so_far.2,
    )

pub returns : goal.returns
returns g c = λ plain ok.
    let so_far = c.loop-step.invariant plain in
    let none = drop_all c.loop-step.step-index c.in-Some.others.now c.loop-step-test.false in
    has_written_of_eq _ _ _ _ _ (rw none at so_far.2) (has_written_append _ _ _ _ _ _ so_far.1 (search rules))
