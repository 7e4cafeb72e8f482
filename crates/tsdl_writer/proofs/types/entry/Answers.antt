use Rattle.std.proofs.lemmas.Grind.{common_steps}
use Rattle.tsdl_writer.proofs.Printing.{SFits, Some, arith, cases_Bool, high_toks, inl, inr, int_le, ints, number_toks, rules, to_z-of_z, w128, whole_number, last, entry_groups}
use Rattle.tsdl_writer.proofs.types.entry.Goals as goal

pub returns : goal.returns
returns c = last c.token-2.result c.token-2.ensures (λ one rest text e.
    let m = c.args.mapping.now in
    let low : SFits w128 m.low = search rules in let high : SFits w128 m.high = search rules in
    let behind = rw (to_z-of_z high) at (c.in_ok-token.ensures _ text (one rest text e)) in
    let printed = rw (c.as_str-label.ensures, to_z-of_z low) at (c.in_ok-print.ensures _ text behind) in
    elim (cases_Bool (int_le m.high m.low)) [
      | inl t ↦ absurd (grind (arith, ints, common_steps))
      | inr f ↦ rw f (entry_groups m.label (number_toks (whole_number m.low)) (high_toks (Some (whole_number m.high))) rest printed)
    ])
