use Rattle.tsdl_writer.proofs.TreeWords.{SFits, rules, to_z-of_z, w128, w64}
use Rattle.tsdl_writer.proofs.blocks.fact.Goals as goal

pub returns-in-Whole : goal.returns-in-Whole
returns-in-Whole c =
    let fits : SFits w64 c.in-Whole.n = search rules in let wide : SFits w128 c.from.result = search rules in
    record { prints = rw c.in-Whole.is (rw (c.as_str-name.ensures, to_z-of_z wide, c.from.ensures, to_z-of_z fits) at c.attribute.ensures); held = rw c.in-Whole.is fits }
