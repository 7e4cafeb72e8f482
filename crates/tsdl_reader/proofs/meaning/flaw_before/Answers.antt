use native.Mathlib.Omega.{arith}
use Rattle.std.proofs.Common.{rules, ◌≡◌, ◌<◌, ◌≤◌, ◌^◌, ◌++◌, length, take, sym, ap, ◌∙◌, inl, length-append}
use Rattle.std.proofs.lemmas.List.{length-take-le}
use Rattle.tsdl_grammar.specs.Spelling.{text_toks}
use Rattle.tsdl_grammar.specs.Fronts.{atoms_in}
use Rattle.tsdl_grammar.proofs.AtomsAhead.{few}
use Rattle.tsdl_flaw.specs.Lengths.{most}
use Rattle.tsdl_flaw.proofs.TextStops.{fault_stands}
use Rattle.tsdl_reader.proofs.meaning.flaw_before.Goals as goal

pub returns-in-Fault : goal.returns-in-Fault
returns-in-Fault c =
    let meant = atoms_in c.args.text.now in
    let more = atoms_in c.deref.result.now in
    let whole : take c.args.kept meant ++ more ≡ text_toks c.deref-2.result.now = sym c.with_more.ensures ∙ c.in-Ok.ensures.found ∙ ap text_toks (sym c.deref-2.ensures.value) in
    let small : length c.args.text.now < 2 ^ 63 = search rules in
    let bound : length (text_toks c.deref-2.result.now) ≤ most =
    let v = c.in_ok-more.more in let k = v.ok in let s = v.small in let l = c.deref.ensures.len in
    omega (arith, ap length whole, length-append (take c.args.kept meant) more, length-take-le c.args.kept meant c.requires, few c.args.text.now, few c.deref.result.now, c.requires) in
    (omega (arith, c.if-first_flaw-kept.true, c.requires), fault_stands meant more (text_toks c.deref-2.result.now) c.args.kept c.in-Fault.fault whole c.requires c.if-first_flaw-kept-2.true (inl c.if-first_flaw-kept.true) (c.in-Fault.ensures.stops bound))
