use Rattle.std.proofs.Common.{◌≡◌, inr, false, true, ap, option_map, refl, arith}
use Rattle.command_words.proofs.CommandLineLaws.{bad_uuid}
use Rattle.command_words.proofs.word_values.identifier.Goals as goal

pub returns-in-Err-clause-refused : goal.returns-in-Err-clause-refused
returns-in-Err-clause-refused c = inr (λ u h. bad_uuid c.args.value c.in-Some.text u c.in-Some.is (λ v p. never (c.in-Err.ensures.ok.1 (v, p))) h)
  where
    never : false ≡ true → ⊥
    never e = cc

pub returns-in-Err-clause-told : goal.returns-in-Err-clause-told
returns-in-Err-clause-told c = (c.in-Some.text.now, ap (option_map (λ s. s.now)) c.in-Some.is, c.bad_value.ensures)

pub bad_value-requires : goal.bad_value-requires
bad_value-requires c = (2, omega arith, refl)
