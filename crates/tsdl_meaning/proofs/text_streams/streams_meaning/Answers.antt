use Rattle.std.proofs.Common.{sym, ◌∙◌}
use Rattle.tsdl_grammar.proofs.Inversion.{by_number-rises}
use Rattle.tsdl_meaning.proofs.text_streams.streams_meaning.Goals as goal

pub streams_with-requires : goal.streams_with-requires
streams_with-requires c = by_number-rises (λ s. s.id) c.in-Some.meaning c.in-Some-by_number.meaning (sym c.by_number.ensures ∙ c.in-Some-by_number.is)
