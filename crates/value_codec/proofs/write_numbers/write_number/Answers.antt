use Rattle.value_codec.proofs.WritingLaws.{Writes-lie}
use Rattle.value_codec.proofs.write_numbers.write_number.Goals as goal

pub returns-clause-lies : goal.returns-clause-lies
returns-clause-lies c =
    rw (← c.align.ensures.is, ← c.size.ensures.is) (Writes-lie c.write_aligned.ensures.writes)
