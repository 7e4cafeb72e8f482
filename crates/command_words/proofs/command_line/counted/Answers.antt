use Rattle.std.proofs.Common.{◌∙◌, List, ℕ, subst, sym}
use Rattle.std.proofs.lemmas.Option.{same_Some}
use Rattle.clap.specs.Words.{found_of, rows_of, Row, Text}
use Rattle.command_words.specs.CommandLine.{HasWord, HasNumber, SaysNumber}
use Rattle.command_words.proofs.CommandLineLaws.{blame_on, blamed_value, of_refusal}
use Rattle.command_words.proofs.command_line.counted.Goals as goal

pub returns-in_err-word-clause-blamed : goal.returns-in_err-word-clause-blamed
returns-in_err-word-clause-blamed c =
    blame_on c.from_residual.result c.in_err-word.field-0.0 (λ (rows : List Row) word. HasWord rows c.args.id.now word) (λ (rows : List Row) (n : ℕ). HasNumber rows c.args.id.now c.args.most n)
    (rows_of (found_of c.args.found.now)) c.from_residual.ensures.1 c.in_err-word.ensures.blamed (λ others n h. (record { ref_ptr = c.args.id.ref_ptr; now = h.0 }, h.1))

pub returns-clause-blamed : goal.returns-clause-blamed
returns-clause-blamed c =
    let word = c.in_ok-word.ensures.has in
    of_refusal c.number.result (λ fault refused told.
    blamed_value fault (rows_of (found_of c.args.found.now)) c.args.id.now c.in_ok-word.word.now (SaysNumber c.in_ok-word.word.now c.args.most)
    (λ (rows : List Row) (n : ℕ). HasNumber rows c.args.id.now c.args.most n) word told refused
    (λ others n alike has. (n, subst (λ (text : Text). SaysNumber text c.args.most n) (same_Some _ _ (sym has.1 ∙ alike.0 ∙ word)) has.2)))
    c.number.ensures.refused c.number.ensures.told
