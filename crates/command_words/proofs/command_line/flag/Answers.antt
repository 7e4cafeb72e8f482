use Rattle.std.proofs.Common.{◌≡◌, ◌∙◌, inr, Bool, true, false, List, sym, codes, if◌then◌else◌}
use Rattle.std.proofs.lemmas.Option.{same_Some}
use Rattle.clap.specs.Words.{found_of, rows_of, Row, Text}
use Rattle.command_words.specs.CommandLine.{HasWord, HasFlag}
use Rattle.command_words.proofs.CommandLineLaws.{blame_on, blamed_value}
use Rattle.command_words.proofs.command_line.flag.Goals as goal

pub returns-in_err-word-clause-blamed : goal.returns-in_err-word-clause-blamed
returns-in_err-word-clause-blamed c =
    blame_on c.from_residual.result c.in_err-word.field-0.0 (λ (rows : List Row) word. HasWord rows c.args.id.now word) (λ (rows : List Row) (b : Bool). HasFlag rows c.args.id.now b)
    (rows_of (found_of c.args.found.now)) c.from_residual.ensures.1 c.in_err-word.ensures.blamed
    (λ others b h. (record { ref_ptr = c.args.id.ref_ptr; now = if b then codes "true" else codes "false" }, h))

neither : (word : Text) → (word ≡ codes "true" → ⊥) → (word ≡ codes "false" → ⊥) → (b : Bool) → word ≡ (if b then codes "true" else codes "false") → ⊥
neither word on off true h = on h
neither word on off false h = off h

pub returns-in_default-clause-blamed : goal.returns-in_default-clause-blamed
returns-in_default-clause-blamed c =
    let word = c.in_ok-word.ensures.has in
    blamed_value c.bad_value.result (rows_of (found_of c.args.found.now)) c.args.id.now c.in_ok-word.word.now (λ (b : Bool). c.in_ok-word.word.now ≡ (if b then codes "true" else codes "false"))
    (λ (rows : List Row) (b : Bool). HasFlag rows c.args.id.now b) word c.bad_value.ensures (inr (neither c.in_ok-word.word.now c.in_default.not-true c.in_default.not-false))
    (λ others b alike has. (b, same_Some _ _ (sym word ∙ sym alike.0 ∙ has)))
