-- What `trace` answers, step by step.
use Rattle.std.proofs.Common.{◌≡◌, inl, inr, ℕ, zero, suc, ◌+◌, List, [], ◌∷◌, ◌++◌, None, Some, take, sym, subst, ap, ◌∙◌, append_assoc, append-nil, add-one, arith}
use Rattle.std.proofs.lemmas.Option.{same_Some}
use Rattle.std.specs.Prelude.{slice_get}
use Rattle.trace_stack.specs.declared.answer.Answer.{Answer}
use Rattle.command_words.specs.declared.commands.Command.{Command}
use Rattle.command_words.specs.declared.commands.Command.TheVariants.{FirstPath, Check, Metadata, Trace, Read}
use Rattle.command_words.specs.declared.commands.TraceCommand.{TraceCommand}
use Rattle.trace_commands.specs.declared.failure.Failure.{Failure}
use Rattle.trace_commands.specs.AnswerLines.{answer_line, answer_lines}
use Rattle.command_words.specs.CommandLine.{Asks, AsksBy}
use Rattle.trace_commands.specs.Reading.{IsPathIn}
use Rattle.trace_commands.specs.Running.{HasSizes}
use Rattle.trace_commands.specs.Telling.{FailsAt}
use Rattle.trace_commands.specs.Tracing.{IsTracePath}
use Rattle.trace_commands.proofs.TellingLaws.{fails_weaker}

-- one line more
lines_suc : (n : ℕ) (answers : List Answer) (i : ℕ) (a : Answer) → slice_get answers i ≡ Some a
    → answer_lines n (take (suc i) answers) ≡ answer_lines n (take i answers) ++ answer_line (n + i) a
lines_suc n [] i a at = absurd (let k : None ≡ Some a = at in cc)
lines_suc n (x ∷ answers) zero a at =
    let same : x ≡ a = same_Some x a at in
    append-nil (answer_line n x) ∙ ap (λ y. answer_line n y) same ∙ ap (λ m. answer_line m a) (let e : n ≡ n + 0 = omega arith in e)
lines_suc n (x ∷ answers) (suc i) a at =
    ap (λ l. answer_line n x ++ l) (lines_suc (suc n) answers i a at)
    ∙ sym (append_assoc (answer_line n x) (answer_lines (suc n) (take i answers)) (answer_line (suc n + i) a))
    ∙ ap (λ m. (answer_line n x ++ answer_lines (suc n) (take i answers)) ++ answer_line m a) (let e : suc n + i ≡ n + suc i = omega arith in e)

pub lines_more : (answers : List Answer) (i : ℕ) (a : Answer) → slice_get answers i ≡ Some a
    → answer_lines 0 (take (i + 1) answers) ≡ answer_lines 0 (take i answers) ++ answer_line i a
lines_more answers i a at =
    rw add-one (lines_suc 0 answers i a at ∙ ap (λ m. answer_lines 0 (take i answers) ++ answer_line m a) (let e : 0 + i ≡ i = omega arith in e))

-- the sizes that words ask for
sizes_by : (name : List ℕ) (rows : List _) (c : Command) → AsksBy name rows c → HasSizes c
sizes_by name rows FirstPath h = tt
sizes_by name rows (Check path) h = tt
sizes_by name rows (Metadata m) h = tt
sizes_by name rows (Trace t) h = record {
  some_bytes = h.1.packet.2.least;
  most_bytes = h.1.packet.2.within;
  some_buffers = h.1.buffers.2.least;
  most_buffers = h.1.buffers.2.within;
}
sizes_by name rows (Read r) h = tt

pub asked_sizes : (words : List (List ℕ)) (c : Command) → Asks words c → HasSizes c
asked_sizes [] c h = subst HasSizes (sym h) tt
asked_sizes (word ∷ words) c h = sizes_by h.name h.rows c h.asks

-- ---- what fails of a command to trace

pub config_fails : (t : TraceCommand) (failure : Failure) → FailsAt (λ path. path ≡ t.config.now) failure → FailsAt (IsTracePath t) failure
config_fails t failure at = fails_weaker (λ path. path ≡ t.config.now) (IsTracePath t) failure (λ path is. inl is) at

pub script_fails : (t : TraceCommand) (failure : Failure) → FailsAt (λ path. path ≡ t.script.now) failure → FailsAt (IsTracePath t) failure
script_fails t failure at = fails_weaker (λ path. path ≡ t.script.now) (IsTracePath t) failure (λ path is. inr (inl is)) at

pub folder_fails : (t : TraceCommand) (failure : Failure) → FailsAt (λ path. path ≡ t.folder.now) failure → FailsAt (IsTracePath t) failure
folder_fails t failure at = fails_weaker (λ path. path ≡ t.folder.now) (IsTracePath t) failure (λ path is. inr (inr (inl is))) at

pub file_fails : (t : TraceCommand) (folder : List ℕ) (failure : Failure) → folder ≡ t.folder.now → FailsAt (IsPathIn folder) failure → FailsAt (IsTracePath t) failure
file_fails t folder failure same at =
    fails_weaker (IsPathIn folder) (IsTracePath t) failure (λ path is. inr (inr (subst (λ (f : List ℕ). IsPathIn f path) same is))) at
