use Rattle.std.proofs.Common.{◌≡◌, ◌∙◌, ◌++◌, ℕ, List, ap, append_assoc, codes, inr, string_bytes, sym}
use Rattle.std.proofs.lemmas.Result.{on_ok_weaker}
use Rattle.trace_text.specs.declared.script_fault.ScriptFaultKind.{ScriptFaultKind}
use Rattle.trace_text.specs.ScriptFaultWords.{kind_words}
use Rattle.trace_commands.specs.ScriptLines.{TellsKind}
use Rattle.trace_commands.proofs.script_entry.push_wrong.Goals as goal

-- more behind the words of a kind
told : (kind : ScriptFaultKind) (front said whole : List ℕ) → said ≡ front ++ codes ": " ++ kind_words kind → (more : List ℕ) × (whole ≡ said ++ more) → TellsKind kind whole
told kind front said whole here behind = inr (front, behind.0, behind.1 ∙ ap (λ (w : List ℕ). w ++ behind.0) here)

pub returns : goal.returns
returns c =
    let front = string_bytes c.push_blamed.new.said in
    let words = ap (λ (w : List ℕ). front ++ w) (c.as_str.ensures.value ∙ c.in_ok-kind_words.ensures.ok) in
    on_ok_weaker c.push_known.result
    (told c.args.kind front _ _ (c.in_ok-push_str.ensures.bytes ∙ words ∙ sym (append_assoc front (codes ": ") (kind_words c.args.kind)))) c.push_known.ensures
