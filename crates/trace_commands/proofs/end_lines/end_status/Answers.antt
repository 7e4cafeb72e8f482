use Rattle.std.proofs.Common.{◌∙◌, Bool, ap, sym}
use Rattle.std.proofs.lemmas.List.Folds.{list_all-map}
use Rattle.std.specs.Prelude.{if◌then◌else◌}
use Rattle.trace_text.specs.declared.printing_from.PrintedFile.{PrintedFile}
use Rattle.trace_commands.specs.Ends.{is_whole}
use Rattle.trace_commands.proofs.end_lines.end_status.Goals as goal

pub returns-then-are_whole : goal.returns-then-are_whole
returns-then-are_whole c =
    sym (ap (λ (b : Bool). if b then 0 else 1) (list_all-map is_whole (λ (f : PrintedFile). f.end) c.args.files.now ∙ sym c.are_whole.ensures ∙ c.if-are_whole.true))

pub returns-else-are_whole : goal.returns-else-are_whole
returns-else-are_whole c =
    sym (ap (λ (b : Bool). if b then 0 else 1) (list_all-map is_whole (λ (f : PrintedFile). f.end) c.args.files.now ∙ sym c.are_whole.ensures ∙ c.if-are_whole.false))
