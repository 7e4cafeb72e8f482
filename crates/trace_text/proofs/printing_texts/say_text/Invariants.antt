use Rattle.std.proofs.Common.{◌≡◌, ℕ, List, ◌++◌, length}
use Rattle.std.specs.List.{flat_map}
use Rattle.trace_text.specs.PrintedPages.{Says}
use Rattle.trace_text.specs.PrintedTexts.{text_byte}
use Rattle.trace_text.proofs.printing_texts.say_text.Given as goal

abbrev pub invariant-loop-rest : goal.invariant-loop-rest
invariant-loop-rest g l =
    (front : List ℕ) × (front ++ l.rest ≡ l.bytes)
    × Says (g.W.Write.contents l.initial.writer) l.initial.page (g.W.Write.contents l.writer) l.page (flat_map (text_byte l.form) front)

abbrev pub decreases-loop-rest : goal.decreases-loop-rest
decreases-loop-rest g l = length l.rest
