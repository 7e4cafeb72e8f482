use Rattle.tsdl_writer.proofs.TreeWords.{IsUtf8, subst, sym, ◌∙◌}
use Rattle.tsdl_grammar.proofs.EscapesUtf8.{IsUtf8-escaped}
use Rattle.tsdl_writer.proofs.printer.Printer.quoted.Goals as goal

pub unreachable-requires : goal.unreachable-requires
unreachable-requires c =
    c.in-Err.ensures.cases.0 (subst IsUtf8 (sym (c.deref.ensures.value ∙ c.in_ok-escaped.ensures)) (IsUtf8-escaped c.as_bytes.result.now c.as_bytes.ensures.utf8))
