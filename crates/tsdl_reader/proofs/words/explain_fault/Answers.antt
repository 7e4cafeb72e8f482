use Rattle.std.proofs.Common.{◌∙◌, codes, string_bytes, sym, append_assoc}
use Rattle.std.proofs.lemmas.Result.{IfOk-weaker}
use Rattle.tsdl_reader.proofs.words.explain_fault.Goals as goal

pub returns : goal.returns
returns c =
    IfOk-weaker c.format.result _ _ (λ said e. record {
      place = string_bytes c.in_ok-found.found;
      words = string_bytes c.in_ok-words.words;
      said_is = e ∙ sym (append_assoc (string_bytes c.in_ok-found.found) (codes ": ") (string_bytes c.in_ok-words.words));
      place_is = c.in_ok-found.ensures;
      words_are = c.in_ok-words.ensures;
    }) c.format.ensures.ok
