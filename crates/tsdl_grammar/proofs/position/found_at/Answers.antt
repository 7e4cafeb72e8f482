use Rattle.std.proofs.Common.{◌≡◌, ℕ, List, ◌++◌, ◌∙◌, subst, string_bytes, append_assoc, codes, decimal}
use Rattle.std.proofs.{lemmas.List.take_rest, lemmas.Result.IfOk-weaker}
use Rattle.tsdl_grammar.specs.FaultWords.{IsFoundAt}
use Rattle.tsdl_grammar.proofs.position.found_at.Goals as goal

in_order : (a b c d e f g h : List ℕ) → a ++ (b ++ (c ++ (d ++ (e ++ (f ++ (g ++ h)))))) ≡ a ++ b ++ c ++ d ++ e ++ f ++ g ++ h
in_order a b c d e f g h = simp append_assoc

pub returns : goal.returns
returns c =
    let p = c.position_of-line.result in
    let found = string_bytes c.in_ok-found.found in
    IfOk-weaker c.format.result _ _
    (λ said e. subst (λ (at : ℕ). IsFoundAt c.args.text.now at (string_bytes said)) c.min-place.ensures (record {
      found = found;
      stands = rw take_rest at c.in_ok-found.ensures;
      words = rw (← c.position_of-line.ensures.line, ← c.position_of-line.ensures.column)
          (e ∙ in_order (codes "byte ") (decimal c.min-place.result) (codes ", line ") (decimal p.line) (codes ", column ") (decimal p.column) (codes ": found ") found);
    }))
    c.format.ensures.ok
