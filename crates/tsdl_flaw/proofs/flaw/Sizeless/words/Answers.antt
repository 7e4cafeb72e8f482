use Rattle.std.proofs.Common.{◌≡◌, ℕ, List, ◌++◌, ◌∙◌, append_assoc, codes, decimal}
use Rattle.std.proofs.lemmas.Result.{IfOk-weaker}
use Rattle.tsdl_flaw.proofs.flaw.Sizeless.words.Goals as goal

in_order : (a b c d e : List ℕ) → a ++ (b ++ (c ++ (d ++ e))) ≡ a ++ b ++ c ++ d ++ e
in_order a b c d e = simp append_assoc

pub returns : goal.returns
returns c =
    let s = c.args.self.now in
    IfOk-weaker c.format.result _ _ (λ said e. e ∙ in_order (codes "the packet context of stream ") (decimal s.stream) (codes " has no `") s.size.now (codes "`")) c.format.ensures.ok
