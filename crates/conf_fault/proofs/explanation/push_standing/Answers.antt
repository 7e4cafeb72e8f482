use Rattle.std.proofs.Common.{◌≡◌, ◌∙◌, ℕ, List, ap, string_bytes, subst, sym}
use Rattle.std.specs.Prelude.{MatchOption, Option}
use Rattle.std.specs.Option.{option_copied}
use Rattle.std.proofs.lemmas.Result.{on_ok_weaker}
use Rattle.conf_fault.specs.Explanation.{Adds, IsValueWords}
use Rattle.conf_fault.proofs.explanation.push_standing.Goals as goal

pub returns-in-None : goal.returns-in-None
returns-in-None c =
    let text = c.args.found.now.source.text.now in
    let none = sym (ap option_copied c.in-None.is) ∙ c.name_words.ensures in
    on_ok_weaker c.push_value.result
    (λ (value : Adds (IsValueWords text c.args.at) (string_bytes c.args.said.now) (string_bytes c.push_value.new.said)).
    (value.0, subst (λ (o : Option (List ℕ)). MatchOption o (IsValueWords text c.args.at value.0) (λ said. value.0 ≡ said)) none value.1, value.2))
    c.push_value.ensures
