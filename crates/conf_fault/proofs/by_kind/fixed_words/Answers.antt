use Rattle.std.proofs.Common.{◌∙◌, ℕ, List, ap, sym}
use Rattle.std.specs.Prelude.{Some}
use Rattle.std.specs.Option.{option_copied}
use Rattle.conf_fault.specs.Explanation.{fixed_words}
use Rattle.conf_fault.proofs.WantedLemmas.{names_no_limit}
use Rattle.conf_fault.proofs.by_kind.fixed_words.Goals as goal

pub returns-in-TooDeep : goal.returns-in-TooDeep
unfolding fixed_words
returns-in-TooDeep c = rw c.in-TooDeep.is (ap (λ (words : List ℕ). Some words) c.in_ok-levels.ensures.ok)

pub returns-in_ok-from_str-in-Some : goal.returns-in_ok-from_str-in-Some
returns-in_ok-from_str-in-Some c =
    ap (λ (words : List ℕ). Some words) c.in_ok-from_str-in-Some.ensures.ok ∙ sym (ap option_copied c.in-Some.is) ∙ c.same_words.ensures ∙ sym (names_no_limit c.args.kind c.in_default.not-TooDeep)

pub returns-in-None : goal.returns-in-None
returns-in-None c = sym (ap option_copied c.in-None.is) ∙ c.same_words.ensures ∙ sym (names_no_limit c.args.kind c.in_default.not-TooDeep)
