use Rattle.std.proofs.Common.{List, ◌++◌, ℕ, inr, refl, subst}
use Rattle.std.specs.Prelude.{Option, Some, codes, option_map}
use Rattle.std.specs.Borrow.{Bor}
use Rattle.conf_fault.specs.Wanted.{IsInheritHint, IsNearestOf, there_words}
use Rattle.conf_fault.proofs.Adding.{added}
use Rattle.conf_fault.proofs.WantedLemmas.{not_false, texts}
use Rattle.conf_fault.proofs.hints.push_inherit_hint.Goals as goal

pub returns : goal.returns
returns c =
    let word = c.in-Some.word.now in
    let names = texts c.args.words.now in
    let near : IsNearestOf 4 (codes "$inherit") names (Some word) = subst (λ (o : Option (Bor (List ℕ))). IsNearestOf 4 (codes "$inherit") names (option_map (λ w. w.now) o)) c.in-Some.is c.nearest.ensures in
    added (IsInheritHint c.args.name.now) c.push_str.result _ (there_words word) _ _ _ (there_words word ++ codes ", but a base stands under `$inherit`") c.in_ok-push_there.ensures c.push_str.ensures.bytes refl
    (inr (names, word, not_false _ _ c.ne.ensures c.if-ne.false, near, refl))
