use Rattle.std.proofs.Common.{◌≡◌, List, [], ◌∷◌, ℕ, Bool, true, false, map, refl, ◌∙◌, ap, rules, tests}
use Rattle.std.specs.Prelude.{cond, filter}
use Rattle.std.specs.Borrow.{Bor}
use Rattle.std.proofs.lemmas.Result.{IfOk-weaker}
use Rattle.std.proofs.lemmas.Iterator.{YieldsList-from_slice, YieldsList-from_map_by}
use Rattle.std.proofs.lemmas.Iterator.Consumers.{map_from_collect, YieldsList-at, YieldsList-from_filter}
use Rattle.conf_table.specs.declared.place.Place.{Place}
use Rattle.conf_table.specs.Classes.{ClassWord, admits_class, class_word_of}
use Rattle.conf_fault.specs.Expected.{classes_at, may_stand}
use Rattle.conf_fault.proofs.expected.classes_at.Goals as goal

abbrev Told : Type 0
Told = Bor (List ℕ) × Place

one_kept : (b : Bool) (x : Told) (xs : List Told) (c : ClassWord) (cs : List ClassWord) → x.0.now ≡ c.word → map (λ x. x.0.now) xs ≡ map (λ c. c.word) cs
    → map (λ x. x.0.now) (cond b (x ∷ xs) xs) ≡ map (λ c. c.word) (cond b (c ∷ cs) cs)
one_kept true x xs c cs e f = cc
one_kept false x xs c cs e f = f

-- the rows of the code and those of the definition are kept alike
kept : (position : Place) (rows : List Told) → map (λ x. x.0.now) (filter (λ x. admits_class position x.1) rows) ≡ map (λ c. c.word) (filter (may_stand position) (map class_word_of rows))
kept position [] = refl
kept position (x ∷ xs) = one_kept (admits_class position x.1) x _ (class_word_of x) _ refl (kept position xs)

pub returns : goal.returns
unfolding classes_at
returns c =
    let position = c.args.found.now.position in
    IfOk-weaker c.collect.result _ _ (λ words e. e ∙ kept position c.class_words.result.now ∙ ap (λ cs. map (λ c. c.word) (filter (may_stand position) cs)) c.class_words.ensures)
    (map_from_collect _ c.collect.ensures.ran (YieldsList-from_map_by _ (λ r. r.now) (λ x. x.0.now)
    (YieldsList-at c.map.ensures.source (YieldsList-from_filter _ (λ x. admits_class position x.1) (YieldsList-from_slice c.class_words.result.now (cc)) c.filter-classes.ensures.closure (λ x b q k. search (rules, tests))))
    c.map.ensures.closure (λ x r q k. search (rules, tests))))
