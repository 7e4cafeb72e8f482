use Rattle.std.proofs.Common.{◌≡◌, ◌⊎◌, ℕ, List, [], ◌∷◌, length, map, None, inl, inr, refl, Bor, sym, ◌∙◌}
use Rattle.std.specs.List.{zip}
use Rattle.conf_values.specs.Words.{word_in}
use Rattle.conf_values.proofs.words.meaning.Goals as goal

-- where no word is left, or no meaning
none_left : {A : Type 0} (words : List (Bor (List ℕ))) (meanings : List A) (w : List ℕ) → (length words ≡ 0) ⊎ (length meanings ≡ 0) → word_in (zip (map (λ x. x.now) words) meanings) w ≡ None
none_left [] meanings w e = refl
none_left (word ∷ words) [] w e = refl
none_left (word ∷ words) (meaning ∷ meanings) w (inl e) = cc
none_left (word ∷ words) (meaning ∷ meanings) w (inr e) = cc

pub returns : goal.returns
returns g c =
    let left = c.loop-other.other-iterator in
    sym (c.loop-other.invariant ∙ none_left left.a.rest.now left.b.rest.now c.args.word.now (elim c.in-None.ensures.steps [
      | inl (x, ended) ↦ inl ended.0
      | inr (x, ended) ↦ inr ended.0
    ]))
