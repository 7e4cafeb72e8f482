use Rattle.std.proofs.Common.{◌≡◌, ◌++◌, ◌∷◌, List, ℕ, ◌+◌, ◌<◌, take, get_or, length, map, string_bytes, sym, ◌∙◌, ap, append_assoc, arith}
use Rattle.std.specs.Prelude.{codes}
use Rattle.std.specs.Borrow.{Bor}
use Rattle.std.specs.List.{flat_map}
use Rattle.std.proofs.lemmas.List.{flat_map_more, map_more, nil_from_length, take_all}
use Rattle.conf_fault.specs.Expected.{further_word, listed}
use Rattle.conf_fault.specs.Shown.{cut}
use Rattle.conf_fault.proofs.Adding.{appended, appended_behind, behind}
use Rattle.conf_fault.proofs.expected.push_words.Goals as goal

abbrev texts : List (Bor (List ℕ)) → List (List ℕ)
texts words = map (λ w. w.now) words

one_more : (was s0 s1 s2 : List ℕ) (others : List (Bor (List ℕ))) (i : ℕ) (d : Bor (List ℕ)) → i < length others → s0 ≡ was ++ flat_map further_word (texts (take i others))
    → s1 ≡ s0 ++ codes "`, `" → s2 ≡ s1 ++ cut (get_or others i d).now → s2 ≡ was ++ flat_map further_word (texts (take (i + 1) others))
one_more was s0 s1 s2 others i d h e f g =
    let word = (get_or others i d).now in
    g ∙ ap (λ z. z ++ cut word) (f ∙ ap (λ z. z ++ codes "`, `") e) ∙ append_assoc (was ++ flat_map further_word (texts (take i others))) (codes "`, `") (cut word)
    ∙ flat_map_more further_word was (texts (take i others)) word ∙ ap (λ z. was ++ flat_map further_word z) (sym (map_more (λ (w : Bor (List ℕ)). w.now) others i d h))

pub returns-in_default : goal.returns-in_default
unfolding listed
returns-in_default c = appended _ _ _ _ _ c.push_str.ensures.bytes (sym (ap (λ ws. listed (texts ws)) (nil_from_length c.args.words.now c.in_default.ensures.cases)))

pub loop-word-preserved : goal.loop-word-preserved
loop-word-preserved c = one_more _ _ _ _ _ _ _ c.loop-word-test.true c.loop-word.invariant c.in_ok-push_str-2.ensures.bytes c.in_ok-push_cut-2.ensures

whole : (words others : List (Bor (List ℕ))) (first : Bor (List ℕ)) → words ≡ first ∷ others
    → codes "`" ++ cut first.now ++ flat_map further_word (texts others) ++ codes "`" ≡ listed (texts words)
unfolding listed
whole words others first e = sym (ap (λ ws. listed (texts ws)) e)

pub returns : goal.returns
returns c =
    let others = c.in-Some.others.now in
    let word = cut c.in-Some.first.now.now in
    let front = behind _ _ _ (codes "`") word c.in_ok-push_str.ensures.bytes c.in_ok-push_cut.ensures in
    let steps = c.loop-word.invariant ∙ ap (λ z. string_bytes c.push_cut.new.said ++ flat_map further_word (texts z)) (take_all c.loop-word.word-index others c.loop-word-test.false) in
    let all = codes "`" ++ word ++ flat_map further_word (texts others) in
    appended_behind c.push.result _ all _ _ _ _ (behind _ _ _ (codes "`" ++ word) (flat_map further_word (texts others)) front steps) c.push.ensures.bytes
    (ap (λ z. all ++ z) (c.push.ensures.ascii (omega arith)) ∙ whole c.args.words.now others c.in-Some.first.now c.in-Some.ensures.cases.0)
