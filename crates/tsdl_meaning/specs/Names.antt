-- Names of the program as the definitions see them: lists of words.
use Rattle.std.specs.Prelude.{ℕ, List, map}
use Rattle.std.specs.Borrow.{Bor}
use Rattle.std.specs.Global.{Vec}
use Rattle.tsdl_grammar.specs.declared.tree.Scope.{Scope}
use Rattle.tsdl_grammar.specs.Lookups.{words_of}

abbrev pub texts_of : List (Bor (List ℕ)) → List (List ℕ)
texts_of words = map (λ w. w.now) words

abbrev pub names_of : List (Bor (List (Bor (List ℕ)))) → List (List (List ℕ))
names_of names = map (λ n. texts_of n.now) names

abbrev pub name_lists : Vec (Vec (Bor (List ℕ))) → List (List (List ℕ))
name_lists names = map (λ n. texts_of n.items) names.items

abbrev pub scope_names : List Scope → List (List (List ℕ))
scope_names scopes = map (λ s. words_of s.name) scopes
