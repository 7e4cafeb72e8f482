-- The entries of an environment: what those without a flaw mean, and names that stand twice.
use Rattle.std.proofs.Common.{◌≡◌, ℕ, ◌≤◌, Bool, true, false, ◌||◌, List, ◌∷◌, ◌++◌, map, length, Option, Some, Contains, refl, sym, ap, ◌∙◌, subst, arith, length-append, inl, inr, bytes_eq, codes, []}
use Rattle.tsdl_meaning.proofs.TextWords.{AddsFact, AllByRecursion, Atom, Ends, EndsFacts, EnvironmentEntry, IsTwice, Item, MAX_ENVIRONMENT, MeanEntries, Name, NamedFact, Value, bytes_eq, bytes_eq-Decides, cases_Bool, each, environment_meaning, fact_meaning, fact_toks, flat_map, item_toks, list_any, map-append, mark, named_fact_meaning, named_fact_toks, nat_list_eq_equiv, no_two, option_map, value_toks, word}
use Rattle.std.proofs.lemmas.Bool.Decides.{nat_tests}
use Rattle.tsdl_meaning.proofs.FlawlessItems.{no_two_more, some_is}
use Rattle.tsdl_meaning.proofs.JudgedParts.{ends_part}
use Rattle.std.proofs.lemmas.List.Elements.{Contains-append_left, Contains-append_right, Contains-push}
use Rattle.tsdl_grammar.specs.declared.token.Mark.{Mark}
use Rattle.tsdl_grammar.specs.declared.token.Mark.TheVariants as marks
use Rattle.tsdl_grammar.specs.declared.tree.Fact.{Fact}
use Rattle.tsdl_grammar.specs.declared.tree.Fact.TheVariants as facts
use Rattle.tsdl_grammar.specs.declared.tree.Item.TheVariants as items
use Rattle.tsdl_grammar.specs.declared.tree.Value.TheVariants as values
use Rattle.tsdl_flaw.specs.Twice.{heading}

-- what is made of one more item
pub each_more : {A B : Type 0} (f : A → Option B) (xs : List A) (ys : List B) (x : A) (y : B) → each f xs ≡ Some ys → f x ≡ Some y → each f (xs ++ x ∷ []) ≡ Some (ys ++ y ∷ [])
each_more f [] ys x y e h = grind (arith, e, h)
each_more f (z ∷ xs) ys x y e h = grind (arith, λ (us : List _). each_more f xs us x y, e, h)

-- the entries so far
pub record Facts (facts : List NamedFact) : Type 0 where
  pub few : length facts ≤ MAX_ENVIRONMENT
  pub once : no_two bytes_eq (map (λ f. f.name) facts) ≡ true
  pub entries : List EnvironmentEntry
  pub mean : each named_fact_meaning facts ≡ Some entries

-- none of the words is the other
apart : (w : List ℕ) (words : List (List ℕ)) → list_any (bytes_eq w) words ≡ false → AllByRecursion (λ x. bytes_eq x w ≡ false) words
apart w [] e = tt
apart w (x ∷ words) e = grind (arith, nat_list_eq_equiv.symm x w, apart w words, e)

pub fact_more : (facts : List NamedFact) (fact : NamedFact) → Facts facts → AddsFact facts fact → Facts (facts ++ fact ∷ [])
fact_more facts fact s adds =
    let n = length-append facts (fact ∷ []) in
    let below = adds.few in
    let value = some_is (fact_meaning fact.fact) adds.meant in
    let entry : EnvironmentEntry = record { name = fact.name; value = value.0 } in
    record {
      few = omega (arith, n, below);
      once =
          ap (no_two bytes_eq) (map-append (λ f. f.name) facts (fact ∷ []))
          ∙ no_two_more bytes_eq (map (λ f. f.name) facts) fact.name (apart fact.name (map (λ f. f.name) facts) adds.fresh) s.once;
      entries = s.entries ++ entry ∷ [];
      mean = each_more named_fact_meaning facts s.entries fact entry s.mean (ap (option_map (λ v. record { name = fact.name; value = v })) value.1);
    }

pub no_facts : Facts []
no_facts = record { few = omega arith; once = refl; entries = []; mean = refl }

pub facts_mean : (facts : List NamedFact) → Facts facts → MeanEntries facts
unfolding environment_meaning
facts_mean facts s = (s.entries, grind (arith, nat_tests, s.few, s.once, s.mean))

-- ---- names that stand twice

value_of : Fact → Value
value_of (facts.Number n) = values.Number n
value_of (facts.Text s) = values.Text s

-- an entry is spelled as an attribute is
abbrev as_item : NamedFact → Item
as_item f = items.Attribute (record { name = record { first = f.name; rest = [] }; value = value_of f.fact })

value_alike : (f : Fact) → value_toks (value_of f) ≡ fact_toks f
unfolding value_of
value_alike (facts.Number n) = refl
value_alike (facts.Text s) = refl

entries_alike : (fs : List NamedFact) → flat_map item_toks (map as_item fs) ≡ flat_map named_fact_toks fs
entries_alike [] = refl
entries_alike (f ∷ fs) =
    let own = λ (value others : List Atom). ((word f.name ∷ mark marks.Equals ∷ value) ++ mark marks.Semicolon ∷ []) ++ others in
    ap (own (value_toks (value_of f.fact))) (entries_alike fs) ∙ ap (λ (value : List Atom). own value (flat_map named_fact_toks fs)) (value_alike f.fact)

-- one of the entries has the name
entry_there : (w : List ℕ) (fs : List NamedFact) → list_any (bytes_eq w) (map (λ f. f.name) fs) ≡ true → Contains (map heading (map as_item fs)) (record { first = w; rest = [] }, marks.Equals)
entry_there w [] e = absurd (let never : false ≡ true = e in cc)
entry_there w (f ∷ fs) e =
    let it : Name × Mark = (record { first = w; rest = [] }, marks.Equals) in
    let first = heading (as_item f) ∷ [] in
    let others = map heading (map as_item fs) in
    elim (cases_Bool (bytes_eq w f.name)) [
      | inl t ↦ Contains-append_left first others it
          (subst (λ (n : List ℕ). Contains ((record { first = n; rest = [] }, marks.Equals) ∷ []) it) ((bytes_eq-Decides w f.name).0 t) (Contains-push [] it))
      | inr n ↦ Contains-append_right first others it (entry_there w fs (ap (λ (b : Bool). b || list_any (bytes_eq w) (map (λ f. f.name) fs)) (sym n) ∙ e))
    ]

-- an entry of a name that another has
pub fact_twice : (w : List ℕ) (fs : List NamedFact) (front : List Atom) → list_any (bytes_eq w) (map (λ f. f.name) fs) ≡ true → EndsFacts fs front → IsTwice front (word w ∷ mark marks.Equals ∷ [])
fact_twice w fs front h ends =
    let name : Name = record { first = w; rest = [] } in
    inl (record {
      name = name;
      other = name;
      behind = marks.Equals;
      items = map as_item fs;
      ends = subst (λ (l : List Atom). Ends front (mark marks.OpenBrace ∷ l)) (sym (entries_alike fs)) (ends_part front (word (codes "env") ∷ []) (mark marks.OpenBrace ∷ flat_map named_fact_toks fs) ends);
      before = entry_there w fs h;
      same = refl;
      here = refl;
    })
