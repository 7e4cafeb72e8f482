-- Names, and what stands under a name: attributes and scopes are looked up by their words, and no name stands twice.
use Rattle.std.specs.Prelude.{ℕ, Bool, true, ◌&&◌, not, if◌then◌else◌, List, [], ◌∷◌, map, Option, Some, None, flat_map, bytes_eq}
use Rattle.std.specs.{List.{list_any, list_all}, Cmp.Lexicographic.pointwise}
use Rattle.tsdl_grammar.specs.{declared.tree.Name.Name, declared.tree.Value.Value, declared.tree.Attribute.Attribute, declared.tree.Structure.Structure}
use Rattle.tsdl_grammar.specs.{declared.tree.Scope.Scope, declared.tree.Item.Item}
use Rattle.tsdl_grammar.specs.declared.tree.Item.TheVariants as items

-- the words of a name
abbrev pub words_of : Name → List (List ℕ)
words_of n = n.first ∷ n.rest

abbrev pub same_words : List (List ℕ) → List (List ℕ) → Bool
same_words = pointwise bytes_eq

-- the name is this one word
abbrev pub is_word : List ℕ → Name → Bool
is_word w n = same_words (words_of n) (w ∷ [])

-- no two are the same
abbrev pub no_two : {A : Type 0} → (A → A → Bool) → List A → Bool
no_two same [] = true
no_two same (x ∷ xs) = not (list_any (same x) xs) && no_two same xs

abbrev pub are_distinct : List (List (List ℕ)) → Bool
are_distinct names = no_two same_words names

-- a name is among these
abbrev pub is_among : List (List (List ℕ)) → List (List ℕ) → Bool
is_among names n = list_any (same_words n) names

abbrev pub attr_names : List Attribute → List (List (List ℕ))
attr_names attrs = map (λ a. words_of a.name) attrs

-- the value of the attribute of this name
abbrev pub attr : List ℕ → List Attribute → Option Value
attr w [] = None
attr w (a ∷ attrs) = if is_word w a.name then Some a.value else attr w attrs

abbrev pub attr_in : Item → List Attribute
attr_in (items.Attribute a) = a ∷ []
attr_in (items.Scope s) = []

abbrev pub scope_in : Item → List Scope
scope_in (items.Attribute a) = []
scope_in (items.Scope s) = s ∷ []

abbrev pub attrs_in : List Item → List Attribute
attrs_in is = flat_map attr_in is

abbrev pub scopes_in : List Item → List Scope
scopes_in is = flat_map scope_in is

-- the structure of the scope of this name
abbrev pub scope : List (List ℕ) → List Scope → Option Structure
scope n [] = None
scope n (s ∷ scopes) = if same_words (words_of s.name) n then Some s.structure else scope n scopes

-- no attribute stands twice, nor a scope, and each scope is one of these
abbrev pub has_parts : List (List (List ℕ)) → List Item → Bool
has_parts allowed is =
    are_distinct (attr_names (attrs_in is)) && are_distinct (map (λ s. words_of s.name) (scopes_in is))
    && list_all (λ s. is_among allowed (words_of s.name)) (scopes_in is)
