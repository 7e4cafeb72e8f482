-- What is noted of the blocks of a text is what its integers have to know.
use Rattle.std.proofs.Common.{◌≡◌, ℕ, true, false, List, ◌∷◌, map, Option, Some, None, refl, ap, ap₂, ◌∙◌, [], arith}
use Rattle.tsdl_meaning.proofs.TextWords.{Attribute, Block, ByteOrder, ClockType, Item, Known, Surveys, Value, and_true, are_distinct, attr, attr_names, attrs_in, clock_meaning, codes, each, first_of, flat_map, is_word, list_any, meant_by, name_of, name_value, only, order_table, orders_in, same_words, trace_in, trace_order, unwrap_or, word_value, words_of, ◌>>=◌, if◌then◌else◌}
use Rattle.ctf_types.specs.declared.ByteOrder.TheVariants.{Little}
use Rattle.tsdl_grammar.specs.Denotes.{clock_in}
use Rattle.tsdl_grammar.proofs.BlockParts.{says_clock}
use Rattle.tsdl_meaning.specs.NotedBlocks.{names_in}
use Rattle.tsdl_meaning.proofs.FlawlessItems.{same_words-is}

-- ---- tests

-- words that are not those are not these
sym_words : (xs ys : List (List ℕ)) → same_words ys xs ≡ false → same_words xs ys ≡ false
sym_words xs ys h = grind (arith, same_words-is xs ys, h)

-- ---- the byte order

first_is : (f : Value → Option ByteOrder) (w : List ℕ) (attrs : List Attribute) (order : ByteOrder) → (attr w attrs >>= f) ≡ Some order
    → first_of (λ a. if is_word w a.name then f a.value else None) attrs ≡ Some order
first_is f w [] order e = absurd cc
first_is f w (a ∷ attrs) order e = grind (arith, first_is f w attrs order, e)

noted_order : (traces : List (List Item)) (trace : List Item) (order : ByteOrder) → only traces ≡ Some trace → trace_order trace ≡ Some order → first_of orders_in traces ≡ Some order
noted_order traces trace order one e = grind (arith, first_is (λ v. word_value v >>= meant_by order_table) (codes "byte_order") (attrs_in trace) order e, one)

-- ---- the names of the clocks

none_named : (attrs : List Attribute) → list_any (same_words (codes "name" ∷ [])) (attr_names attrs) ≡ false → flat_map name_of attrs ≡ []
none_named [] e = refl
none_named (a ∷ attrs) e = grind (arith, sym_words (words_of a.name) (codes "name" ∷ []), none_named attrs, e)

one_named : (attrs : List Attribute) (name : List ℕ) → are_distinct (attr_names attrs) ≡ true → (attr (codes "name") attrs >>= name_value) ≡ Some name → flat_map name_of attrs ≡ name ∷ []
one_named [] name d e = absurd cc
one_named (a ∷ attrs) name d e = grind (arith, same_words-is (words_of a.name) (codes "name" ∷ []), none_named attrs, one_named attrs name, d, e)

clock_named : (is : List Item) (c : ClockType) → clock_meaning is ≡ Some c → names_in is ≡ c.name ∷ []
clock_named is c e =
    let says = says_clock is c e in
    one_named (attrs_in is) c.name (and_true (are_distinct (attr_names (attrs_in is))) _ (and_true _ _ says.once).0).0 says.name

pub noted_names : (clocks : List (List Item)) (types : List ClockType) → each clock_meaning clocks ≡ Some types → flat_map names_in clocks ≡ map (λ c. c.name) types
noted_names [] types e = grind (arith, e)
noted_names (is ∷ clocks) types e = grind (arith, clock_named is, noted_names clocks, e)

-- ---- both

pub surveyed : (bs : List Block) (known : Known) (noted : Option ByteOrder) → noted ≡ first_of orders_in (flat_map trace_in bs)
    → known ≡ record { order = unwrap_or noted Little; clocks = flat_map names_in (flat_map clock_in bs) } → Surveys known bs
surveyed bs known noted n k = λ trace order clocks one given mean.
    let there : noted ≡ Some order = n ∙ noted_order (flat_map trace_in bs) trace order one given in
    k ∙ ap₂ (λ (o : ByteOrder) (names : List (List ℕ)). record { order = o; clocks = names }) (ap (λ (o : Option ByteOrder). unwrap_or o Little) there) (noted_names (flat_map clock_in bs) clocks mean)
