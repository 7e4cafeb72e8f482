use Rattle.std.proofs.Common.{◌≡◌, ◌<◌, ◌++◌, ℕ, Bool, List, ◌∷◌, IfOk, length, drop, length-drop, append-nil, arith, subst, sym, ◌∙◌, []}
use Rattle.tsdl_meaning.proofs.TextWords.{Item, attr_names, attrs_in}
use Rattle.tsdl_meaning.proofs.DistinctKeys.{distinct_names}
use Rattle.tsdl_meaning.proofs.lookup.has_attrs_once.Goals as goal

all_named : (names all : List (List (List ℕ))) (rest : List Item) → names ++ attr_names (attrs_in rest) ≡ all → length rest < 1 → names ≡ all
all_named names all [] e ends = sym (append-nil names) ∙ e
all_named names all (x ∷ xs) e ends = absurd (omega (arith, ends))

pub returns : goal.returns
returns c =
    subst (λ (b : Bool). IfOk c.are_distinct.result (λ once. once ≡ b))
    (distinct_names c.loop-item.names (attr_names (attrs_in c.args.items.now)) (all_named _ _ (drop c.loop-item.item-index c.args.items.now) c.loop-item.invariant (omega (arith, length-drop {A = Item})))) c.are_distinct.ensures
