-- The words that a fault offers in place of one that is not read.
use Rattle.std.specs.Prelude.{ℕ, List, [], ◌∷◌, ◌++◌, Option, None, Some, codes}
use Rattle.ctf_types.specs.declared.ByteOrder.{ByteOrder}
use Rattle.tsdl_grammar.specs.IntegerMeaning.{order_words}

-- words as a sentence offers them
unfoldable pub offered : List (List ℕ) → List ℕ
offered [] = []
offered (w ∷ []) = codes "`" ++ (w ++ codes "`")
offered (w ∷ v ∷ []) = codes "`" ++ (w ++ (codes "` or `" ++ (v ++ codes "`")))
offered (w ∷ v ∷ u ∷ ws) = codes "`" ++ (w ++ (codes "`, " ++ offered (v ∷ u ∷ ws)))

-- the words for the byte order of an integer: those of the trace's own one, where that is known
abbrev pub words_by : Option ByteOrder → List (List ℕ)
words_by None = codes "native" ∷ []
words_by (Some order) = order_words order

abbrev pub orders_offered : Option ByteOrder → List ℕ
orders_offered trace = offered (words_by trace)
