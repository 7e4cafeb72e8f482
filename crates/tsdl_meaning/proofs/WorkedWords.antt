-- The words that a fault offers are those of the definitions' tables: each of them and no other, but for the bases of integers, of which
-- a fault offers each number and for each its usual word.
use Rattle.std.specs.Prelude.{ℕ, List, [], ◌∷◌, ◌++◌, ◌≡◌, Some, map, codes, decimal, refl}
use Rattle.std.specs.Fmt.{digits}
use Rattle.std.specs.List.{flat_map}
use Rattle.tsdl_grammar.specs.AttributeValues.{meant_by}
use Rattle.tsdl_grammar.specs.IntegerMeaning.{base_numbers, base_words, int_attrs}
use Rattle.tsdl_grammar.specs.MemberMeaning.{encoding_words}
use Rattle.tsdl_grammar.specs.BlockMeaning.{order_table}
use Rattle.tsdl_meaning.specs.OfferedWords.{offered}
use Rattle.tsdl_meaning.specs.declared.integer.TheConstants.{BASES, INTEGER_PARTS}
use Rattle.tsdl_meaning.specs.declared.member.TheConstants.{ENCODINGS, STRING_PARTS}
use Rattle.tsdl_meaning.specs.declared.trace.TheConstants.{ORDERS}

attributes_of_integers : INTEGER_PARTS.now ≡ offered (flat_map (λ words. words) int_attrs)
unfolding offered
attributes_of_integers = refl

attributes_of_strings : STRING_PARTS.now ≡ offered (codes "encoding" ∷ [])
unfolding offered
attributes_of_strings = refl

encodings : ENCODINGS.now ≡ offered (map (λ e. e.0) encoding_words)
unfolding offered
encodings = refl

orders : ORDERS.now ≡ offered (map (λ o. o.0) order_table)
unfolding offered
orders = refl

-- a word for each base, in the order of their numbers
usual_words : List (List ℕ)
usual_words = codes "binary" ∷ codes "octal" ∷ codes "decimal" ∷ codes "hexadecimal" ∷ []

usual_words_of_bases : map (meant_by base_words) usual_words ≡ map (λ b. Some b.1) base_numbers
unfolding usual_words
usual_words_of_bases = refl

bases : BASES.now ≡ flat_map (λ b. decimal b.0 ++ codes ", ") base_numbers ++ offered usual_words
unfolding offered usual_words digits
bases = refl
