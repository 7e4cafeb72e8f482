-- What each word of the table stands for (barectf 3.1, "Integer field type object", "Trace type object").
use Rattle.std.proofs.Common.{◌≡◌, [], ◌∷◌, refl}
use Rattle.std.specs.Prelude.{codes}
use Rattle.ctf_types.specs.declared.Base.TheVariants.{Bin, Oct, Dec, Hex}
use Rattle.ctf_types.specs.declared.ByteOrder.TheVariants.{Little, Big}
use Rattle.conf_table.specs.Words.{words_of}
use Rattle.conf_values.specs.Words.{base_words, order_words}

bases_worked : base_words ≡
    (codes "binary", Bin) ∷ (codes "bin", Bin) ∷ (codes "octal", Oct) ∷ (codes "oct", Oct)
    ∷ (codes "decimal", Dec) ∷ (codes "dec", Dec) ∷ (codes "hexadecimal", Hex) ∷ (codes "hex", Hex) ∷ []
unfolding base_words words_of
bases_worked = refl

orders_worked : order_words ≡
    (codes "little-endian", Little) ∷ (codes "little", Little) ∷ (codes "le", Little)
    ∷ (codes "big-endian", Big) ∷ (codes "big", Big) ∷ (codes "be", Big) ∷ []
unfolding order_words words_of
orders_worked = refl
