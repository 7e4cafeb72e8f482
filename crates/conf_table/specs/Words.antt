-- The fixed words of a configuration, as the table has them (barectf 3.1, "Integer field type object", "Trace type object").
use Rattle.std.specs.Prelude.{ℕ, List, map}
use Rattle.conf_table.specs.declared.words.Words.{Words}
use Rattle.conf_table.specs.declared.words.Words.TheVariants.{ByteOrder, DisplayBase}
use Rattle.conf_table.specs.declared.words.TheConstants.{BYTE_ORDERS, DISPLAY_BASES}

-- the words of a choice
unfoldable pub words_of : Words → List (List ℕ)
words_of ByteOrder = map (λ w. w.now) BYTE_ORDERS
words_of DisplayBase = map (λ w. w.now) DISPLAY_BASES
