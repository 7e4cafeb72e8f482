-- A text that is cut, by how many characters it has.
use Rattle.std.proofs.Common.{◌≡◌, ℕ, ◌<◌, ◌≤◌, List, [], ◌∷◌, ◌++◌, length, take, ◌∙◌, ap, arith, append-nil}
use Rattle.std.specs.Prelude.{codes}
use Rattle.std.specs.Str.{chars}
use Rattle.std.proofs.lemmas.Bool.Decides.{nat_tests}
use Rattle.std.proofs.lemmas.Str.{encodes-append}
use Rattle.std.proofs.Math.Utf8.{encode, encodes}
use Rattle.conf_fault.specs.declared.shown.TheConstants.{MOST_CHARACTERS}
use Rattle.conf_fault.specs.Shown.{cut}

pub encodes_more : (front : List ℕ) (c : ℕ) → encodes (front ++ c ∷ []) ≡ encodes front ++ encode c
encodes_more front c = encodes-append front (c ∷ []) ∙ ap (λ z. encodes front ++ z) (append-nil (encode c))

pub cut_short : (text : List ℕ) → length (chars text) ≤ MOST_CHARACTERS → cut text ≡ text
unfolding cut
cut_short text h = grind (arith, nat_tests)

pub cut_long : (text : List ℕ) → MOST_CHARACTERS < length (chars text) → cut text ≡ encodes (take MOST_CHARACTERS (chars text)) ++ codes "..."
unfolding cut
cut_long text h = grind (arith, nat_tests)
