-- Bytes that are appended piece by piece are appended joined, and the other way round.
use Rattle.std.proofs.Common.{ℕ, List, [], ◌∷◌, ◌++◌, Option, None, Some, refl, append_assoc, sym, ◌∙◌}
use Rattle.std.proofs.KnownBytes.{Appends-trans}
use Rattle.std.specs.Prelude.{◌↔◌}
use Rattle.std.specs.List.{concat}
use Rattle.std.specs.Io.KnownBytes.{Appends}
use Rattle.trace_platform.specs.AppendingPieces.{AppendsEach}

-- pieces, joined
Appends-joined : (first last : Option (List ℕ)) (pieces : List (List ℕ)) → AppendsEach first last pieces → Appends first last (concat pieces)
Appends-joined first last [] h = h
Appends-joined first last (piece ∷ pieces) h = Appends-trans first h.0 last piece (concat pieces) h.1 (Appends-joined h.0 last pieces h.2)

-- and joined bytes in their pieces
Appends-apart : (first last : Option (List ℕ)) (pieces : List (List ℕ)) → Appends first last (concat pieces) → AppendsEach first last pieces
Appends-apart first last [] h = h
Appends-apart None last (piece ∷ pieces) h = (None, tt, Appends-apart None last pieces tt)
Appends-apart (Some bytes) None (piece ∷ pieces) h = absurd h
Appends-apart (Some bytes) (Some more) (piece ∷ pieces) h =
    (Some (bytes ++ piece), refl, Appends-apart (Some (bytes ++ piece)) (Some more) pieces (h ∙ sym (append_assoc bytes piece (concat pieces))))

pub Appends-pieces : (first last : Option (List ℕ)) (pieces : List (List ℕ)) → AppendsEach first last pieces ↔ Appends first last (concat pieces)
Appends-pieces first last pieces = (Appends-joined first last pieces, Appends-apart first last pieces)
