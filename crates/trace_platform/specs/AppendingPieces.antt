-- Laws of appending: what a sink gains step by step is what it gains at once, the pieces joined.
use Rattle.std.specs.Prelude.{◌↔◌, ℕ, List, [], ◌∷◌, ◌++◌, Option}
use Rattle.std.specs.List.{concat}
use Rattle.std.specs.Io.KnownBytes.{Appends}

-- pieces are appended one after the other: what is held at first and at last
abbrev pub AppendsEach : Option (List ℕ) → Option (List ℕ) → List (List ℕ) → Type 0
AppendsEach first last [] = Appends first last []
AppendsEach first last (piece ∷ pieces) = (next : Option (List ℕ)) × Appends first next piece × AppendsEach next last pieces

-- to append nothing is to append no bytes
abbrev pub NothingIsNoBytes : Type 0
NothingIsNoBytes = (held : Option (List ℕ)) → Appends held held []

-- bytes appended and then more bytes are both appended at once, joined
abbrev pub TwiceIsOnce : Type 0
TwiceIsOnce = (first next last : Option (List ℕ)) (bytes more : List ℕ) → Appends first next bytes → Appends next last more → Appends first last (bytes ++ more)

-- pieces appended one after the other are the same as all of them appended at once, joined
abbrev pub PiecesAreJoined : Type 0
PiecesAreJoined = (first last : Option (List ℕ)) (pieces : List (List ℕ)) → AppendsEach first last pieces ↔ Appends first last (concat pieces)
