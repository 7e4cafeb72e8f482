-- The script of a scripted platform: the turns of the calls to come. After the last one every call works.
use Rattle.std.specs.Prelude.{List, [], ◌∷◌}
use Rattle.trace_platform.specs.declared.script.Turn.{Turn}
use Rattle.trace_platform.specs.declared.script.Turn.TheVariants.{Works, Fails}

abbrev pub first_turn : List Turn → Turn
first_turn [] = Works
first_turn (t ∷ ts) = t

abbrev pub later_turns : List Turn → List Turn
later_turns [] = []
later_turns (t ∷ ts) = ts

-- one fact of a call that works, another of one that fails
abbrev pub MatchTurn : Turn → Type 0 → Type 0 → Type 0
MatchTurn Works P Q = P
MatchTurn Fails P Q = Q
