-- The scripted source keeps the laws of a source.
use Rattle.std.specs.Prelude.{◌≡◌, ℕ, Bool, true, false, List, [], ◌∷◌, None, Some, IsSome, ◌||◌, refl}
use Rattle.std.proofs.Common.{ap, sym, subst, ◌∙◌}
use Rattle.packet_writer.specs.declared.packet.Packet.{Packet}
use Rattle.trace_platform.specs.declared.scripted_source.ScriptedSource.{ScriptedSource}
use Rattle.trace_platform.specs.Queue.{Queue}
use Rattle.trace_platform.specs.QueueLaws as list
use Rattle.trace_platform.specs.ScriptedSources.{SourceTakes, SourceRegains, SourceSettles, rest_of}

-- what is known to come was settled
is_settled : (settled : Bool) (waiting ps : List Packet) → rest_of settled waiting ≡ Some ps → settled ≡ true
is_settled true waiting ps e = refl
is_settled false waiting ps e = absurd (let no : None ≡ Some ps = e in cc)

waiting_is : (settled : Bool) (waiting ps : List Packet) → rest_of settled waiting ≡ Some ps → Some waiting ≡ Some ps
waiting_is true waiting ps e = e
waiting_is false waiting ps e = absurd (let no : None ≡ Some ps = e in cc)

rest_is : (settled : Bool) (waiting : List Packet) → settled ≡ true → rest_of settled waiting ≡ Some waiting
rest_is true waiting e = refl
rest_is false waiting e = absurd (let no : false ≡ true = e in cc)

pub takes_first : (a b : ScriptedSource) (p : Packet) (ps : List Packet) → SourceTakes a (Some p) b → rest_of a.settled a.back_end.waiting ≡ Some ps
    → (qs : List Packet) × (ps ≡ p ∷ qs) × (rest_of b.settled b.back_end.waiting ≡ Some qs)
takes_first a b p ps h e =
    let first = list.takes_first a.back_end b.back_end p ps h.0 (waiting_is a.settled a.back_end.waiting ps e) in
    (first.0, first.1, rest_is b.settled b.back_end.waiting (h.1 ∙ is_settled a.settled a.back_end.waiting ps e) ∙ first.2)

pub takes_none : (a b : ScriptedSource) (ps : List Packet) → SourceTakes a None b → rest_of a.settled a.back_end.waiting ≡ Some ps
    → (ps ≡ []) × (rest_of b.settled b.back_end.waiting ≡ Some [])
takes_none a b ps h e =
    let none = list.takes_none a.back_end b.back_end ps h.0 (waiting_is a.settled a.back_end.waiting ps e) in
    (none.0, rest_is b.settled b.back_end.waiting (h.1 ∙ is_settled a.settled a.back_end.waiting ps e) ∙ none.1)

pub regains_rest : (a b : ScriptedSource) (buffer : List ℕ) → SourceRegains a buffer b → rest_of b.settled b.back_end.waiting ≡ rest_of a.settled a.back_end.waiting
regains_rest a b buffer h =
    subst (λ (s : Bool). rest_of s b.back_end.waiting ≡ rest_of a.settled a.back_end.waiting) (sym h.1) (by a.settled)
  where
    by : (settled : Bool) → rest_of settled b.back_end.waiting ≡ rest_of settled a.back_end.waiting
    by true = list.regains_rest a.back_end b.back_end buffer h.0
    by false = refl

both_settled : (s : Bool) → (s || true) ≡ true
both_settled true = refl
both_settled false = refl

pub settles_rest : (a b : ScriptedSource) (done : Bool) → SourceSettles a done true b → IsSome (rest_of b.settled b.back_end.waiting)
settles_rest a b done h =
    let is : b.settled ≡ true = h.2 ∙ ap (λ (d : Bool). a.settled || d) (sym h.0) ∙ both_settled a.settled in
    subst (λ (s : Bool). IsSome (rest_of s b.back_end.waiting)) (sym is) refl

still_settled : (s d : Bool) → s ≡ true → (s || d) ≡ true
still_settled true d e = refl
still_settled false d e = absurd (let no : false ≡ true = e in cc)

pub settles_keeps : (a b : ScriptedSource) (done answer : Bool) (ps : List Packet) → SourceSettles a done answer b
    → rest_of a.settled a.back_end.waiting ≡ Some ps → rest_of b.settled b.back_end.waiting ≡ Some ps
settles_keeps a b done answer ps h e =
    let is : b.settled ≡ true = h.2 ∙ still_settled a.settled done (is_settled a.settled a.back_end.waiting ps e) in
    rest_is b.settled b.back_end.waiting is ∙ ap (λ (q : Queue). Some q.waiting) h.1 ∙ waiting_is a.settled a.back_end.waiting ps e
