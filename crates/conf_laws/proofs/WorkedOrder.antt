-- Which of two flaws of a small configuration stands before the other, and which of two of one turn, of the whole, or of a value as a tree.
use Rattle.std.proofs.Common.{◌≡◌, List, [], ◌∷◌, None, Less, inl, inr, refl, ap, arith, codes}
use Rattle.std.specs.Cmp.Lexicographic.{slice_cmp}
use Rattle.std.specs.Ordering.{nat_cmp}
use Rattle.std.specs.declared.cmp.Ordering.{Ordering, TheVariants.{Equal, Greater}}
use Rattle.std.specs.Prelude.{Float}
use Rattle.serde_json.specs.Data.{float}
use Rattle.conf_laws.specs.FlawOrder.{OuterBefore, BeforeAtTurn, BeforeInWhole}
use Rattle.conf_laws.specs.TreeOrder.{IsTreeFlaw, IsFirstInTree}
use Rattle.conf_laws.specs.WalkOrder.{StandsBefore}
use Rattle.conf_laws.proofs.TreeFlawLaws.{first_tree_flaw}
use Rattle.conf_tree.specs.declared.fault_kind.FaultKind.TheVariants.{WrongKind, NotWhole, OutOfRange, ReservedName, NameClash, NoClock, NoUuid}
use Rattle.conf_laws.proofs.Readings.{some_none}
use Rattle.conf_laws.proofs.Words.{HasNotItsRows, IsFlawOf, Needed, rows_of, entries_of, content_under, presence_under, At, is_position, own_place, place_of_properties, Flaw, PathPart as Place, key, index, Missing, Unknown, FaultKind, Data, null, number, unsigned, array, object, no_items, item, Members, no_members, member}
use Rattle.conf_laws.proofs.Words.places

abbrev flaw_at : List Place → FaultKind → Flaw
flaw_at path kind = record { path = path; kind = kind }

-- a configuration with `option` and `other`, and no `trace`
abbrev members : Members
members = member (codes "option") null (member (codes "other") null no_members)

no_trace : IsFlawOf [] (At places.Root) (object members) (flaw_at (key (codes "trace") ∷ []) Missing)
unfolding place_of_properties own_place is_position rows_of
no_trace = IsFlawOf.wrong_rows (HasNotItsRows.missing (record { name = codes "trace"; presence = Needed; content = At places.Trace }) (0, omega arith, refl) refl refl)

an_option : IsFlawOf [] (At places.Root) (object members) (flaw_at (key (codes "option") ∷ []) Unknown)
unfolding place_of_properties own_place is_position content_under presence_under entries_of rows_of
an_option = IsFlawOf.wrong_rows (HasNotItsRows.unknown (codes "option") null (inl (refl, refl)) (λ content is. some_none None content is.0 refl))

another : IsFlawOf [] (At places.Root) (object members) (flaw_at (key (codes "other") ∷ []) Unknown)
unfolding place_of_properties own_place is_position content_under presence_under entries_of rows_of
another = IsFlawOf.wrong_rows (HasNotItsRows.unknown (codes "other") null (inr (inl (refl, refl))) (λ content is. some_none None content is.0 refl))

-- what is missing comes first, although its name is the last in byte order
missing_first : StandsBefore no_trace an_option
unfolding no_trace an_option
missing_first = inl (inl (omega arith))

-- of two properties that are there, the one of the lower name comes first
lower_first : StandsBefore an_option another
unfolding an_option another
lower_first = inl (inr refl)

-- of a range whose ends are both wrong the first end comes first, and an end before the range
first_end_first : BeforeAtTurn (flaw_at (index 0 ∷ []) WrongKind) (flaw_at (index 1 ∷ []) WrongKind)
first_end_first = inl (inl (omega arith))

end_before_range : BeforeAtTurn (flaw_at (index 1 ∷ []) OutOfRange) (flaw_at [] OutOfRange)
end_before_range = inl tt

-- that a name is a reserved word comes before that it is taken
reserved_before_taken : BeforeAtTurn (flaw_at [] ReservedName) (flaw_at [] NameClash)
reserved_before_taken = inr (refl, (10, 11, omega arith, refl, refl))

-- a missing clock comes before a missing identifier, although its place is the later one
clock_before_identifier : BeforeInWhole (flaw_at (key (codes "trace") ∷ key (codes "type") ∷ key (codes "data-stream-types") ∷ []) NoClock) (flaw_at (key (codes "trace") ∷ key (codes "type") ∷ key (codes "$features") ∷ []) NoUuid)
clock_before_identifier = inl (14, 15, omega arith, refl, refl)

-- of two missing clocks the one at the lower name
lower_clock_first : BeforeInWhole (flaw_at (key (codes "a") ∷ []) NoClock) (flaw_at (key (codes "b") ∷ []) NoClock)
lower_clock_first = inr (refl, inl refl)

-- ---- a value as a tree

-- `{"a": [1, 2.5], "b": 1e3}`, with any two floats
abbrev two_floats : Float → Float → Data
two_floats x y = object (member (codes "a") (array (item (number (unsigned 1)) (item (number (float x)) no_items))) (member (codes "b") (number (float y)) no_members))

abbrev at_a : Flaw
at_a = flaw_at (key (codes "a") ∷ index 1 ∷ []) NotWhole

abbrev at_b : Flaw
at_b = flaw_at (key (codes "b") ∷ []) NotWhole

-- both are flaws
flaw_at_a : (x y : Float) → IsTreeFlaw (two_floats x y) at_a
flaw_at_a x y = (number (float x), (_, _, refl, inl (refl, refl), (_, _, refl, refl, refl)), refl)

flaw_at_b : (x y : Float) → IsTreeFlaw (two_floats x y) at_b
flaw_at_b x y = (number (float y), (_, _, refl, inr (inl (refl, refl)), refl), refl)

-- the one at the lower name is the first, although it lies deeper
lower_float_first : (x y : Float) → IsFirstInTree (two_floats x y) at_a
lower_float_first x y = first_tree_flaw (two_floats x y) at_a (((refl, tt), (tt, tt)), ((tt, (tt, tt)), (tt, tt))) refl

-- how the first name of a path stands to `b`
abbrev from_b : List Place → Ordering
from_b (key name ∷ path) = slice_cmp nat_cmp (codes "b") name
from_b _ = Less

not_above : Equal ≡ Greater → ⊥
not_above e = cc

not_below : Greater ≡ Less → ⊥
not_below e = cc

-- and the other is not
upper_float_later : (x y : Float) → ¬ IsFirstInTree (two_floats x y) at_b
upper_float_later x y first = elim (first.1 at_a (flaw_at_a x y)) [
  | inl same ↦ not_above (ap (λ (f : Flaw). from_b f.path) same)
  | inr (inl less) ↦ not_below less
  | inr (inr (same, later)) ↦ not_above (ap (λ (part : Place). from_b (part ∷ [])) same)
]

-- a list before what it holds
list_before_items : OuterBefore (index 1 ∷ []) (index 1 ∷ index 0 ∷ [])
list_before_items = inr (refl, tt)
