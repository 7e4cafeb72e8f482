-- The aliases while they are resolved. The body of a resolved alias is never read again, so null may stand in its
-- place: of such an alias only the name is asked.
use Rattle.std.specs.Prelude.{◌≡◌, ◌⊎◌, ℕ, List, true}
use Rattle.serde_json.specs.Data.{null, Members, no_members, member}
use Rattle.conf_inherit.specs.{Named.has, Rounds.{Outcomes, Reached}, Whole.with_property}

-- what is left of the aliases `al`: each name, and its body or, where it is resolved, null
abbrev pub Spends : Members → Members → Members → Type 0
Spends done no_members no_members = Unit {0}
Spends done no_members (member j v vs) = ⊥
Spends done (member k w ms) no_members = ⊥
Spends done (member k w ms) (member j v vs) = (k ≡ j) × (((v ≡ w) ⊎ ((v ≡ null) × (has done k ≡ true))) × Spends done ms vs)

-- the members with null in the place of the value of a name
abbrev pub spent : List ℕ → Members → Members
spent n ms = with_property n (λ d. null) ms

-- turns of the aliases `al` led to these outcomes, and left this of the aliases
pub record TurnsLeave (al : Members) (st : Outcomes) (left : Members) : Type 0 where
  pub reached : Reached al st
  pub spends : Spends st.done al left
