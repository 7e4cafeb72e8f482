-- The limits of a field type, once it is resolved: its JSON values and its levels. Only a type that resolves has a
-- size: all aliases that it names are resolved. Where a type passes both limits, that of its values is named.
use Rattle.std.specs.Prelude.{◌≡◌, ◌<◌, ◌≤◌, ◌⊎◌, List, [], ◌∷◌, None, Result, Ok, Err, nat_lt, true, if◌then◌else◌}
use Rattle.serde_json.specs.Data.{Data, array, object, Items, no_items, item, Members, no_members, member, depth}
use Rattle.conf_tree.specs.{Flaw.{Flaw, here}, declared.fault_kind.FaultKind.FaultKind, declared.fault_kind.FaultKind.TheVariants.{TooDeep, Limit}}
use Rattle.conf_tree.specs.declared.limits.TheConstants.{MAX_LEVELS, MAX_VALUES}
use Rattle.conf_table.specs.declared.place.Place.{Place}
use Rattle.conf_inherit.specs.{FieldPlaces.{place_under, place_of_items, is_base_name}, Laying.lay, Named.{all_named, has}, Size.size}

-- a resolved type is within both limits
abbrev pub Fits : Data → Type 0
Fits r = (size r ≤ MAX_VALUES) × (depth r ≤ MAX_LEVELS)

-- a resolved type is past the limit of this kind
abbrev pub Exceeds : FaultKind → Data → Type 0
Exceeds Limit r = MAX_VALUES < size r
Exceeds TooDeep r = MAX_LEVELS < depth r
Exceeds _ r = ⊥

-- a resolved type within the limits, or the limit that it passes
abbrev pub fitting : Data → Result Data FaultKind
fitting r = if nat_lt MAX_VALUES (size r) then Err Limit else if nat_lt MAX_LEVELS (depth r) then Err TooDeep else Ok r

abbrev pub passed : Result Data FaultKind → List Flaw
passed (Ok r) = []
passed (Err kind) = here kind ∷ []

-- the limit that a type passes, if it resolves
abbrev pub limit_flaws : Members → Place → Data → List Flaw
limit_flaws done s v = if all_named (has done) s v then passed (fitting (lay done s v None)) else []

abbrev mutual
  -- d is the value of a `$inherit`, anywhere in a value
  pub Inherits : Data → Place → Data → Type 0
  Inherits d s (array es) = InheritsInItems d (place_of_items s) es
  Inherits d s (object ms) = InheritsInMembers d s ms
  Inherits d s _ = ⊥

  pub InheritsInItems : Data → Place → Items → Type 0
  InheritsInItems d s no_items = ⊥
  InheritsInItems d s (item e es) = Inherits d s e ⊎ InheritsInItems d s es

  pub InheritsInMembers : Data → Place → Members → Type 0
  InheritsInMembers d s no_members = ⊥
  InheritsInMembers d s (member k e ms) = (((is_base_name s k ≡ true) × (d ≡ e)) ⊎ Inherits d (place_under s k) e) ⊎ InheritsInMembers d s ms
