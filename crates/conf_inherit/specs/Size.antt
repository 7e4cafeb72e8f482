-- How many JSON values a value holds, itself counted, and where there are more than a limit allows.
use Rattle.std.specs.Prelude.{◌≡◌, ◌+◌, ◌<◌, ◌≤◌, ℕ, suc, Option, Some, None}
use Rattle.serde_json.specs.Data.{Data, array, object, Items, no_items, item, Members, no_members, member}
use Rattle.conf_inherit.specs.{declared.size.Stop.Stop, declared.size.Stop.TheVariants.{Memory, Limit}}

abbrev mutual
  -- the values of a value
  pub size : Data → ℕ
  size (array ds) = suc (items_size ds)
  size (object ms) = suc (members_size ms)
  size _ = 1

  pub items_size : Items → ℕ
  items_size no_items = 0
  items_size (item d ds) = size d + items_size ds

  pub members_size : Members → ℕ
  members_size no_members = 0
  members_size (member k d ms) = size d + members_size ms

-- so many values are within a limit, where there is one
abbrev pub Within : Option ℕ → ℕ → Type 0
Within None n = Unit {0}
Within (Some limit) n = n ≤ limit

-- so many values are past a limit
abbrev pub Past : Option ℕ → ℕ → Type 0
Past None n = ⊥
Past (Some limit) n = limit < n

-- what a limit leaves once so many values are counted
abbrev pub Leaves : Option ℕ → ℕ → Option ℕ → Type 0
Leaves None n left = left ≡ None
Leaves (Some limit) n left = (rest : ℕ) × (left ≡ Some rest) × (limit ≡ rest + n)

-- a stop is for want of memory, or so many values are past the limit
abbrev pub IsDue : Stop → Option ℕ → ℕ → Type 0
IsDue Memory limit n = Unit {0}
IsDue Limit limit n = Past limit n
