-- Where objects and lists nest too deep.
use Rattle.std.specs.Prelude.{◌≡◌, ℕ, zero, suc, ◌++◌, List, [], ◌∷◌, length, map}
use Rattle.serde_json.specs.Data.{Data, null, boolean, number, string, array, object, Items, no_items, item, Members, no_members, member}
use Rattle.conf_tree.specs.{Flaw.{Flaw, key, index, here, within}, Walk.{LeadsTo, IsNested}, declared.fault_kind.FaultKind.TheVariants.TooDeep}

abbrev mutual
  -- the objects and lists that stand inside so many others, in walk order
  pub deep_flaws : Data → ℕ → List Flaw
  deep_flaws null levels = []
  deep_flaws (boolean b) levels = []
  deep_flaws (number n) levels = []
  deep_flaws (string s) levels = []
  deep_flaws (array ds) zero = here TooDeep ∷ []
  deep_flaws (array ds) (suc levels) = deep_item_flaws 0 ds levels
  deep_flaws (object ms) zero = here TooDeep ∷ []
  deep_flaws (object ms) (suc levels) = deep_member_flaws ms levels

  -- the items from place i on
  pub deep_item_flaws : ℕ → Items → ℕ → List Flaw
  deep_item_flaws i no_items levels = []
  deep_item_flaws i (item d ds) levels = map (within (index i)) (deep_flaws d levels) ++ deep_item_flaws (suc i) ds levels

  pub deep_member_flaws : Members → ℕ → List Flaw
  deep_member_flaws no_members levels = []
  deep_member_flaws (member k d ms) levels = map (within (key k)) (deep_flaws d levels) ++ deep_member_flaws ms levels

-- the flaw's path leads to an object or a list that stands inside so many others
abbrev pub PassesDepth : ℕ → Data → Flaw → Type 0
PassesDepth levels d flaw = (flaw.kind ≡ TooDeep) × ((found : Data) × LeadsTo flaw.path d found × IsNested found × (length flaw.path ≡ levels))
