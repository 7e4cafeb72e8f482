-- A property that an object needs and does not have as it is to be, and the flaw that tells of it.
use Rattle.std.specs.Prelude.{◌≡◌, ◌⊎◌, ℕ, List, Some, None}
use Rattle.serde_json.specs.Data.{Data, Members}
use Rattle.serde_json.specs.Find.{get_member}
use Rattle.conf_tree.specs.declared.fault_kind.FaultKind.TheVariants.{Missing}
use Rattle.conf_tree.specs.Flaw.{Flaw, key, here, within}

-- no property of this name, where one is needed
abbrev pub Lacks : List ℕ → Members → Flaw → Type 0
Lacks name ms flaw = (get_member name ms ≡ None) × (flaw ≡ within (key name) (here Missing))

-- a needed property whose value is wrong
abbrev pub HasWrong : List ℕ → (Data → Flaw → Type 0) → Members → Flaw → Type 0
HasWrong name wrong ms flaw = (d : Data) × (f : Flaw) × (get_member name ms ≡ Some d) × wrong d f × (flaw ≡ within (key name) f)

-- a needed property that is missing or wrong
abbrev pub SaysNot : List ℕ → (Data → Flaw → Type 0) → Members → Flaw → Type 0
SaysNot name wrong ms flaw = Lacks name ms flaw ⊎ HasWrong name wrong ms flaw
