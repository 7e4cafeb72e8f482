-- What is wrong with a JSON value as a configuration, whatever its properties mean: objects and lists nested deeper
-- than the limit, and numbers that are no whole numbers of 64 bits. The walk goes over an object or a list before its
-- content, over an object in the order of its members, which is the byte order of their names, and over a list by
-- index.
use Rattle.std.specs.Prelude.{◌≡◌, ◌≤◌, ◌⊎◌, ℕ, zero, suc, List, [], ◌∷◌, ◌++◌, length, map, Some, Result, Ok, Err, true, if◌then◌else◌, IsUtf8, ⊤}
use Rattle.serde_json.specs.Data.{Data, null, boolean, number, string, array, object, Items, no_items, item, Members, no_members, member}
use Rattle.serde_json.specs.Find.{is_float, get_item}
use Rattle.serde_json.specs.Read.{read}
use Rattle.conf_tree.specs.declared.fault_kind.FaultKind.{FaultKind}
use Rattle.conf_tree.specs.declared.fault_kind.FaultKind.TheVariants.{NotJson, TooDeep, NotWhole}
use Rattle.conf_tree.specs.declared.limits.TheConstants.{MAX_LEVELS}
use Rattle.conf_tree.specs.Flaw.{Flaw, Place, key, index, here, within}

-- ---- the flaws of a value, in walk order, where so many more levels may nest

abbrev mutual
  pub flaws : Data → ℕ → List Flaw
  flaws null levels = []
  flaws (boolean b) levels = []
  flaws (number n) levels = if is_float n then here NotWhole ∷ [] else []
  flaws (string s) levels = []
  flaws (array ds) zero = here TooDeep ∷ []
  flaws (array ds) (suc levels) = item_flaws ds 0 levels
  flaws (object ms) zero = here TooDeep ∷ []
  flaws (object ms) (suc levels) = member_flaws ms levels

  -- the items from place i on
  pub item_flaws : Items → ℕ → ℕ → List Flaw
  item_flaws no_items i levels = []
  item_flaws (item d ds) i levels = map (within (index i)) (flaws d levels) ++ item_flaws ds (suc i) levels

  pub member_flaws : Members → ℕ → List Flaw
  member_flaws no_members levels = []
  member_flaws (member k d ms) levels = map (within (key k)) (flaws d levels) ++ member_flaws ms levels

-- what a walk answers: the first flaw, if there is one
abbrev pub refusal : List Flaw → Result ⊤ Flaw
refusal [] = Ok tt
refusal (flaw ∷ rest) = Err flaw

-- ---- a text and its tree

-- the text is the UTF-8 of a JSON value, which is this one
abbrev pub Reads : List ℕ → Data → Type 0
Reads text d = IsUtf8 text × (read text ≡ Some d)

-- the value of the text has no flaw
abbrev pub IsTreeOf : List ℕ → Data → Type 0
IsTreeOf text d = Reads text d × (flaws d MAX_LEVELS ≡ [])

-- the text is no JSON value, or this is the first flaw of the value that it is
abbrev pub IsFirstFlaw : List ℕ → Flaw → Type 0
IsFirstFlaw text flaw =
    ((flaw ≡ here NotJson) × ((d : Data) → ¬ Reads text d))
    ⊎ ((d : Data) × (rest : List Flaw) × Reads text d × (flaws d MAX_LEVELS ≡ flaw ∷ rest))

-- ---- what a flaw means at its place

-- the object has this member
abbrev pub HasMember : List ℕ → Data → Members → Type 0
HasMember k d no_members = ⊥
HasMember k d (member l e ms) = ((k ≡ l) × (d ≡ e)) ⊎ HasMember k d ms

-- the path leads from the value to the value found
abbrev pub LeadsTo : List Place → Data → Data → Type 0
LeadsTo [] d found = found ≡ d
LeadsTo (index i ∷ path) d found =
    (ds : Items) × (e : Data) × (d ≡ array ds) × (get_item i ds ≡ Some e) × LeadsTo path e found
LeadsTo (key k ∷ path) d found =
    (ms : Members) × (e : Data) × (d ≡ object ms) × HasMember k e ms × LeadsTo path e found

abbrev pub IsNested : Data → Type 0
IsNested (array ds) = ⊤
IsNested (object ms) = ⊤
IsNested _ = ⊥

abbrev pub IsFloat : Data → Type 0
IsFloat (number n) = is_float n ≡ true
IsFloat _ = ⊥

-- what a kind says of the value at the end of a path of so many steps, where so many levels may nest
abbrev pub KindHolds : FaultKind → ℕ → ℕ → Data → Type 0
KindHolds TooDeep levels steps found = IsNested found × (levels ≤ steps)
KindHolds NotWhole levels steps found = IsFloat found
KindHolds _ levels steps found = ⊥

-- the kind of the flaw holds at its path
abbrev pub FlawHolds : Data → ℕ → Flaw → Type 0
FlawHolds d levels flaw =
    (found : Data) × LeadsTo flaw.path d found × KindHolds flaw.kind levels (length flaw.path) found
