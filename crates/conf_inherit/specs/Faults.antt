-- What a refusal says: its kind holds at its path, over the configuration as it was given.
use Rattle.std.specs.Prelude.{◌≡◌, ◌<◌, ◌++◌, ◌⊎◌, ℕ, List, [], ◌∷◌, Some, None, true}
use Rattle.serde_json.specs.{Data.{Data, array, object, Items, Members}, Events.members_len, Find.get_item}
use Rattle.conf_tree.specs.{Flaw.{Flaw, Place as Step, key, index}, Walk.HasMember, declared.fault_kind.FaultKind.FaultKind}
use Rattle.conf_tree.specs.declared.fault_kind.FaultKind.TheVariants.{WrongKind, NoSuchAlias, InheritCycle, NameClash, Limit}
use Rattle.conf_tree.specs.declared.limits.TheConstants.{MAX_LEVELS}
use Rattle.conf_table.specs.declared.place.Place.{Place}
use Rattle.conf_inherit.specs.{FieldPlaces.{place_under, place_of_items, lists_members}, Circle.Walks, Flaws.{is_wrong, known_in, name_fault, is_crowded}}
use Rattle.conf_inherit.specs.{Looks.AreResolved, Nesting.PassesDepth, Resolution.{aliases_of, Resolves}, Laying.lay}
use Rattle.conf_inherit.specs.{Limits.Exceeds, Named.{Names, all_named, has}}
use Rattle.conf_table.specs.declared.place.Place.TheVariants as places

-- the path leads from the value v at the place s to the value w at the place t
abbrev pub Leads : Place → Data → List Step → Place → Data → Type 0
Leads s v [] t w = (s ≡ t) × (v ≡ w)
Leads s v (key k ∷ path) t w = (ms : Members) × (d : Data) × (v ≡ object ms) × HasMember k d ms × Leads (place_under s k) d path t w
Leads s v (index i ∷ path) t w = (es : Items) × (d : Data) × (v ≡ array es) × (get_item i es ≡ Some d) × Leads (place_of_items s) d path t w

-- a list has an entry with a member of this name at the place i
abbrev pub HasEntry : ℕ → List ℕ → Items → Type 0
HasEntry i n es = (ms : Members) × (d : Data) × (get_item i es ≡ Some (object ms)) × HasMember n d ms

-- the path ends at an entry of a members list whose name an entry before it has
abbrev pub Clashes : Place → Data → List Step → Type 0
Clashes s v path = (front : List Step) × (t : Place) × (es : Items) × (i : ℕ) × (j : ℕ) × (n : List ℕ)
    × (path ≡ front ++ index j ∷ key n ∷ []) × Leads s v front t (array es) × (lists_members t ≡ true) × (i < j) × HasEntry i n es × HasEntry j n es

-- the path ends at the name of an alias from which there are as many steps as there are aliases
abbrev pub Circles : Members → Place → Data → List Step → Type 0
Circles al s v path = (front : List Step) × (k : List ℕ)
    × (path ≡ front ++ key k ∷ []) × Leads s v front places.FieldTypeAliases (object al) × Walks al (members_len al) k

-- a field type w stands at the place t, all that it names is resolved, and what it is resolved to is past the limit
abbrev pub Passes : Members → FaultKind → Place → Data → Type 0
Passes al kind t w = Names t × ((done : Members) × AreResolved al done × (all_named (has done) t w ≡ true) × Exceeds kind (lay done t w None))

-- what a kind tells of the value w that a path leads to
abbrev pub Tells : Members → FaultKind → Place → Data → Type 0
Tells al WrongKind t w = is_wrong t w ≡ true
Tells al NoSuchAlias t w = name_fault (known_in al) t w ≡ Some NoSuchAlias
Tells al Limit t w = is_crowded t w ≡ true
Tells al _ t w = ⊥

abbrev pub SaysOf : Members → FaultKind → Place → Data → Type 0
SaysOf al kind t w = Tells al kind t w ⊎ Passes al kind t w

-- the kind of a flaw holds at its path
abbrev pub FlawHolds : Members → Place → Data → Flaw → Type 0
FlawHolds al s v flaw =
    ((t : Place) × (w : Data) × Leads s v flaw.path t w × SaysOf al flaw.kind t w)
    ⊎ (((flaw.kind ≡ NameClash) × Clashes s v flaw.path) ⊎ ((flaw.kind ≡ InheritCycle) × Circles al s v flaw.path))

-- the kind of a refusal holds at its path, or the whole resolved configuration nests too deep there
abbrev pub RefusalHolds : Data → Flaw → Type 0
RefusalHolds t flaw = FlawHolds (aliases_of t) places.Root t flaw ⊎ ((r : Data) × Resolves t r × PassesDepth MAX_LEVELS r flaw)
