-- The order of flaws by their places and by their kinds. Properties are in byte order of their names, and the items of a list by index.
use Rattle.std.specs.Prelude.{◌≡◌, ◌⊎◌, ◌<◌, ℕ, List, [], ◌∷◌, Some, slice_get}
use Rattle.std.specs.Ordering.{nat_cmp}
use Rattle.std.specs.declared.cmp.Ordering.TheVariants.{Less}
use Rattle.std.specs.Cmp.Lexicographic.{slice_cmp}
use Rattle.conf_tree.specs.declared.fault_kind.FaultKind.{FaultKind}
use Rattle.conf_tree.specs.declared.fault_kind.FaultKind.TheVariants.{NotJson, TooDeep, WrongKind, NotWhole, Missing, Unknown, NoSuchAlias, InheritCycle, OutOfRange, BadName, ReservedName, NameClash, FieldTooSmall, ZeroSizeRecord, NoClock, NoUuid, Limit, TwoOrders, TimestampSize, OutOfMemory}
use Rattle.conf_tree.specs.Flaw.{Flaw, Place, key, index}

-- ---- places

-- in byte order
abbrev pub NameBefore : List ℕ → List ℕ → Type 0
NameBefore k l = slice_cmp nat_cmp k l ≡ Less

-- properties by name, and items by index
abbrev pub PartBefore : Place → Place → Type 0
PartBefore (key k) (key l) = NameBefore k l
PartBefore (index i) (index j) = i < j
PartBefore _ _ = ⊥

-- a value before what it holds, and else the first parts that differ say which is before the other
abbrev pub OuterBefore : List Place → List Place → Type 0
OuterBefore [] (part ∷ other) = Unit {0}
OuterBefore (a ∷ path) (b ∷ other) = PartBefore a b ⊎ ((a ≡ b) × OuterBefore path other)
OuterBefore path [] = ⊥

-- the same, but a value behind what it holds
abbrev pub InnerBefore : List Place → List Place → Type 0
InnerBefore (part ∷ path) [] = Unit {0}
InnerBefore (a ∷ path) (b ∷ other) = PartBefore a b ⊎ ((a ≡ b) × InnerBefore path other)
InnerBefore [] other = ⊥

-- ---- kinds

-- the kinds of faults in their order: of a text and its tree, of objects and what they inherit, of names, and then, rule by rule, of a
-- whole configuration
abbrev pub kinds : List FaultKind
kinds =
    NotJson ∷ TooDeep ∷ WrongKind ∷ NotWhole ∷ Missing ∷ Unknown ∷ NoSuchAlias ∷ InheritCycle ∷ OutOfRange ∷ BadName ∷ ReservedName ∷ NameClash
    ∷ FieldTooSmall ∷ ZeroSizeRecord ∷ NoClock ∷ NoUuid ∷ Limit ∷ TwoOrders ∷ TimestampSize ∷ OutOfMemory ∷ []

abbrev pub KindBefore : FaultKind → FaultKind → Type 0
KindBefore k l = (i j : ℕ) × (i < j) × (slice_get kinds i ≡ Some k) × (slice_get kinds j ≡ Some l)

-- ---- flaws

-- of two flaws of one value that it has at one turn of a walk: one of a part before one of the whole, as an end of a range before the range,
-- and at one place by kind
abbrev pub BeforeAtTurn : Flaw → Flaw → Type 0
BeforeAtTurn f g = InnerBefore f.path g.path ⊎ ((f.path ≡ g.path) × KindBefore f.kind g.kind)

-- of two flaws of a whole configuration: by kind, and of one kind the one to whose place a walk comes first
abbrev pub BeforeInWhole : Flaw → Flaw → Type 0
BeforeInWhole f g = KindBefore f.kind g.kind ⊎ ((f.kind ≡ g.kind) × OuterBefore f.path g.path)
