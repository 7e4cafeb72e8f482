-- A value in which the names of each object stand in byte order, no two equal: every JSON value that was read.
use Rattle.std.specs.Prelude.{◌≡◌, ℕ, List}
use Rattle.std.specs.Ordering.{nat_cmp, Ordering-set}
use Rattle.std.specs.declared.cmp.Ordering.TheVariants.{Less}
use Rattle.std.specs.Cmp.Lexicographic.{slice_cmp}
use Rattle.serde_json.specs.Data.{Data, null, boolean, number, string, array, object, Items, no_items, item, Members, no_members, member}

-- every name is above this one, in byte order
abbrev pub AllAbove : List ℕ → Members → Type 0
AllAbove k no_members = Unit {0}
AllAbove k (member l d ms) = (slice_cmp nat_cmp k l ≡ Less) × AllAbove k ms

-- the names ascend in byte order
abbrev pub IsInOrder : Members → Type 0
IsInOrder no_members = Unit {0}
IsInOrder (member k d ms) = AllAbove k ms × IsInOrder ms

abbrev mutual
  pub Ascends : Data → Type 0
  Ascends null = Unit {0}
  Ascends (boolean b) = Unit {0}
  Ascends (number n) = Unit {0}
  Ascends (string s) = Unit {0}
  Ascends (array ds) = ItemsAscend ds
  Ascends (object ms) = IsInOrder ms × MembersAscend ms

  pub ItemsAscend : Items → Type 0
  ItemsAscend no_items = Unit {0}
  ItemsAscend (item d ds) = Ascends d × ItemsAscend ds

  pub MembersAscend : Members → Type 0
  MembersAscend no_members = Unit {0}
  MembersAscend (member k d ms) = Ascends d × MembersAscend ms

-- ---- there is one proof of each at most

AllAbove-prop : (k : List ℕ) (ms : Members) (x y : AllAbove k ms) → x ≡ y
AllAbove-prop k no_members x y = λ i. tt
AllAbove-prop k (member l d ms) x y = λ i. (Ordering-set (slice_cmp nat_cmp k l) Less x.0 y.0 i, AllAbove-prop k ms x.1 y.1 i)

IsInOrder-prop : (ms : Members) (x y : IsInOrder ms) → x ≡ y
IsInOrder-prop no_members x y = λ i. tt
IsInOrder-prop (member k d ms) x y = λ i. (AllAbove-prop k ms x.0 y.0 i, IsInOrder-prop ms x.1 y.1 i)

mutual
  pub Ascends-prop : (d : Data) (x y : Ascends d) → x ≡ y
  Ascends-prop null x y = λ i. tt
  Ascends-prop (boolean b) x y = λ i. tt
  Ascends-prop (number n) x y = λ i. tt
  Ascends-prop (string s) x y = λ i. tt
  Ascends-prop (array ds) x y = ItemsAscend-prop ds x y
  Ascends-prop (object ms) x y = λ i. (IsInOrder-prop ms x.0 y.0 i, MembersAscend-prop ms x.1 y.1 i)

  ItemsAscend-prop : (ds : Items) (x y : ItemsAscend ds) → x ≡ y
  ItemsAscend-prop no_items x y = λ i. tt
  ItemsAscend-prop (item d ds) x y = λ i. (Ascends-prop d x.0 y.0 i, ItemsAscend-prop ds x.1 y.1 i)

  MembersAscend-prop : (ms : Members) (x y : MembersAscend ms) → x ≡ y
  MembersAscend-prop no_members x y = λ i. tt
  MembersAscend-prop (member k d ms) x y = λ i. (Ascends-prop d x.0 y.0 i, MembersAscend-prop ms x.1 y.1 i)
