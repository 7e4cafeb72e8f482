-- The limit that a walk over a configuration answers is the first by the table: it stands before each other one that the configuration
-- passes.
use Rattle.std.proofs.Common.{◌≡◌, ◌⊎◌, ◌↔◌, ◌+◌, ◌≤◌, ℕ, zero, suc, Bool, true, false, List, [], ◌∷◌, ◌++◌, map, Option, Some, None, unwrap_or, Err, inl, inr, refl, sym, ap, subst, ◌∙◌, arith}
use Rattle.conf_laws.specs.FlawOrder.{OuterBefore}
use Rattle.conf_laws.specs.WalkOrder.{Turn, its_label, by_itself, what_it_holds, WayBefore, way_to_limit, IsFirstLimitOf}
use Rattle.conf_laws.proofs.Agreement.{IsFrom, from_start, from_next, item_here}
use Rattle.conf_laws.proofs.Readings.{by_found}
use Rattle.conf_laws.proofs.TableLimitLaws.{by_fails, IsLongLabel, label_fails, unknown_fits}
use Rattle.conf_laws.proofs.ValueFlawLaws.{IsJudged}
use Rattle.conf_laws.proofs.WalkOrderLaws.{one_before, From, from_turn, from_less, one_turn, above, TellsFirst, alone_first, Leads, leads_judged, leads_joined, Within, leads_within}
use Rattle.conf_laws.proofs.Words.{Place, At, Content, content_under, PassesBy, PassesLimitOf, told_by, within_limit, fits, key_fits, inner_limits, item_limits, member_limits, content_limits, configuration_limits, place_of_properties, item_content, Flaw, PathPart, key, index, here, within, Limit, HasMember, refusal, Ascends, IsInOrder, ItemsAscend, MembersAscend, Data, object, Members, array, Items, no_items, item, no_members, member, get_item, true≢false}
use Rattle.conf_laws.proofs.Words.places
use Rattle.conf_laws.proofs.Words.contents

-- ---- the limits that a value passes, each at its way

abbrev LargeAt : Content → Data → List Turn → Flaw → Type 0
LargeAt content d q f = (q ≡ by_itself ∷ []) × (PassesBy content d × (f ≡ here Limit))

abbrev LabelAt : Place → List ℕ → List Turn → Flaw → Type 0
LabelAt place name q f = (q ≡ its_label ∷ []) × (IsLongLabel place name × (f ≡ here Limit))

-- nothing is asked of a property that is unknown
abbrev KnownAt : (Content → List Turn → Flaw → Type 0) → Option Content → List Turn → Flaw → Type 0
KnownAt held None q f = ⊥
KnownAt held (Some content) q f = held content q f

abbrev mutual
  InnerAt : Data → Content → List Turn → Flaw → Type 0
  InnerAt (array ds) (At place) q f = ItemsAt ds place 0 q f
  InnerAt (object ms) (At place) q f = MembersAt ms (place_of_properties place ms) q f
  InnerAt _ content q f = ⊥

  ItemsAt : Items → Place → ℕ → List Turn → Flaw → Type 0
  ItemsAt no_items place i q f = ⊥
  ItemsAt (item d rest) place i q f = Within (index i) (λ p g. LargeAt (item_content place) d p g ⊎ InnerAt d (item_content place) p g) q f ⊎ ItemsAt rest place (suc i) q f

  MembersAt : Members → Place → List Turn → Flaw → Type 0
  MembersAt no_members place q f = ⊥
  MembersAt (member name d rest) place q f =
      Within (key name) (λ p g. LabelAt place name p g ⊎ KnownAt (λ content x h. LargeAt content d x h ⊎ InnerAt d content x h) (content_under place name) p g) q f ⊎ MembersAt rest place q f

abbrev ContentAt : Data → Content → List Turn → Flaw → Type 0
ContentAt d content q f = LargeAt content d q f ⊎ InnerAt d content q f

-- ---- how they begin

items_behind : (rest : Items) (place : Place) (i : ℕ) (q : List Turn) (f : Flaw) → ItemsAt rest place i q f → (j : ℕ) × (p : List Turn) × (i ≤ j) × (q ≡ what_it_holds (index j) ∷ p)
items_behind no_items place i q f h = absurd h
items_behind (item d rest) place i q f (inl (p, g, is, seen, passed)) = (i, p, omega arith, is)
items_behind (item d rest) place i q f (inr later) = let (j, p, most, is) = items_behind rest place (suc i) q f later in (j, p, omega (arith, most), is)

members_behind : (rest : Members) (place : Place) (q : List Turn) (f : Flaw) → MembersAt rest place q f → (name : List ℕ) × (d : Data) × (p : List Turn) × HasMember name d rest × (q ≡ what_it_holds (key name) ∷ p)
members_behind no_members place q f h = absurd h
members_behind (member name d rest) place q f (inl (p, g, is, seen, passed)) = (name, d, p, inl (refl, refl), is)
members_behind (member name d rest) place q f (inr later) = let (l, e, p, has, is) = members_behind rest place q f later in (l, e, p, inr has, is)

inner_from : (d : Data) (content : Content) (q : List Turn) (f : Flaw) → InnerAt d content q f → From 2 q
inner_from (array ds) (At place) q f h = let (j, p, most, is) = items_behind ds place 0 q f h in from_turn (what_it_holds (index j)) 2 q p is (omega arith)
inner_from (object ms) (At place) q f h = let (name, d, p, has, is) = members_behind ms (place_of_properties place ms) q f h in from_turn (what_it_holds (key name)) 2 q p is (omega arith)
inner_from _ content q f h = absurd h

content_from : (d : Data) (content : Content) (q : List Turn) (f : Flaw) → ContentAt d content q f → From 1 q
content_from d content q f (inl (is, passed)) = from_turn by_itself 1 q [] is (omega arith)
content_from d content q f (inr h) = from_less 1 2 q (omega arith) (inner_from d content q f h)

-- ---- the walk has the first of them

limit_judged : (P : Type 0) (b : Bool) → (b ≡ false) ↔ P → IsJudged (within_limit b) (λ f. P × (f ≡ here Limit))
limit_judged P true same = λ f passed. true≢false (same.1 passed.0)
limit_judged P false same = (same.0 refl, refl)

limit_first : (P : Type 0) (b : Bool) → (b ≡ false) ↔ P → TellsFirst (within_limit b) (λ f. P × (f ≡ here Limit))
limit_first P b same = alone_first (λ f. P × (f ≡ here Limit)) (within_limit b) (limit_judged P b same) (λ f g one other. one.1 ∙ sym other.1)

content_leads : (d : Data) (content : Content) → Leads (inner_limits content d) (InnerAt d content) → Leads (content_limits content d) (ContentAt d content)
content_leads d content inner =
    leads_joined (LargeAt content d) (InnerAt d content) (told_by (within_limit (fits content d))) (inner_limits content d) (leads_judged by_itself (λ f. PassesBy content d × (f ≡ here Limit)) (within_limit (fits content d)) (limit_judged (PassesBy content d) (fits content d) (by_fails content d)) (limit_first (PassesBy content d) (fits content d) (by_fails content d))) inner
    (λ p q f g a b. one_turn by_itself 1 p q a.0 (omega arith) (inner_from d content q g b))

-- of a property, with its label before it
property_leads : (place : Place) (name : List ℕ) (d : Data) → ((content : Content) → Leads (inner_limits content d) (InnerAt d content))
    → Leads (told_by (within_limit (key_fits place name)) ++ content_limits (unwrap_or (content_under place name) contents.Anything) d) (λ q f. LabelAt place name q f ⊎ KnownAt (ContentAt d) (content_under place name) q f)
property_leads place name d inner =
    by_found (λ (o : Option Content). Leads (told_by (within_limit (key_fits place name)) ++ content_limits (unwrap_or o contents.Anything) d) (λ q f. LabelAt place name q f ⊎ KnownAt (ContentAt d) o q f)) (content_under place name)
    (λ none. leads_joined (LabelAt place name) (KnownAt (ContentAt d) None) (told_by (within_limit (key_fits place name))) (content_limits contents.Anything d) label (subst (λ xs. Leads xs (KnownAt (ContentAt d) None)) (sym (unknown_fits d)) (λ q f h. h)) (λ p q f g a b. absurd b))
    (λ content is. leads_joined (LabelAt place name) (ContentAt d content) (told_by (within_limit (key_fits place name))) (content_limits content d) label (content_leads d content (inner content)) (λ p q f g a b. one_turn its_label 0 p q a.0 (omega arith) (content_from d content q g b)))
  where
    label : Leads (told_by (within_limit (key_fits place name))) (LabelAt place name)
    label = leads_judged its_label (λ f. IsLongLabel place name × (f ≡ here Limit)) (within_limit (key_fits place name)) (limit_judged (IsLongLabel place name) (key_fits place name) (label_fails place name)) (limit_first (IsLongLabel place name) (key_fits place name) (label_fails place name))

mutual
  inner_leads : (d : Data) → Ascends d → (content : Content) → Leads (inner_limits content d) (InnerAt d content)
  inner_leads (array ds) ascends (At place) = items_lead ds place 0 ascends
  inner_leads (object ms) ascends (At place) = members_lead ms (place_of_properties place ms) ascends.0 ascends.1
  inner_leads _ ascends content = λ q f passed. passed

  items_lead : (rest : Items) (place : Place) (i : ℕ) → ItemsAscend rest → Leads (item_limits place i rest) (ItemsAt rest place i)
  items_lead no_items place i ascend = λ q f passed. passed
  items_lead (item d rest) place i ascend =
      let content = item_content place in
      leads_joined (Within (index i) (ContentAt d content)) (ItemsAt rest place (suc i)) (map (within (index i)) (content_limits content d)) (item_limits place (suc i) rest)
      (leads_within (index i) (ContentAt d content) (content_limits content d) (content_leads d content (inner_leads d ascend.0 content))) (items_lead rest place (suc i) ascend.1)
      (λ p q f g a b. let (n, way, least, is) = items_behind rest place (suc i) q g b in one_before (what_it_holds (index i)) (what_it_holds (index n)) a.0 way p q (omega (arith, least)) a.2 is)

  members_lead : (rest : Members) (place : Place) → IsInOrder rest → MembersAscend rest → Leads (member_limits place rest) (MembersAt rest place)
  members_lead no_members place order ascend = λ q f passed. passed
  members_lead (member name d rest) place order ascend =
      let Here : List Turn → Flaw → Type 0 = λ q f. LabelAt place name q f ⊎ KnownAt (ContentAt d) (content_under place name) q f in
      let first = told_by (within_limit (key_fits place name)) ++ content_limits (unwrap_or (content_under place name) contents.Anything) d in
      leads_joined (Within (key name) Here) (MembersAt rest place) (map (within (key name)) first) (member_limits place rest) (leads_within (key name) Here first (property_leads place name d (λ content. inner_leads d ascend.0 content))) (members_lead rest place order.1 ascend.1)
      (λ p q f g a b. let (l, e, way, has, is) = members_behind rest place q g b in one_before (what_it_holds (key name)) (what_it_holds (key l)) a.0 way p q (above name l e rest order.0 has) a.2 is)

-- ---- each limit that is passed by the table stands at its way

member_found : (place : Place) (name : List ℕ) (d : Data) (ms : Members) (p : List Turn) (g : Flaw) → HasMember name d ms → LabelAt place name p g ⊎ KnownAt (ContentAt d) (content_under place name) p g → MembersAt ms place (what_it_holds (key name) ∷ p) (within (key name) g)
member_found place name d no_members p g has h = absurd has
member_found place name d (member n e rest) p g (inl (same, is)) h =
    inl (p, g, ap (λ k. what_it_holds (key k) ∷ p) same, ap (λ k. within (key k) g) same, subst (λ k. LabelAt place k p g ⊎ KnownAt (ContentAt e) (content_under place k) p g) same (subst (λ x. LabelAt place name p g ⊎ KnownAt (ContentAt x) (content_under place name) p g) is h))
member_found place name d (member n e rest) p g (inr has) h = inr (member_found place name d rest p g has h)

item_found : (place : Place) (rest : Items) (i j n : ℕ) (d : Data) (p : List Turn) (g : Flaw) → n ≡ j + i → get_item j rest ≡ Some d → ContentAt d (item_content place) p g → ItemsAt rest place i (what_it_holds (index n) ∷ p) (within (index n) g)
item_found place no_items i j n d p g same is h = absurd cc
item_found place (item x rest) i zero n d p g same is h =
    let one : x ≡ d = cc in
    let this : n ≡ i = omega (arith, same) in
    inl (p, g, ap (λ m. what_it_holds (index m) ∷ p) this, ap (λ m. within (index m) g) this, subst (λ y. ContentAt y (item_content place) p g) (sym one) h)
item_found place (item x rest) i (suc j) n d p g same is h = inr (item_found place rest (suc i) j n d p g (omega (arith, same)) is h)

stands_at : (content : Content) (d : Data) (f : Flaw) (passed : PassesLimitOf content d f) → ContentAt d content (way_to_limit passed) f
stands_at content d f (PassesLimitOf.too_large passed) = inl (refl, (passed, refl))
stands_at content d f (PassesLimitOf.long_label {place = place} {ms = ms} label v entries has is labels long) = inr (member_found (place_of_properties place ms) label v ms (its_label ∷ []) (here Limit) has (inl (refl, ((entries, is, labels, long), refl))))
stands_at content d f (PassesLimitOf.in_property {place = place} {ms = ms} name v inner g has is passed) =
    let own = place_of_properties place ms in
    inr (member_found own name v ms (way_to_limit passed) g has (inr (subst (λ o. KnownAt (ContentAt v) o (way_to_limit passed) g) (sym is) (stands_at inner v g passed))))
stands_at content d f (PassesLimitOf.in_item {place = place} {ds = ds} i v g is passed) = inr (item_found place ds 0 i i v (way_to_limit passed) g (omega arith) is (stands_at (item_content place) v g passed))

-- ---- what stands at a way is a limit that is passed by the table

abbrev LimitAt : Content → Data → List Turn → Flaw → Type 0
LimitAt content d q f = (passed : PassesLimitOf content d f) × (way_to_limit passed ≡ q)

limit_moved : (content : Content) (d : Data) (p q : List Turn) (f g : Flaw) → q ≡ p → g ≡ f → LimitAt content d p f → LimitAt content d q g
limit_moved content d p q f g way same h = subst (λ w. LimitAt content d w g) (sym way) (subst (LimitAt content d p) (sym same) h)

large_is : (d : Data) (content : Content) (q : List Turn) (f : Flaw) → LargeAt content d q f → LimitAt content d q f
large_is d content q f (way, (passed, is)) = limit_moved content d (by_itself ∷ []) q (here Limit) f way is (PassesLimitOf.too_large passed, refl)

property_is : (place : Place) (ms : Members) (name : List ℕ) (d : Data) → HasMember name d ms → ((content : Content) (q : List Turn) (f : Flaw) → InnerAt d content q f → LimitAt content d q f) → (p : List Turn) (g : Flaw)
    → LabelAt (place_of_properties place ms) name p g ⊎ KnownAt (ContentAt d) (content_under (place_of_properties place ms) name) p g → LimitAt (At place) (object ms) (what_it_holds (key name) ∷ p) (within (key name) g)
property_is place ms name d has held p g (inl (way, ((entries, is, labels, long), same))) =
    limit_moved (At place) (object ms) (what_it_holds (key name) ∷ its_label ∷ []) (what_it_holds (key name) ∷ p) (within (key name) (here Limit)) (within (key name) g) (ap (λ w. what_it_holds (key name) ∷ w) way) (ap (within (key name)) same) (PassesLimitOf.long_label name d entries has is labels long, refl)
property_is place ms name d has held p g (inr known) =
    by_found (λ (o : Option Content). content_under (place_of_properties place ms) name ≡ o → KnownAt (ContentAt d) o p g → LimitAt (At place) (object ms) (what_it_holds (key name) ∷ p) (within (key name) g)) (content_under (place_of_properties place ms) name) (λ none is h. absurd h)
    (λ content found is h.
    let (passed, way) : LimitAt content d p g = elim h [ inl large ↦ large_is d content p g large | inr inner ↦ held content p g inner ] in
    (PassesLimitOf.in_property name d content g has is passed, ap (λ w. what_it_holds (key name) ∷ w) way)) refl known

mutual
  inner_is : (d : Data) (content : Content) (q : List Turn) (f : Flaw) → InnerAt d content q f → LimitAt content d q f
  inner_is (array ds) (At place) q f h = items_are ds place ds 0 (from_start ds) q f h
  inner_is (object ms) (At place) q f h = members_are ms place ms (λ name d has. has) q f h
  inner_is _ content q f h = absurd h

  items_are : (rest : Items) (place : Place) (all : Items) (i : ℕ) → IsFrom all i rest → (q : List Turn) (f : Flaw) → ItemsAt rest place i q f → LimitAt (At place) (array all) q f
  items_are no_items place all i from q f h = absurd h
  items_are (item d rest) place all i from q f (inl (p, g, way, is, h)) =
      let (passed, same) : LimitAt (item_content place) d p g = elim h [ inl large ↦ large_is d (item_content place) p g large | inr inner ↦ inner_is d (item_content place) p g inner ] in
      limit_moved (At place) (array all) (what_it_holds (index i) ∷ p) q (within (index i) g) f way is (PassesLimitOf.in_item i d g (item_here all i d rest from) passed, ap (λ w. what_it_holds (index i) ∷ w) same)
  items_are (item d rest) place all i from q f (inr later) = items_are rest place all (suc i) (from_next all i d rest from) q f later

  members_are : (rest : Members) (place : Place) (all : Members) → ((name : List ℕ) (d : Data) → HasMember name d rest → HasMember name d all) → (q : List Turn) (f : Flaw) → MembersAt rest (place_of_properties place all) q f → LimitAt (At place) (object all) q f
  members_are no_members place all there q f h = absurd h
  members_are (member name d rest) place all there q f (inl (p, g, way, is, h)) =
      limit_moved (At place) (object all) (what_it_holds (key name) ∷ p) q (within (key name) g) f way is (property_is place all name d (there name d (inl (refl, refl))) (λ content x y held. inner_is d content x y held) p g h)
  members_are (member name d rest) place all there q f (inr later) = members_are rest place all (λ n x has. there n x (inr has)) q f later

-- ---- a whole configuration

-- the limit to which a way leads
abbrev told_at : List Turn → Flaw
told_at (what_it_holds part ∷ way) = within part (told_at way)
told_at _ = here Limit

limit_by_way : (content : Content) (d : Data) (f : Flaw) (passed : PassesLimitOf content d f) → f ≡ told_at (way_to_limit passed)
limit_by_way content d f (PassesLimitOf.too_large passed) = refl
limit_by_way content d f (PassesLimitOf.long_label label v entries has is labels long) = refl
limit_by_way content d f (PassesLimitOf.in_property name v inner g has is passed) = ap (within (key name)) (limit_by_way inner v g passed)
limit_by_way content d f (PassesLimitOf.in_item {place = place} i v g is passed) = ap (within (index i)) (limit_by_way (item_content place) v g passed)

first_of : (d : Data) (limits : List Flaw) (flaw : Flaw) → Leads limits (ContentAt d (At places.Root)) → refusal limits ≡ Err flaw → IsFirstLimitOf d flaw
first_of d [] flaw h e = absurd cc
first_of d (g ∷ rest) flaw (p, stands, first) e =
    let same : g ≡ flaw = cc in
    let (told, way) : LimitAt (At places.Root) d p g = elim stands [ inl large ↦ large_is d (At places.Root) p g large | inr inner ↦ inner_is d (At places.Root) p g inner ] in
    let is : IsFirstLimitOf d g = (
      told,
      λ other passed. elim (first (way_to_limit passed) other (stands_at (At places.Root) d other passed)) [
        | inl less ↦ inr (subst (λ w. WayBefore w (way_to_limit passed)) (sym way) less)
        | inr (alike, first) ↦ inl (limit_by_way (At places.Root) d g told ∙ ap told_at (way ∙ alike) ∙ sym (limit_by_way (At places.Root) d other passed))
      ],
    ) in
    subst (IsFirstLimitOf d) same is

pub first_limit_found : (d : Data) (flaw : Flaw) → Ascends d → refusal (configuration_limits d) ≡ Err flaw → IsFirstLimitOf d flaw
first_limit_found d flaw ascends e = first_of d (configuration_limits d) flaw (content_leads d (At places.Root) (inner_leads d ascends (At places.Root))) e

-- ---- the first limit is the first by its place

-- to the label of an entry or to a value, in what others hold
data IsLimitWay : List Turn → Type 0 where
  to_label : IsLimitWay (its_label ∷ [])
  to_value : IsLimitWay (by_itself ∷ [])
  further : (part : PathPart) (way : List Turn) → IsLimitWay way → IsLimitWay (what_it_holds part ∷ way)

is_limit_way : (content : Content) (d : Data) (f : Flaw) (passed : PassesLimitOf content d f) → IsLimitWay (way_to_limit passed)
is_limit_way content d f (PassesLimitOf.too_large passed) = to_value
is_limit_way content d f (PassesLimitOf.long_label label v entries has is labels long) = further (key label) (its_label ∷ []) to_label
is_limit_way content d f (PassesLimitOf.in_property name v inner g has is passed) = further (key name) (way_to_limit passed) (is_limit_way inner v g passed)
is_limit_way content d f (PassesLimitOf.in_item {place = place} i v g is passed) = further (index i) (way_to_limit passed) (is_limit_way (item_content place) v g passed)

-- one place, or one before the other
abbrev Outer : Flaw → Flaw → Type 0
Outer f g = (f ≡ g) ⊎ OuterBefore f.path g.path

outer_within : (part : PathPart) (f g : Flaw) → Outer f g → Outer (within part f) (within part g)
outer_within part f g (inl same) = inl (ap (within part) same)
outer_within part f g (inr less) = inr (inr (refl, less))

by_way : (p q : List Turn) → IsLimitWay p → IsLimitWay q → WayBefore p q → Outer (told_at p) (told_at q)
by_way p q (further a way one) (further b rest other) (inl (inl less)) = absurd (omega (arith, less))
by_way p q (further a way one) (further b rest other) (inl (inr part)) = inr (inl part)
by_way p q (further a way one) (further b rest other) (inr (same, less)) =
    let part : a ≡ b = cc in
    subst (λ x. Outer (within a (told_at way)) (within x (told_at rest))) part (outer_within a (told_at way) (told_at rest) (by_way way rest one other less))
by_way p q (further a way one) to_label (inl (inl less)) = absurd (omega (arith, less))
by_way p q (further a way one) to_label (inl (inr part)) = absurd part
by_way p q (further a way one) to_label (inr (same, less)) = absurd cc
by_way p q (further a way one) to_value (inl (inl less)) = absurd (omega (arith, less))
by_way p q (further a way one) to_value (inl (inr part)) = absurd part
by_way p q (further a way one) to_value (inr (same, less)) = absurd cc
by_way p q to_label (further b rest other) less = inr tt
by_way p q to_value (further b rest other) less = inr tt
by_way p q to_label to_label less = inl refl
by_way p q to_label to_value less = inl refl
by_way p q to_value to_label less = inl refl
by_way p q to_value to_value less = inl refl

pub first_by_place : (d : Data) (flaw other : Flaw) → IsFirstLimitOf d flaw → PassesLimitOf (At places.Root) d other → (flaw ≡ other) ⊎ OuterBefore flaw.path other.path
first_by_place d flaw other (told, first) passed = elim (first other passed) [
  | inl same ↦ inl same
  | inr less ↦
      let one : flaw ≡ told_at (way_to_limit told) = limit_by_way (At places.Root) d flaw told in
      let two : other ≡ told_at (way_to_limit passed) = limit_by_way (At places.Root) d other passed in
      let outer = by_way (way_to_limit told) (way_to_limit passed) (is_limit_way (At places.Root) d flaw told) (is_limit_way (At places.Root) d other passed) less in
      subst (λ f. Outer f other) (sym one) (subst (Outer (told_at (way_to_limit told))) (sym two) outer)
]

pub limit_kind : (content : Content) (d : Data) (f : Flaw) → PassesLimitOf content d f → f.kind ≡ Limit
limit_kind content d f (PassesLimitOf.too_large passed) = refl
limit_kind content d f (PassesLimitOf.long_label label v entries has is labels long) = refl
limit_kind content d f (PassesLimitOf.in_property name v inner g has is passed) = limit_kind inner v g passed
limit_kind content d f (PassesLimitOf.in_item {place = place} i v g is passed) = limit_kind (item_content place) v g passed
