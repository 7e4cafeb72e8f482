-- What a judge knows around a value is what the value stands in.
use Rattle.std.proofs.Common.{IsTrue, ◌≡◌, ◌⊎◌, ◌+◌, ◌<◌, ℕ, zero, suc, Some, inl, inr, sym, ap, subst, ◌∙◌, arith, ◌↔◌, ◌||◌, Bool, true, List, [], ◌∷◌, Contains, refl, unwrap_or, option_map, cond}
use Rattle.conf_laws.proofs.Words.{Around, member_of, item_of, levels_around, SaysDefault, HasDefault, IsBehindDefault, enumeration_around, IsDynamic, TakesName, IsBeside, IsTaken, Place, Known, nothing, inside, behind, with_taken, is_true, says_default, is_dynamic, take, take_each, take_all, names_beside, with_names, is_taken, all_numbers, numbers_in, HasMember, get_member-put, get_member-put_other, Data, Items, item, null, object, Members, no_members, member, get_item, false≢true, or_cases, or_left, or_right, bytes_eq-Decides, own_names, length_name}
use Rattle.conf_laws.proofs.Words.places

-- these are the items from place i on
abbrev pub IsFrom : Items → ℕ → Items → Type 0
IsFrom all i rest = (j : ℕ) → get_item (j + i) all ≡ get_item j rest

pub from_start : (all : Items) → IsFrom all 0 all
from_start all = λ j. ap (λ n. get_item n all) (omega arith)

pub from_next : (all : Items) (i : ℕ) (d : Data) (rest : Items) → IsFrom all i (item d rest) → IsFrom all (suc i) rest
from_next all i d rest from = λ j. let same : j + suc i ≡ suc j + i = omega arith in ap (λ n. get_item n all) same ∙ from (suc j)

pub item_here : (all : Items) (i : ℕ) (d : Data) (rest : Items) → IsFrom all i (item d rest) → get_item i all ≡ Some d
item_here all i d rest from = let same : i ≡ 0 + i = omega arith in ap (λ n. get_item n all) same ∙ from 0

pub record Agrees (k : Known) (around : Around) : Type 0 where
  pub levels : k.levels ≡ levels_around around
  pub second : IsTrue k.has_default ↔ IsBehindDefault around
  pub numbers : k.numbers ≡ unwrap_or (option_map (λ (e : Bool × Members). numbers_in e.0 e.1) (enumeration_around around)) all_numbers
  pub taken : (name : List ℕ) → IsTrue (is_taken k.taken name) ↔ IsTaken around name

pub nothing_agrees : Agrees nothing []
nothing_agrees = record { levels = refl; second = (λ e. false≢true e, λ h. absurd h); numbers = refl; taken = λ name. (λ e. false≢true e, λ h. absurd h) }

-- ---- a data stream type that says that it is the default

says_told : (d : Data) → says_default d ≡ true → SaysDefault d
says_told d e = grind (arith, e)

told_says : (d : Data) → SaysDefault d → says_default d ≡ true
told_says d (ms, is, flag) = subst (λ x. says_default x ≡ true) (sym is) (ap is_true flag)

-- inside an object, and behind a member of it
module _ (k : Known) (around : Around) (h : Agrees k around) where
  pub inside_agrees : (place : Place) (ms : Members) → Agrees (inside place ms k) (member_of place ms no_members ∷ around)
  unfolding inside
  inside_agrees places.TraceType ms = record { levels = refl; second = h.second; numbers = h.numbers; taken = h.taken }
  inside_agrees places.UnsignedEnumeration ms = record { levels = h.levels; second = h.second; numbers = refl; taken = h.taken }
  inside_agrees places.SignedEnumeration ms = record { levels = h.levels; second = h.second; numbers = refl; taken = h.taken }
  inside_agrees places.StreamTypes ms = record { levels = h.levels; second = (λ e. inr (h.second.0 e), λ p. elim p [ inl (name, d, has, says) ↦ absurd has | inr b ↦ h.second.1 b ]); numbers = h.numbers; taken = h.taken }
  inside_agrees _ ms = record { levels = h.levels; second = h.second; numbers = h.numbers; taken = h.taken }

-- one alternative, then another, and what they are together
joined : {T U V A B C : Type 0} → (T ↔ (A ⊎ U)) → (U ↔ (B ⊎ V)) → (A ⊎ B → C) → (C → A ⊎ B) → T ↔ (C ⊎ V)
joined a b f g = grind (arith, a, b, f, g)

module _ (around : Around) (ms before : Members) (name : List ℕ) (d : Data) where
  default_further : (b : Bool) → (IsTrue b ↔ (HasDefault before ⊎ IsBehindDefault around)) → IsTrue (b || says_default d) ↔ (HasDefault (member name d before) ⊎ IsBehindDefault around)
  default_further b h = joined
      (λ e. elim (or_cases b (says_default d) e) [ inl x ↦ inr x | inr y ↦ inl y ], λ p. elim p [ inl y ↦ or_right b (says_default d) y | inr x ↦ or_left b (says_default d) x ]) h
      (λ p. elim p [ inl says ↦ (name, d, inl (refl, refl), says_told d says) | inr (l, e, has, says) ↦ (l, e, inr has, says) ])
      (λ (l, e, has, says). elim has [ inl same ↦ inl (told_says d (subst SaysDefault same.1 says)) | inr later ↦ inr (l, e, later, says) ])

  pub behind_agrees : (place : Place) (k : Known) → Agrees k (member_of place ms before ∷ around) → Agrees (behind place d k) (member_of place ms (member name d before) ∷ around)
  unfolding behind
  behind_agrees places.StreamTypes k h = record { levels = h.levels; second = default_further k.has_default h.second; numbers = h.numbers; taken = h.taken }
  behind_agrees _ k h = record { levels = h.levels; second = h.second; numbers = h.numbers; taken = h.taken }

-- ---- names that are taken

pub taken_put : (name k : List ℕ) (ms : Members) → IsTrue (is_taken (take k ms) name) ↔ ((name ≡ k) ⊎ IsTrue (is_taken ms name))
taken_put name k ms = grind (arith, bytes_eq-Decides name k, get_member-put k null ms, get_member-put_other name k null ms)

each_taken : (names : List (List ℕ)) (taken : Members) (name : List ℕ) → IsTrue (is_taken (take_each names taken) name) ↔ (Contains names name ⊎ IsTrue (is_taken taken name))
each_taken [] taken name = (λ t. inr t, λ p. elim p [ inl (i, lt, is) ↦ absurd (omega (arith, lt)) | inr t ↦ t ])
each_taken (n ∷ names) taken name = joined (each_taken names (take n taken) name) (taken_put name n taken) (λ p. elim p [ inl c ↦ (suc c.0, omega (arith, c.1), c.2) | inr is ↦ (0, omega arith, sym is) ]) back
  where
    back : Contains (n ∷ names) name → Contains names name ⊎ (name ≡ n)
    back (zero, lt, is) = inr (sym is)
    back (suc i, lt, is) = inl (i, omega (arith, lt), is)

-- ---- dynamic arrays

pub dynamic_told : (d : Data) → is_dynamic d ≡ true → IsDynamic d
unfolding is_dynamic
dynamic_told d e = grind (arith, e)

pub told_dynamic : (d : Data) → IsDynamic d → is_dynamic d ≡ true
unfolding is_dynamic
told_dynamic d (ms, type, is, there, class) = rw (is, there, class) refl

-- ---- the names of the members before one

length_taken : (b : Bool) (d : Data) (k name : List ℕ) (taken : Members) → is_dynamic d ≡ b → IsTrue (is_taken (cond b (take (length_name k) taken) taken) name) ↔ ((IsDynamic d × (name ≡ length_name k)) ⊎ IsTrue (is_taken taken name))
length_taken b d k name taken is = grind (arith, taken_put name (length_name k) taken, dynamic_told d, told_dynamic d, is)

-- a member takes the name, and the members of an entry do
abbrev TakesAs : List ℕ → Data → List ℕ → Type 0
TakesAs k d name = (name ≡ k) ⊎ (IsDynamic d × (name ≡ length_name k))

abbrev MembersTake : Members → List ℕ → Type 0
MembersTake ms name = (k : List ℕ) × (d : Data) × HasMember k d ms × TakesAs k d name

all_taken : (ms taken : Members) (name : List ℕ) → IsTrue (is_taken (take_all ms taken) name) ↔ (MembersTake ms name ⊎ IsTrue (is_taken taken name))
all_taken no_members taken name = (λ t. inr t, λ p. elim p [ inl (k, d, has, is) ↦ absurd has | inr t ↦ t ])
all_taken (member k d ms) taken name =
    joined (all_taken ms (take k (cond (is_dynamic d) (take (length_name k) taken) taken)) name)
    (joined {C = TakesAs k d name} (taken_put name k (cond (is_dynamic d) (take (length_name k) taken) taken)) (length_taken (is_dynamic d) d k name taken refl) (λ p. p) (λ p. p))
    (λ p. elim p [ inl (l, e, has, named) ↦ (l, e, inr has, named) | inr named ↦ (k, d, inl (refl, refl), named) ])
    (λ (l, e, has, named). elim has [ inl same ↦ inr (subst (λ x. TakesAs x d name) same.0 (subst (λ x. TakesAs l x name) same.1 named)) | inr later ↦ inl (l, e, later, named) ])

entry_taken : (d : Data) (taken : Members) (name : List ℕ) → IsTrue (is_taken (with_names d taken) name) ↔ (TakesName d name ⊎ IsTrue (is_taken taken name))
entry_taken (object ms) taken name = grind (arith, all_taken ms taken name)
entry_taken _ taken name = grind arith

-- an entry before place i takes the name
abbrev IsTakenBefore : Items → ℕ → List ℕ → Type 0
IsTakenBefore all i name = (j : ℕ) × (entry : Data) × (j < i) × (get_item j all ≡ Some entry) × TakesName entry name

-- the names that are taken at place i of a list
abbrev pub Takes : Members → Place → Items → ℕ → Type 0
Takes taken place all i = (name : List ℕ) → IsTrue (is_taken taken name) ↔ (IsTakenBefore all i name ⊎ IsBeside place name)

pub takes_beside : (place : Place) (all : Items) → Takes (names_beside place) place all 0
unfolding names_beside
takes_beside places.ExtraMembers all = λ name. grind (arith, each_taken own_names no_members name)
takes_beside _ all = λ name. grind arith

pub takes_further : (taken : Members) (place : Place) (all : Items) (i : ℕ) (d : Data) → get_item i all ≡ Some d → Takes taken place all i → Takes (with_names d taken) place all (suc i)
takes_further taken place all i d is h = λ name. grind (arith, entry_taken d taken name, h name, is)

-- what is taken at an item is what the items before it in its list take
pub item_agrees : (k : Known) (around : Around) (taken : Members) (place : Place) (all : Items) (i : ℕ) → Agrees k around → Takes taken place all i → Agrees (with_taken taken k) (item_of place all i ∷ around)
item_agrees k around taken place all i h takes =
    record { levels = h.levels; second = h.second; numbers = h.numbers; taken = λ name. (λ t. elim ((takes name).0 t) [ inl before ↦ inr before | inr beside ↦ inl beside ], λ p. (takes name).1 (elim p [ inl beside ↦ inr beside | inr before ↦ inl before ])) }
