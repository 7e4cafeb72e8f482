-- The attributes, scopes and entries of blocks in another order.
use Rattle.std.proofs.Common.{◌≡◌, ℕ, suc, Bool, true, false, not, cond, ◌&&◌, List, [], ◌∷◌, ◌++◌, map, length, Option, Some, refl, sym, ap, ap₂, subst, ◌∙◌, inl, inr, codes, nat_le, flat_map, bytes_eq}
use Rattle.std.specs.{List.{list_any, list_all}, Cmp.IsEquivalence, Cmp.Lexicographic.{lists_equiv, nat_list_eq_equiv}}
use Rattle.std.proofs.{lemmas.Bool.cases_Bool, lemmas.List.Concat.flat_map-cons, lemmas.Option.same_Some}
use Rattle.ctf_types.specs.{declared.EnvironmentEntry.EnvironmentEntry, declared.Metadata.Metadata, declared.limits.TheConstants.MAX_ENVIRONMENT}
use Rattle.tsdl_grammar.specs.{declared.tree.Item.Item, declared.tree.NamedFact.NamedFact, declared.tree.Block.Block}
use Rattle.tsdl_grammar.specs.{IntegerMeaning.Known, Laws.SaysMetadata}
use Rattle.tsdl_grammar.specs.Steps.{◌>>=◌, provided, only, at_most_one, each}
use Rattle.tsdl_grammar.specs.Lookups.{words_of, same_words, is_among, no_two, are_distinct, attr, attr_names, attr_in, attrs_in, scope, scope_in, scopes_in, has_parts}
use Rattle.tsdl_grammar.specs.BlockMeaning.{packet_header, has_number, is_trace, trace_order, trace_uuid, header_meaning, clock_meaning, packet_context, event_header, event_context, stream_meaning, specific_context, fields_scope, event_meaning, named_fact_meaning, environment_meaning}
use Rattle.tsdl_grammar.specs.Denotes.{text_meta, trace_in, stream_in, event_in, clock_in, environment_in, known_of, streams_meaning}
use Rattle.tsdl_grammar.specs.Orders.{Reordered, same, neighbours, behind, further, SameItems, traces, streams, events, clocks, environments, Paired, none, more, SameButEnvironmentOrder}
use Rattle.tsdl_grammar.proofs.{MeaningParts.{says_metadata, text_says}, Runs.and_true}
use Rattle.tsdl_grammar.proofs.Inversion.{bind_some, bind_is, provided_some}
use Rattle.tsdl_grammar.proofs.Reordering.{reordered_parts, reordered_map, gathered_stay, all_stays, no_two_stays, each_stays}

words_equiv : IsEquivalence same_words
words_equiv = lists_equiv nat_list_eq_equiv

-- two names that are one are the same
both_are : (v w n : List (List ℕ)) → same_words v n ≡ true → same_words w n ≡ true → same_words v w ≡ true
both_are v w n p q = words_equiv.congr v n w p ∙ words_equiv.symm n w ∙ q

looks_swap : {A : Type 0} (b c : Bool) (u v o : Option A) → (b ≡ true → c ≡ true → ⊥) → cond b u (cond c v o) ≡ cond c v (cond b u o)
looks_swap true true u v o h = absurd (h refl refl)
looks_swap true false u v o h = refl
looks_swap false true u v o h = refl
looks_swap false false u v o h = refl

pub distinct_stay : {A : Type 0} (name : A → List (List ℕ)) {xs ys : List A} → Reordered xs ys → are_distinct (map name xs) ≡ are_distinct (map name ys)
distinct_stay name r = no_two_stays same_words words_equiv.symm (reordered_map name r)

-- what stands under a name is the same in any order, where no name stands twice
pub look_stays : {A B : Type 0} (name : A → List (List ℕ)) (value : A → B) (n : List (List ℕ)) (look : List A → Option B)
    → ((x : A) (xs : List A) → look (x ∷ xs) ≡ cond (same_words (name x) n) (Some (value x)) (look xs)) → {xs ys : List A} → Reordered xs ys → are_distinct (map name xs) ≡ true → look xs ≡ look ys
look_stays name value n look step (same xs) d = refl
look_stays name value n look step (neighbours x y xs) d =
    rw (step x (y ∷ xs), step y xs, step y (x ∷ xs), step x xs) (looks_swap (same_words (name x) n) (same_words (name y) n) (Some (value x)) (Some (value y)) (look xs)
    (λ p q. absurd (let twice = rw (both_are (name x) (name y) n p q) at d in cc)))
look_stays {A} {B} name value n look step (behind x xs ys r) d =
    rw (step x xs, step x ys) (ap (λ (o : Option B). cond (same_words (name x) n) (Some (value x)) o)
    (look_stays name value n look step r (and_true (not (list_any (same_words (name x)) (map name xs))) (are_distinct (map name xs)) d).1))
look_stays name value n look step (further xs ys zs r s) d = look_stays name value n look step r d ∙ look_stays name value n look step s (sym (distinct_stay name r) ∙ d)

-- items in another order have the same parts
module _ (is js : List Item) (r : Reordered is js) (allowed : List (List (List ℕ))) where
  abbrev attr_part : Reordered (attrs_in is) (attrs_in js)
  attr_part = reordered_parts attr_in r

  abbrev scope_part : Reordered (scopes_in is) (scopes_in js)
  scope_part = reordered_parts scope_in r

  parts_stay : has_parts allowed is ≡ has_parts allowed js
  parts_stay =
      ap₂ (λ (a b : Bool). a && b) (ap₂ (λ (a b : Bool). a && b) (distinct_stay (λ a. words_of a.name) attr_part) (distinct_stay (λ s. words_of s.name) scope_part)) (all_stays (λ s. is_among allowed (words_of s.name)) scope_part)

  once : has_parts allowed is ≡ true → (are_distinct (attr_names (attrs_in is)) ≡ true) × (are_distinct (map (λ s. words_of s.name) (scopes_in is)) ≡ true)
  once h =
      and_true (are_distinct (attr_names (attrs_in is))) (are_distinct (map (λ s. words_of s.name) (scopes_in is)))
      (and_true (are_distinct (attr_names (attrs_in is)) && are_distinct (map (λ s. words_of s.name) (scopes_in is))) (list_all (λ s. is_among allowed (words_of s.name)) (scopes_in is)) h).0

  attr_alike : has_parts allowed is ≡ true → (w : List ℕ) → attr w (attrs_in is) ≡ attr w (attrs_in js)
  attr_alike h w = look_stays (λ a. words_of a.name) (λ a. a.value) (w ∷ []) (attr w) (λ x xs. refl) attr_part (once h).0

  scope_alike : has_parts allowed is ≡ true → (n : List (List ℕ)) → scope n (scopes_in is) ≡ scope n (scopes_in js)
  scope_alike h n = look_stays (λ s. words_of s.name) (λ s. s.structure) n (scope n) (λ x xs. refl) scope_part (once h).1

  guarded : {A : Type 0} (o p : Option A) → (has_parts allowed is ≡ true → o ≡ p) → provided (has_parts allowed is) o ≡ provided (has_parts allowed js) p
  guarded o p alike = elim (cases_Bool (has_parts allowed is)) [ inl t ↦ rw (t, sym parts_stay ∙ t) (alike t) | inr f ↦ rw (f, sym parts_stay ∙ f) refl ]

clock_stays : (is js : List Item) → Reordered is js → clock_meaning is ≡ clock_meaning js
unfolding clock_meaning
clock_stays is js r =
    guarded is js r [] _ _ (λ h. let a = attr_alike is js r [] h in
    rw (a (codes "name"), a (codes "uuid"), a (codes "description"), a (codes "freq"), a (codes "precision"), a (codes "offset_s"), a (codes "offset"), a (codes "absolute")) refl)

abbrev stream_scopes : List (List (List ℕ))
stream_scopes = packet_context ∷ event_header ∷ event_context ∷ []

stream_stays : (known : Known) (is js : List Item) → Reordered is js → stream_meaning known is ≡ stream_meaning known js
unfolding stream_meaning
stream_stays known is js r =
    guarded is js r stream_scopes _ _ (λ h. let a = attr_alike is js r stream_scopes h in let s = scope_alike is js r stream_scopes h in
    rw (a (codes "id"), s packet_context, s event_header, s event_context) refl)

abbrev event_scopes : List (List (List ℕ))
event_scopes = specific_context ∷ fields_scope ∷ []

event_stays : (known : Known) (is js : List Item) → Reordered is js → event_meaning known is ≡ event_meaning known js
unfolding event_meaning
event_stays known is js r =
    guarded is js r event_scopes _ _ (λ h. let a = attr_alike is js r event_scopes h in let s = scope_alike is js r event_scopes h in
    rw (a (codes "name"), a (codes "id"), a (codes "stream_id"), a (codes "loglevel"), s specific_context, s fields_scope) refl)

abbrev trace_scopes : List (List (List ℕ))
trace_scopes = packet_header ∷ []

trace_stays : (is js : List Item) (known : Known) → Reordered is js → is_trace is ≡ true → (is_trace is ≡ is_trace js) × (trace_order is ≡ trace_order js) × (trace_uuid is ≡ trace_uuid js) × (header_meaning known is ≡ header_meaning known js)
unfolding trace_uuid header_meaning
trace_stays is js known r e =
    let versions = and_true (has_parts trace_scopes is && has_number (codes "major") 1 is) (has_number (codes "minor") 8 is) e in
    let h = (and_true (has_parts trace_scopes is) (has_number (codes "major") 1 is) versions.0).0 in
    let a = attr_alike is js r trace_scopes h in
    (rw (parts_stay is js r trace_scopes, a (codes "major"), a (codes "minor")) refl, rw (a (codes "byte_order")) refl, rw (a (codes "uuid")) refl, rw (scope_alike is js r trace_scopes h packet_header) refl)

environment_stays : (fs gs : List NamedFact) (entries : List EnvironmentEntry) → Reordered fs gs → environment_meaning fs ≡ Some entries
    → (others : List EnvironmentEntry) × (environment_meaning gs ≡ Some others) × Reordered entries others
unfolding environment_meaning
environment_stays fs gs entries r e =
    let p = provided_some (nat_le (length fs) MAX_ENVIRONMENT && no_two bytes_eq (map (λ f. f.name) fs)) (each named_fact_meaning fs) entries e in
    let i = each_stays named_fact_meaning entries r p.1 in
    let tests : (nat_le (length fs) MAX_ENVIRONMENT && no_two bytes_eq (map (λ f. f.name) fs)) ≡ (nat_le (length gs) MAX_ENVIRONMENT && no_two bytes_eq (map (λ f. f.name) gs)) =
    ap₂ (λ (n : ℕ) (b : Bool). nat_le n MAX_ENVIRONMENT && b) (gathered_stay length (λ f n. suc n) (λ f fs. refl) (λ f g n. refl) r) (no_two_stays bytes_eq nat_list_eq_equiv.symm (reordered_map (λ f. f.name) r))
    in
    (i.0, ap (λ (b : Bool). provided b (each named_fact_meaning gs)) (sym tests ∙ p.0) ∙ i.1, i.2)

pub paired_append : {A : Type 0} {R : A → A → Type 0} {xs ys us vs : List A} → Paired R xs ys → Paired R us vs → Paired R (xs ++ us) (ys ++ vs)
paired_append none q = q
paired_append (more x y xs ys r p) q = more x y _ _ r (paired_append p q)

paired_parts : {A : Type 0} (part : Block → List (List A)) {bs cs : List Block} → ((b c : Block) → SameItems b c → Paired Reordered (part b) (part c)) → Paired SameItems bs cs
    → Paired Reordered (flat_map part bs) (flat_map part cs)
paired_parts part h none = none
paired_parts part h (more b c bs cs r p) = rw (flat_map-cons part b bs, flat_map-cons part c cs) (paired_append (h b c r) (paired_parts part h p))

one_pair : {A : Type 0} {xs ys : List A} → Reordered xs ys → Paired Reordered (xs ∷ []) (ys ∷ [])
one_pair r = more _ _ [] [] r none

-- what two blocks of the same items have inside, by the kind of block
record PartsPaired (b c : Block) : Type 0 where
  trace : Paired Reordered (trace_in b) (trace_in c)
  stream : Paired Reordered (stream_in b) (stream_in c)
  event : Paired Reordered (event_in b) (event_in c)
  clock : Paired Reordered (clock_in b) (clock_in c)
  environment : Paired Reordered (environment_in b) (environment_in c)

parts_pair : (b c : Block) → SameItems b c → PartsPaired b c
parts_pair _ _ (traces is js r) = record { trace = one_pair r; stream = none; event = none; clock = none; environment = none }
parts_pair _ _ (streams is js r) = record { trace = none; stream = one_pair r; event = none; clock = none; environment = none }
parts_pair _ _ (events is js r) = record { trace = none; stream = none; event = one_pair r; clock = none; environment = none }
parts_pair _ _ (clocks is js r) = record { trace = none; stream = none; event = none; clock = one_pair r; environment = none }
parts_pair _ _ (environments fs gs r) = record { trace = none; stream = none; event = none; clock = none; environment = one_pair r }

only_pair : {A : Type 0} {R : A → A → Type 0} {xs ys : List A} (x : A) → Paired R xs ys → only xs ≡ Some x → (y : A) × (only ys ≡ Some y) × R x y
only_pair x none e = absurd cc
only_pair {A} {R} x (more u v _ _ r none) e = (v, refl, subst (λ (w : A). R w v) (same_Some u x e) r)
only_pair x (more u v _ _ r (more y z us vs s p)) e = absurd cc

at_most_one_pair : {A : Type 0} {xs ys : List (List A)} (x : List A) → Paired Reordered xs ys → at_most_one xs ≡ Some x → (y : List A) × (at_most_one ys ≡ Some y) × Reordered x y
at_most_one_pair {A} x none e = ([], refl, subst (λ (w : List A). Reordered w []) (same_Some [] x e) (same []))
at_most_one_pair {A} x (more u v _ _ r none) e = (v, refl, subst (λ (w : List A). Reordered w v) (same_Some u x e) r)
at_most_one_pair x (more u v _ _ r (more y z us vs s p)) e = absurd cc

pub each_pair : {A B : Type 0} {R : A → A → Type 0} (f : A → Option B) {xs ys : List A} → ((x y : A) → R x y → f x ≡ f y) → Paired R xs ys → each f xs ≡ each f ys
each_pair f h none = refl
each_pair {A} {B} f h (more x y xs ys r p) = ap₂ (λ (o : Option B) (q : Option (List B)). o >>= λ u. q >>= λ us. Some (u ∷ us)) (h x y r) (each_pair f h p)

streams_inside : (known : Known) (bs cs : List Block) → Paired SameItems bs cs → streams_meaning known bs ≡ streams_meaning known cs
unfolding streams_meaning
streams_inside known bs cs p =
    rw (each_pair (stream_meaning known) (stream_stays known) (paired_parts stream_in (λ b c s. (parts_pair b c s).stream) p), each_pair (event_meaning known) (event_stays known) (paired_parts event_in (λ b c s. (parts_pair b c s).event) p)) refl

pub items_reordered : (bs cs : List Block) (m : Metadata) → Paired SameItems bs cs → text_meta bs ≡ Some m → (n : Metadata) × (text_meta cs ≡ Some n) × SameButEnvironmentOrder m n
items_reordered bs cs m p e =
    let s = says_metadata bs m e in
    let t = only_pair s.trace (paired_parts trace_in (λ b c s. (parts_pair b c s).trace) p) s.one_trace in
    let f = bind_some (at_most_one (flat_map environment_in bs)) environment_meaning m.environment s.environment in
    let g = at_most_one_pair f.0 (paired_parts environment_in (λ b c s. (parts_pair b c s).environment) p) f.1 in
    let v = environment_stays f.0 g.0 m.environment g.2 f.2 in
    let stays = trace_stays s.trace t.0 (known_of m.order m.clocks) t.2 s.version in
    let n : Metadata = record m { environment = v.0 } in
    let says : SaysMetadata cs n = record {
      trace = t.0;
      one_trace = t.1;
      version = sym stays.0 ∙ s.version;
      order = sym stays.1 ∙ s.order;
      uuid = sym stays.2 ∙ s.uuid;
      environment = bind_is (at_most_one (flat_map environment_in cs)) environment_meaning g.0 v.0 g.1 v.1;
      clocks = sym (each_pair clock_meaning clock_stays (paired_parts clock_in (λ b c s. (parts_pair b c s).clock) p)) ∙ s.clocks;
      clocks_once = s.clocks_once;
      header = sym stays.3 ∙ s.header;
      streams = sym (streams_inside (known_of m.order m.clocks) bs cs p) ∙ s.streams;
    } in
    (n, text_says cs n says, record { environment = v.2; others = refl })
