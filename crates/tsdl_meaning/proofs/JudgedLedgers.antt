-- What a ledger has of the blocks before a place, and flaws where a text ends.
use Rattle.std.proofs.Common.{◌≡◌, ℕ, Bool, true, cond, List, ◌∷◌, ◌++◌, Option, Some, sym, ap, ◌∙◌, subst, inl, inr, bytes_eq, ◌≤◌, ◌⊎◌, length, arith, []}
use Rattle.std.proofs.lemmas.Map.Lookups.{exact_unsigned, exact_pairs}
use Rattle.tsdl_meaning.proofs.TextWords.{AllByRecursion, AreNoted, Atom, BTreeMap, BTreeSet, ContainsKey, Equal-is, Global, HasClock, HasEvent, HasNumbers, Holds, IfSizesMissed, IsSome, IsWrong, Item, Ledger, Stop, StopsIn, String, block_toks, bytes_eq-Decides, cases_Bool, clock_name, contains, contains_text, get, is_at, is_eq, is_some, kind_of, most, nat_cmp, pair_cmp}
use Rattle.std.specs.Map.{lookup}
use Rattle.std.proofs.lemmas.Bool.Decides.{nat_tests}
use Rattle.tsdl_grammar.specs.declared.tree.Block.TheVariants as blocks
use Rattle.tsdl_meaning.proofs.JudgedParts.{holds_more}
use Rattle.tsdl_grammar.specs.declared.fault.MetaFaultKind.{MetaFaultKind}
use Rattle.tsdl_flaw.specs.declared.flaw.Flaw.{Flaw}
use Rattle.tsdl_flaw.specs.declared.flaw.Stop.TheVariants as stops
use Rattle.tsdl_flaw.specs.TextStops.{IsMissed, IsTextFault, StopsText}

-- what stands before a place stands before a later one
pub noted_more : (front more : List Atom) (ledger : Ledger) → AreNoted front ledger → AreNoted (front ++ more) ledger
noted_more front more ledger n = record {
  trace = λ h. let t = n.trace h in (t.0, holds_more front more (block_toks (blocks.Trace t.0)) t.1);
  environment = λ h. let t = n.environment h in (t.0, holds_more front more (block_toks (blocks.Environment t.0)) t.1);
  clocks = λ name h. let t = n.clocks name h in (t.0, holds_more front more (block_toks (blocks.Clock t.0)) t.1, t.2);
  streams = λ id h. let t = n.streams id h in (t.0, holds_more front more (block_toks (blocks.Stream t.0)) t.1, t.2);
  events = λ key h. let t = n.events key h in (t.0, holds_more front more (block_toks (blocks.Event t.0)) t.1, t.2);
}

-- one more clock
pub clock_more : (front : List Atom) (old new : BTreeSet (String Global)) (items : List Item) (name : List ℕ) → ((w : List ℕ) → contains_text old w ≡ true → HasClock front w)
    → ((w : List ℕ) → contains_text new w ≡ cond (bytes_eq name w) true (contains_text old w)) → Holds front (block_toks (blocks.Clock items)) → clock_name items ≡ Some name
    → (w : List ℕ) → contains_text new w ≡ true → HasClock front w
clock_more front old new items name known u here is w h = elim (cases_Bool (bytes_eq name w)) [
  | inl e ↦ let same : name ≡ w = (bytes_eq-Decides name w).0 e in (items, here, is ∙ ap (λ (n : List ℕ). Some n) same)
  | inr e ↦ known w (ap (λ (b : Bool). cond b true (contains_text old w)) (sym e) ∙ sym (u w) ∙ h)
]

-- the events with one more
pub key_known : (old new : BTreeMap (ℕ × ℕ) (String Global)) (items : List Item) (key : ℕ × ℕ) (name : Option (String Global))
    → ((k : ℕ × ℕ) → get pair_cmp new k ≡ cond (is_eq (pair_cmp key k)) name (get pair_cmp old k)) → HasNumbers items key.0 key.1
    → (k : ℕ × ℕ) → ContainsKey pair_cmp new k → ContainsKey pair_cmp old k ⊎ HasNumbers items k.0 k.1
key_known old new items key name u is k h = elim (cases_Bool (is_eq (pair_cmp key k))) [
  | inl e ↦
      let same : key ≡ k = exact_pairs nat_cmp nat_cmp exact_unsigned exact_unsigned key k ((Equal-is (pair_cmp key k)).0 e) in
      inr (subst (λ (n : ℕ × ℕ). HasNumbers items n.0 n.1) same is)
  | inr e ↦
      let there : get pair_cmp new k ≡ get pair_cmp old k = u k ∙ ap (λ (b : Bool). cond b name (get pair_cmp old k)) e in
      inl (subst (λ (o : Option (String Global)). IsSome o) there h)
]

pub event_more : (front : List Atom) (old new : BTreeMap (ℕ × ℕ) (String Global)) (items : List Item) (key : ℕ × ℕ) (name : Option (String Global))
    → ((k : ℕ × ℕ) → ContainsKey pair_cmp old k → HasEvent front k)
    → ((k : ℕ × ℕ) → get pair_cmp new k ≡ cond (is_eq (pair_cmp key k)) name (get pair_cmp old k)) → Holds front (block_toks (blocks.Event items)) → HasNumbers items key.0 key.1
    → (k : ℕ × ℕ) → ContainsKey pair_cmp new k → HasEvent front k
event_more front old new items key name known u here is k h = elim (key_known old new items key name u is k h) [ inl there ↦ known k there | inr same ↦ (items, here, same) ]

-- a key stays where another is inserted
pub key_stays : (old new : BTreeMap (ℕ × ℕ) (String Global)) (key other : ℕ × ℕ) (name : Option (String Global)) → is_some name ≡ true
    → get pair_cmp new other ≡ cond (is_eq (pair_cmp key other)) name (get pair_cmp old other) → ContainsKey pair_cmp old other → ContainsKey pair_cmp new other
key_stays old new key other name some u there = grind (arith, some, u, there)

-- each entry's stream is there, and so is the one of any key
pub key_streams : (streams : BTreeSet ℕ) (entries : List ((ℕ × ℕ) × String Global)) (key : ℕ × ℕ) → AllByRecursion (λ e. contains nat_cmp streams e.0.0 ≡ true) entries
    → is_some (lookup (is_at (pair_cmp key)) entries) ≡ true → contains nat_cmp streams key.0 ≡ true
key_streams streams [] key all there = absurd cc
key_streams streams (e ∷ es) key all there =
    grind (arith, exact_pairs nat_cmp nat_cmp exact_unsigned exact_unsigned key e.0, Equal-is (pair_cmp key e.0), key_streams streams es key, all, there)

-- a key of the first entry, and of the others
pub key_first : (entry : (ℕ × ℕ) × String Global) (entries : List ((ℕ × ℕ) × String Global)) → is_some (lookup (is_at (pair_cmp entry.0)) (entry ∷ entries)) ≡ true
key_first entry entries = grind (arith, nat_tests)

pub key_behind : (entry : (ℕ × ℕ) × String Global) (entries : List ((ℕ × ℕ) × String Global)) (key : ℕ × ℕ) → is_some (lookup (is_at (pair_cmp key)) entries) ≡ true
    → is_some (lookup (is_at (pair_cmp key)) (entry ∷ entries)) ≡ true
key_behind entry entries key there = grind (arith, there)

-- ---- the end of a text

pub at_end : (toks : List Atom) (at : ℕ) (flaw : Flaw) → at ≡ length toks → IsMissed toks (kind_of flaw) → IsTextFault toks (record { at = at; end = at; flaw = flaw })
at_end toks at flaw e missed = inr (missed, e, e)

-- a stop among the atoms of a text
pub text_stop : (toks : List Atom) (stop : Stop) → StopsIn [] 0 toks stop → StopsText toks stop
text_stop toks (stops.Fault fault) s = λ h. inl (s (omega arith))
text_stop toks stops.NoMemory s = tt

-- a stop among the atoms of a text is never for want of a size
pub never_sizes : (toks : List Atom) (stop : Stop) (P : Type 0) → StopsIn [] 0 toks stop → length toks ≤ most → IfSizesMissed stop P
never_sizes toks (stops.Fault fault) P s bound =
    let stands = s (omega (arith, bound)) in
    λ kind. absurd (subst (λ (k : MetaFaultKind). IsWrong stands.flaw.before stands.flaw.piece k) kind stands.flaw.wrong)
never_sizes toks stops.NoMemory P s bound = tt
