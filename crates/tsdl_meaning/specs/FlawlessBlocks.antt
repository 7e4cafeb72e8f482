-- What a block is in which no flaw is found, behind the blocks of a ledger: each attribute has what its name asks for, each scope is one of the block's, no
-- name stands twice, what is needed is there, and no other block has its name or its numbers.
use Rattle.std.specs.Prelude.{◌≡◌, ℕ, ◌==◌, Bool, true, false, not, if◌then◌else◌, List, [], ◌∷◌, cond, map, Option, Some, None, codes}
use Rattle.std.specs.Option.{is_some, option_map_or}
use Rattle.std.specs.List.{list_all, AllByRecursion}
use Rattle.std.specs.Str.{bytes_eq}
use Rattle.std.specs.Borrow.{Bor}
use Rattle.std.specs.Ordering.{nat_cmp}
use Rattle.std.specs.BTreeMap.{ContainsKey}
use Rattle.std.specs.BTreeSet.{BTreeSet, contains, contains_text}
use Rattle.std.specs.declared.string.String.{String}
use Rattle.std.specs.declared.alloc.Global.{Global}
use Rattle.tsdl_grammar.specs.declared.tree.Name.{Name}
use Rattle.tsdl_grammar.specs.declared.tree.Value.{Value}
use Rattle.tsdl_grammar.specs.declared.tree.Attribute.{Attribute}
use Rattle.tsdl_grammar.specs.declared.tree.Scope.{Scope}
use Rattle.tsdl_grammar.specs.declared.tree.Item.{Item}
use Rattle.tsdl_grammar.specs.Lookups.{words_of, same_words, attr, attrs_in, scopes_in, attr_names, are_distinct}
use Rattle.tsdl_grammar.specs.AttributeValues.{natural_value, name_value, one_word}
use Rattle.tsdl_grammar.specs.IntegerMeaning.{Known}
use Rattle.tsdl_grammar.specs.BlockMeaning.{packet_header, packet_context, event_header, event_context, specific_context, fields_scope}
use Rattle.tsdl_flaw.specs.Written.{written}
use Rattle.tsdl_flaw.specs.Twice.{HasNumbers}
use Rattle.tsdl_flaw.specs.Asked.{Asked, fits, of_trace, of_stream, of_event, of_clock}
use Rattle.tsdl_flaw.specs.Misfits.{needed_by}
use Rattle.tsdl_meaning.specs.declared.judge.block.BlockKind.{BlockKind}
use Rattle.tsdl_meaning.specs.declared.judge.block.BlockKind.TheVariants as kinds
use Rattle.tsdl_meaning.specs.declared.judge.ledger.Ledger.{Ledger}
use Rattle.tsdl_meaning.specs.declared.scope_rule.ScopeRule.{ScopeRule}
use Rattle.tsdl_meaning.specs.declared.scope_rule.ScopeRule.TheVariants.{AnyMembers, PacketHeader, PacketContext, EventHeader}
use Rattle.tsdl_meaning.specs.Names.{texts_of}
use Rattle.tsdl_meaning.specs.Ledgers.{pair_cmp}
use Rattle.tsdl_meaning.specs.Blocks.{word_of}
use Rattle.tsdl_meaning.specs.FlawlessStructures.{IsFlawless}

-- ---- attributes

-- this number alone
abbrev pub is_number : ℕ → Value → Bool
is_number n v = option_map_or (λ m. m == n) (natural_value v) false

-- a number that no stream of the ledger has
abbrev pub is_new_number : Ledger → Value → Bool
is_new_number ledger v = option_map_or (λ n. not (contains nat_cmp ledger.streams n)) (natural_value v) false

-- a name that no clock of the ledger has
abbrev pub is_new_name : Ledger → Value → Bool
is_new_name ledger v = option_map_or (λ name. not (contains_text ledger.clocks name)) (name_value v) false

-- of two rows of a name the first one counts
abbrev pub trace_asks : Asked
trace_asks = (codes "major", is_number 1) ∷ (codes "minor", is_number 8) ∷ of_trace

abbrev pub stream_asks : Ledger → Asked
stream_asks ledger = (codes "id", is_new_number ledger) ∷ of_stream

abbrev pub clock_asks : Ledger → Asked
clock_asks ledger = (codes "name", is_new_name ledger) ∷ of_clock

abbrev pub asked_of : BlockKind → Ledger → Asked
asked_of kinds.Trace ledger = trace_asks
asked_of kinds.Stream ledger = stream_asks ledger
asked_of kinds.Event ledger = of_event
asked_of kinds.Clock ledger = clock_asks ledger

abbrev pub fits_word : Asked → Option (List ℕ) → Value → Bool
fits_word asked None v = true
fits_word asked (Some w) v = fits asked w v

abbrev pub is_fit : Asked → Attribute → Bool
is_fit asked a = fits_word asked (one_word a.name) a.value

-- the names of a table of needed attributes
abbrev pub first_texts : List (Bor (List ℕ) × Bor (List ℕ)) → List (List ℕ)
first_texts rows = map (λ row. row.0.now) rows

-- ---- scopes

-- the scopes that a block may have, and what each one asks of its members
abbrev pub scopes_of : BlockKind → List (List (List ℕ) × ScopeRule)
scopes_of kinds.Trace = (packet_header, PacketHeader) ∷ []
scopes_of kinds.Stream = (packet_context, PacketContext) ∷ (event_header, EventHeader) ∷ (event_context, AnyMembers) ∷ []
scopes_of kinds.Event = (specific_context, AnyMembers) ∷ (fields_scope, AnyMembers) ∷ []
scopes_of kinds.Clock = []

-- what the scope of this name asks of its members
abbrev pub rule_in : List (List (List ℕ) × ScopeRule) → List (List ℕ) → Option ScopeRule
rule_in [] n = None
rule_in (row ∷ rows) n = if same_words n row.0 then Some row.1 else rule_in rows n

-- a table of scopes as the definitions see it
abbrev pub named_rules : List (Bor (List (Bor (List ℕ))) × ScopeRule) → List (List (List ℕ) × ScopeRule)
named_rules rows = map (λ row. (texts_of row.0.now, row.1)) rows

pub record IsFlawlessScope (known : Known) (kind : BlockKind) (s : Scope) : Type 0 where
  pub rule : ScopeRule
  pub asks : rule_in (scopes_of kind) (words_of s.name) ≡ Some rule
  pub flawless : IsFlawless known rule s.structure

-- ---- names

-- a name that is new among names as they are written, and joins them
pub record AddsName (before : BTreeSet (String Global)) (name : Name) (after : BTreeSet (String Global)) : Type 0 where
  pub fresh : contains_text before (written name) ≡ false
  pub kept : (w : List ℕ) → contains_text after w ≡ cond (bytes_eq (written name) w) true (contains_text before w)

-- ---- items

-- an attribute that has what its name is asked for
pub record AddsAttribute (asked : Asked) (before : BTreeSet (String Global)) (a : Attribute) (after : BTreeSet (String Global)) : Type 0 where
  pub name : AddsName before a.name after
  pub fit : is_fit asked a ≡ true

pub record AddsScope (known : Known) (kind : BlockKind) (before : BTreeSet (String Global)) (s : Scope) (after : BTreeSet (String Global)) : Type 0 where
  pub name : AddsName before s.name after
  pub flawless : IsFlawlessScope known kind s

-- ---- blocks

-- a block without a number of its own, or an event, has numbers that no other has
abbrev pub IsNumberedAnew : BlockKind → Ledger → List Item → Type 0
IsNumberedAnew kinds.Trace ledger is = Unit {0}
IsNumberedAnew kinds.Stream ledger is = attr (codes "id") (attrs_in is) ≡ None → contains nat_cmp ledger.streams 0 ≡ false
IsNumberedAnew kinds.Event ledger is = (stream id : ℕ) → HasNumbers is stream id → ContainsKey pair_cmp ledger.events (stream, id) → ⊥
IsNumberedAnew kinds.Clock ledger is = Unit {0}

pub record IsEnded (kind : BlockKind) (ledger : Ledger) (is : List Item) : Type 0 where
  pub complete : list_all (λ w. is_some (attr w (attrs_in is))) (needed_by (word_of kind)) ≡ true
  pub anew : IsNumberedAnew kind ledger is

-- the attributes and scopes of a block without a flaw
pub record AreFlawless (known : Known) (kind : BlockKind) (ledger : Ledger) (is : List Item) : Type 0 where
  pub attributes : list_all (is_fit (asked_of kind ledger)) (attrs_in is) ≡ true
  pub attributes_once : are_distinct (attr_names (attrs_in is)) ≡ true
  pub scopes : AllByRecursion (IsFlawlessScope known kind) (scopes_in is)
  pub scopes_once : are_distinct (map (λ s. words_of s.name) (scopes_in is)) ≡ true

pub record IsFlawlessBlock (known : Known) (kind : BlockKind) (ledger : Ledger) (is : List Item) : Type 0 where
  pub parts : AreFlawless known kind ledger is
  pub ended : IsEnded kind ledger is
