-- The numbers of the streams and events of a text, as a ledger has them, and what the text lacks where they are not all there.
use Rattle.std.proofs.Common.{◌≡◌, ℕ, Bool, true, List, ◌∷◌, ◌++◌, Contains, Some, refl, sym, ap, ◌∙◌, subst, inl, inr, codes, arith, []}
use Rattle.std.proofs.lemmas.List.Elements.{Contains-append_left, Contains-push, Contains-push_cases}
use Rattle.tsdl_grammar.specs.declared.tree.Block.TheVariants as blocks
use Rattle.tsdl_meaning.specs.FlawlessTexts.{AddsEvent}
use Rattle.tsdl_meaning.proofs.TextWords.{AddsBlock, AddsStream, Block, ContainsKey, HasNumbers, IsEmpty, IsFlawlessBehind, IsUnfinished, Item, Known, LacksBlocks, Ledger, append-nil, attrs_in, false≢true, some_same, contains, event_in, flat_map, nat_cmp, number_or_zero, pair_cmp, stream_in, text_toks, trace_in}
use Rattle.tsdl_meaning.proofs.FlawlessBlocks.{stream_means}
use Rattle.tsdl_meaning.proofs.FlawlessItems.{flat_more}
use Rattle.tsdl_meaning.proofs.FlawlessTexts.{IsSeen, Text}

-- the numbers of these streams are in the ledger, and those of an event in the ledger are of one of these events
pub record AreListed (ledger : Ledger) (streams events : List (List Item)) : Type 0 where
  pub numbers : (s : List Item) → Contains streams s → (n : ℕ) → number_or_zero (codes "id") (attrs_in s) ≡ Some n → contains nat_cmp ledger.streams n ≡ true
  pub sources : (key : ℕ × ℕ) → ContainsKey pair_cmp ledger.events key → (e : List Item) × Contains events e × HasNumbers e key.0 key.1

abbrev pub Listed : Ledger → List Block → Type 0
Listed ledger bs = AreListed ledger (flat_map stream_in bs) (flat_map event_in bs)

pub none_listed : (ledger : Ledger) → IsEmpty ledger → Listed ledger []
none_listed ledger e = record { numbers = λ s there. absurd (let h = there.1 in omega arith); sources = λ key there. absurd (e.events key there) }

one_stream : (known : Known) (ledger after : Ledger) (streams events : List (List Item)) (is : List Item) → AreListed ledger streams events → IsFlawlessBehind known ledger (blocks.Stream is) → (adds : AddsStream ledger is after)
    → AreListed (record ledger { streams = adds.streams }) (streams ++ is ∷ []) events
one_stream known ledger after streams events is s f adds =
    let o = stream_means known ledger is f in
    let added = adds.added o.id o.numbered in
    record {
      numbers = λ x there n numbered. elim (Contains-push_cases streams is x there) [
        | inl old ↦ (added n).1 (inr (s.numbers x old n numbered))
        | inr same ↦ (added n).1 (inl (some_same n o.id (number_or_zero (codes "id") (attrs_in x)) numbered (ap (λ (y : List Item). number_or_zero (codes "id") (attrs_in y)) (sym same) ∙ o.numbered)))
      ];
      sources = s.sources;
    }

one_event : (ledger after : Ledger) (streams events : List (List Item)) (is : List Item) → AreListed ledger streams events → (adds : AddsEvent ledger is after)
    → AreListed (record ledger { events = adds.events }) streams (events ++ is ∷ [])
one_event ledger after streams events is s adds = record {
  numbers = s.numbers;
  sources = λ key there. elim (adds.known key there) [
    | inl old ↦ let e = s.sources key old in (e.0, Contains-append_left events (is ∷ []) e.0 e.1, e.2)
    | inr numbers ↦ (is, Contains-push events is, numbers)
  ];
}

abbrev Next : Ledger → List Block → Block → Type 0
Next ledger bs b = AreListed ledger (flat_map stream_in bs ++ stream_in b) (flat_map event_in bs ++ event_in b)

next : (known : Known) (ledger after : Ledger) (bs : List Block) (b : Block) → Listed ledger bs → IsFlawlessBehind known ledger b → AddsBlock ledger b after → Next after bs b
next known ledger after bs (blocks.Trace is) s f adds =
    subst (λ (l : Ledger). Next l bs (blocks.Trace is)) (sym adds) (rw (append-nil (flat_map stream_in bs), append-nil (flat_map event_in bs)) (record { numbers = s.numbers; sources = s.sources }))
next known ledger after bs (blocks.Stream is) s f adds =
    subst (λ (l : Ledger). Next l bs (blocks.Stream is)) (sym adds.others) (rw (append-nil (flat_map event_in bs)) (one_stream known ledger after (flat_map stream_in bs) (flat_map event_in bs) is s f adds))
next known ledger after bs (blocks.Event is) s f adds =
    subst (λ (l : Ledger). Next l bs (blocks.Event is)) (sym adds.others) (rw (append-nil (flat_map stream_in bs)) (one_event ledger after (flat_map stream_in bs) (flat_map event_in bs) is s adds))
next known ledger after bs (blocks.Clock is) s f adds =
    subst (λ (l : Ledger). Next l bs (blocks.Clock is)) (sym adds.others) (rw (append-nil (flat_map stream_in bs), append-nil (flat_map event_in bs)) (record { numbers = s.numbers; sources = s.sources }))
next known ledger after bs (blocks.Environment facts) s f adds =
    subst (λ (l : Ledger). Next l bs (blocks.Environment facts)) (sym adds) (rw (append-nil (flat_map stream_in bs), append-nil (flat_map event_in bs)) (record { numbers = s.numbers; sources = s.sources }))

pub listed_more : (known : Known) (ledger after : Ledger) (bs : List Block) (b : Block) → Listed ledger bs → IsFlawlessBehind known ledger b → AddsBlock ledger b after → Listed after (bs ++ b ∷ [])
listed_more known ledger after bs b s f adds = rw (flat_more stream_in bs b, flat_more event_in bs b) (next known ledger after bs b s f adds)

-- what the ledger of a whole text lacks, the text does
pub unfinished : (known : Known) (ledger : Ledger) (bs : List Block) → Text known ledger bs → Listed ledger bs → LacksBlocks ledger → IsUnfinished (text_toks bs)
unfinished known ledger bs text listed (inl none) =
    record { blocks = bs; spelled = refl; lacks = inl (subst (λ (b : Bool). IsSeen b (flat_map trace_in bs)) none text.trace_seen) }
unfinished known ledger bs text listed (inr o) =
    let e = listed.sources o.key o.there in
    record {
      blocks = bs;
      spelled = refl;
      lacks = inr (record {
        event = e.0;
        stream = o.key.0;
        id = o.key.1;
        there = e.1;
        numbered = e.2;
        alone = λ other there numbered. false≢true (sym o.alone ∙ listed.numbers other there o.key.0 numbered);
      });
    }
