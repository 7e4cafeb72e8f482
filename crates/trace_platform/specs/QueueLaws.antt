-- The back end of lists keeps the laws of a back end, of a source and of the two in one.
use Rattle.std.specs.Prelude.{◌≡◌, ℕ, ◌<◌, Bool, true, false, if◌then◌else◌, List, [], ◌∷◌, ◌++◌, length, Option, None, Some, IsSome, Ok, Err, refl}
use Rattle.std.proofs.Common.{ap, sym, ◌∙◌, subst, arith}
use Rattle.packet_writer.specs.declared.packet.Packet.{Packet}
use Rattle.trace_platform.specs.Count.{next_count}
use Rattle.trace_platform.specs.Queue.{Queue, Looks, Lends, Hands, Takes, Regains, is_kept}

waiting_is : (a b : Queue) → b ≡ a → b.waiting ≡ a.waiting
waiting_is a b e = ap (λ (q : Queue). q.waiting) e

bytes_are : (a b : Queue) → b ≡ a → b.bytes ≡ a.bytes
bytes_are a b e = ap (λ (q : Queue). q.bytes) e

fulls_are : (a b : Queue) → b ≡ a → b.fulls ≡ a.fulls
fulls_are a b e = ap (λ (q : Queue). q.fulls) e

pub looks_full : (a b : Queue) → Looks a true b → b.fulls ≡ next_count a.fulls
looks_full a b h = fulls_are _ b h.1

pub looks_ready : (a b : Queue) → Looks a false b → (b.fulls ≡ a.fulls) × (0 < length b.spares)
looks_ready a b h = (fulls_are a b h.1, subst (λ (q : Queue). 0 < length q.spares) (sym h.1) h.0)

pub looks_keeps : (a b : Queue) (full : Bool) → Looks a full b → (b.waiting ≡ a.waiting) × (b.bytes ≡ a.bytes)
looks_keeps a b true h = (waiting_is _ b h.1, bytes_are _ b h.1)
looks_keeps a b false h = (waiting_is a b h.1, bytes_are a b h.1)

pub lends_one : (a b : Queue) (answer : Option (List ℕ)) → Lends a answer b → 0 < length a.spares → IsSome answer
lends_one a b None h some = absurd (omega (arith, some, ap (λ (s : List (List ℕ)). length s) h.0))
lends_one a b (Some buffer) h some = refl

pub lends_keeps : (a b : Queue) (answer : Option (List ℕ)) → Lends a answer b → (b.waiting ≡ a.waiting) × (b.bytes ≡ a.bytes) × (b.fulls ≡ a.fulls)
lends_keeps a b None h = (waiting_is a b h.1, bytes_are a b h.1, fulls_are a b h.1)
lends_keeps a b (Some buffer) h = (waiting_is _ b h.2, bytes_are _ b h.2, fulls_are _ b h.2)

pub queues : (a b : Queue) (p : Packet) → Hands a p (Ok tt) b → (b.waiting ≡ a.waiting ++ p ∷ []) × (b.bytes ≡ a.bytes) × (b.fulls ≡ a.fulls)
queues a b p h = (waiting_is _ b h.1, bytes_are _ b h.1, fulls_are _ b h.1)

pub hands_back : (a b : Queue) (p q : Packet) → Hands a p (Err q) b → (q ≡ p) × (b.waiting ≡ a.waiting) × (b.bytes ≡ a.bytes) × (b.fulls ≡ next_count a.fulls)
hands_back a b p q h = (h.0, waiting_is _ b h.2, bytes_are _ b h.2, fulls_are _ b h.2)

some_is : {A : Type 0} {x y : A} → Some x ≡ Some y → x ≡ y
some_is e = cc

pub takes_first : (a b : Queue) (p : Packet) (ps : List Packet) → Takes a (Some p) b → Some a.waiting ≡ Some ps
    → (qs : List Packet) × (ps ≡ p ∷ qs) × (Some b.waiting ≡ Some qs)
takes_first a b p ps h e = (b.waiting, sym (some_is e) ∙ h.0, refl)

pub takes_none : (a b : Queue) (ps : List Packet) → Takes a None b → Some a.waiting ≡ Some ps → (ps ≡ []) × (Some b.waiting ≡ Some [])
takes_none a b ps h e = (sym (some_is e) ∙ h.0, ap Some (waiting_is a b h.1 ∙ h.0))

pub takes_keeps : (a b : Queue) (answer : Option Packet) → Takes a answer b → (b.bytes ≡ a.bytes) × (b.fulls ≡ a.fulls)
takes_keeps a b None h = (bytes_are a b h.1, fulls_are a b h.1)
takes_keeps a b (Some p) h = (bytes_are _ b h.1, fulls_are _ b h.1)

regains_same : (a b : Queue) (buffer : List ℕ) (kept : Bool) → b ≡ (if kept then record a { spares = a.spares ++ buffer ∷ [] } else a)
    → (b.waiting ≡ a.waiting) × (b.bytes ≡ a.bytes) × (b.fulls ≡ a.fulls)
regains_same a b buffer true e = (waiting_is _ b e, bytes_are _ b e, fulls_are _ b e)
regains_same a b buffer false e = (waiting_is a b e, bytes_are a b e, fulls_are a b e)

pub regains_rest : (a b : Queue) (buffer : List ℕ) → Regains a buffer b → Some b.waiting ≡ Some a.waiting
regains_rest a b buffer h = ap Some (regains_same a b buffer (is_kept a buffer) h).0

pub regains_keeps : (a b : Queue) (buffer : List ℕ) → Regains a buffer b → (b.bytes ≡ a.bytes) × (b.fulls ≡ a.fulls)
regains_keeps a b buffer h = let s = regains_same a b buffer (is_kept a buffer) h in (s.1, s.2)

pub settles_keeps : (a b : Queue) (done : Unit {0}) (answer : Bool) (ps : List Packet) → (answer ≡ true) × (b ≡ a) → Some a.waiting ≡ Some ps → Some b.waiting ≡ Some ps
settles_keeps a b done answer ps h e = ap Some (waiting_is a b h.1) ∙ e
