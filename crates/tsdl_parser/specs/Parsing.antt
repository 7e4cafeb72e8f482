-- What stands at the front of a list of atoms, with the atoms behind it: the marks, words, numbers and repetitions that
-- the rules of the grammar are made of (CTF 1.8.3, appendix C). A rule that doesn't fit stops.
use Rattle.std.specs.Prelude.{◌≡◌, ℕ, zero, suc, ◌<◌, Bool, false, not, if◌then◌else◌, List, [], ◌∷◌, length, Some, None, Result, Ok, Err, bytes_eq}
use denote.Enum.Bare.{sameb as is_same}
use Rattle.tsdl_grammar.specs.contracts.token.Mark.{the_type as of_marks}
use Rattle.tsdl_grammar.specs.declared.{token.Mark.Mark, atom.Atom.Atom, tree.Sign.Sign, tree.Sign.TheVariants.{Plus, Minus}, tree.Number.Number}
use Rattle.tsdl_grammar.specs.declared.token.Mark.TheVariants as marks
use Rattle.tsdl_grammar.specs.declared.atom.Atom.TheVariants as atoms
use Rattle.tsdl_parser.specs.declared.halt.Unread.{Unread}
use Rattle.tsdl_parser.specs.declared.halt.Unread.TheVariants as unread
pub use Rattle.tsdl_parser.specs.Halting.{IfHalted, HaltsAmong}

-- a rule finds something, or it stops at a place from which so many atoms are left
pub data Outcome (A : Type 0) : Type 0 where
  Found : A → Outcome A
  Stopped : ℕ → Outcome A

infixl 10 ◌>>=◌
-- what was found, and then a rule behind it
abbrev pub ◌>>=◌ : {A B : Type 0} → Outcome A → (A → Outcome B) → Outcome B
Found x >>= f = f x
Stopped left >>= f = Stopped left

-- the rule stops where the halt lies
abbrev pub Fails : {Y : Type 0} → Unread → Outcome Y → Type 0
Fails unread.Memory found = Unit {0}
Fails (unread.Halted h) found = found ≡ Stopped h.left

-- what a function returned, seen by view, is what a rule finds, or the place where it stops, unless memory ran out
abbrev pub Gives : {X Y : Type 0} → (X → Y) → Result X Unread → Outcome Y → Type 0
Gives view (Ok x) found = found ≡ Found (view x)
Gives view (Err e) found = Fails e found

abbrev pub is_mark : Mark → Atom → Bool
is_mark m (atoms.Mark n) = is_same of_marks n m
is_mark m _ = false

-- the first atom is this mark
unfoldable pub begins : Mark → List Atom → Bool
begins m [] = false
begins m (a ∷ ts) = is_mark m a

-- a mark
unfoldable pub mark_at : Mark → List Atom → Outcome (List Atom)
mark_at m [] = Stopped 0
mark_at m (a ∷ ts) = if is_mark m a then Found ts else Stopped (length (a ∷ ts))

-- what was read, with this mark behind it
abbrev pub closed_by : {A : Type 0} → Mark → A × List Atom → Outcome (A × List Atom)
closed_by m x = mark_at m x.1 >>= λ rest. Found (x.0, rest)

-- any word
unfoldable pub word_at : List Atom → Outcome (List ℕ × List Atom)
word_at (atoms.Word w ∷ ts) = Found (w, ts)
word_at ts = Stopped (length ts)

abbrev pub is_word : List ℕ → Atom → Bool
is_word keyword (atoms.Word w) = bytes_eq w keyword
is_word keyword _ = false

-- the first atom is this word
unfoldable pub names : List ℕ → List Atom → Bool
names keyword [] = false
names keyword (a ∷ ts) = is_word keyword a

-- this word
unfoldable pub keyword_at : List ℕ → List Atom → Outcome (List Atom)
keyword_at keyword [] = Stopped 0
keyword_at keyword (a ∷ ts) = if is_word keyword a then Found ts else Stopped (length (a ∷ ts))

-- a literal behind its sign
unfoldable pub signed_at : Sign → List Atom → Outcome (Number × List Atom)
signed_at sign (atoms.Number n ∷ ts) = Found (record { sign = Some sign; literal = n }, ts)
signed_at sign ts = Stopped (length ts)

-- [ "-" | "+" ] literal
unfoldable pub number_at : List Atom → Outcome (Number × List Atom)
number_at (atoms.Number n ∷ ts) = Found (record { sign = None; literal = n }, ts)
number_at (atoms.Mark marks.Plus ∷ ts) = signed_at Plus ts
number_at (atoms.Mark marks.Minus ∷ ts) = signed_at Minus ts
number_at ts = Stopped (length ts)

-- items one after the other, fewer than so many, for as long as another one starts
unfoldable pub many_at : {A : Type 0} → (List Atom → Bool) → (List Atom → Outcome (A × List Atom)) → ℕ → List Atom → Outcome (List A × List Atom)
many_at starts item zero ts = Stopped (length ts)
many_at starts item (suc n) ts =
    if starts ts then (item ts >>= λ x. many_at starts item n x.1 >>= λ xs. Found (x.0 ∷ xs.0, xs.1)) else Found ([], ts)

-- another item stands before the closing brace
abbrev pub is_open : List Atom → Bool
is_open ts = not (begins marks.CloseBrace ts)

-- items one after the other, for as long as another one starts: no more of them than there are atoms
abbrev pub many : {A : Type 0} → (List Atom → Bool) → (List Atom → Outcome (A × List Atom)) → List Atom → Outcome (List A × List Atom)
many starts item ts = many_at starts item (suc (length ts)) ts

-- "{" { item } "}"
unfoldable pub braced_at : {A : Type 0} → (List Atom → Outcome (A × List Atom)) → List Atom → Outcome (List A × List Atom)
braced_at item ts = do
  inside ← mark_at marks.OpenBrace ts
  items ← many is_open item inside
  rest ← mark_at marks.CloseBrace items.1
  Found (items.0, rest)

-- an item takes atoms away
abbrev pub Shortens : (A : Type 0) → (List Atom → Outcome (A × List Atom)) → Type 0
Shortens A item = (ts : List Atom) (x : A × List Atom) → item ts ≡ Found x → length x.1 < length ts
