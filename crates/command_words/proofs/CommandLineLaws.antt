-- Refusals of parts of a command line, and what they say of the whole.
use Rattle.std.proofs.Common.{◌≡◌, ◌<◌, ◌⊎◌, ◌∙◌, inl, inr, ℕ, List, [], ◌∷◌, length, map, Option, Some, None, option_map, Result, Ok, Err, IfErr, IsErrAnd, Bool, true, false, refl, sym, subst, ap₂, arith, codes}
use Rattle.std.specs.Borrow.{Bor}
use Rattle.std.proofs.lemmas.Option.{none-some, same_Some}
use Rattle.std.proofs.lemmas.Result.{err_from_is_err_and}
use Rattle.uuid.specs.Text.{parsed}
use Rattle.clap.specs.Words.{Row, Text, fault_of, first_of, is_simple, is_simple_and_free, kind_of, subcommand_of, HasKind, IsAmong}
use Rattle.clap.specs.declared.error.Error.{Error}
use Rattle.clap.specs.declared.error.kind.ErrorKind.TheVariants as kind
use Rattle.clap.proofs.OnLiterals.{clap_on_literals}
use Rattle.command_words.specs.declared.commands.Command.{Command}
use Rattle.command_words.specs.declared.commands.Command.TheVariants.{FirstPath, Check, Metadata, Trace, Read}
use Rattle.command_words.specs.declared.line_fault.LineFault.{LineFault}
use Rattle.command_words.specs.ProgramWords.{program}
use Rattle.command_words.specs.declared.quota.Quota.{Quota}
use Rattle.command_words.specs.CommandLine.{IsMemory, Asks, AsksBy, AsksCommand, HasFlag, HasResuming, HasWorkers, SaysQuota, uuid_said}
use Rattle.command_words.specs.declared.commands.Resuming.{Resuming}
use Rattle.command_words.specs.declared.commands.Resuming.TheVariants.{Anew, Behind}
use Rattle.command_words.specs.LineFaults.{AreAlike, FitsKind, IsBlamed, IsBlamedOf, IsFaultOfWords, IsNoCommand, TellsPart, TellsValue}

-- memory ran out, or nothing has the property
abbrev pub Refuses : {A : Type 0} → LineFault → (A → Type 0) → Type 0
Refuses {A} fault P = IsMemory fault ⊎ ((x : A) → P x → ⊥)

-- ---- what is blamed

-- for what needs it, the same part is wrong
blamed_for : {A B : Type 0} (P : List Row → A → Type 0) (Q : List Row → B → Type 0) (rows : List Row) (fault : LineFault) → IsBlamed P rows fault
    → ((others : List Row) (y : B) → Q others y → (x : A) × P others x) → IsBlamed Q rows fault
blamed_for P Q rows fault (inl memory) needs = inl memory
blamed_for P Q rows fault (inr b) needs = inr (b.0, (λ others y alike q. b.1 others (needs others y q).0 alike (needs others y q).1), b.2)

-- the same where the refusal is handed on
pub blame_on : {T A B : Type 0} (r : Result T LineFault) (fault : LineFault) (P : List Row → A → Type 0) (Q : List Row → B → Type 0) (rows : List Row)
    → IsErrAnd r (λ e. e ≡ fault) → IsBlamed P rows fault → ((others : List Row) (y : B) → Q others y → (x : A) × P others x) → IfErr r (IsBlamed Q rows)
blame_on {T} r fault P Q rows h blamed needs =
    let p = err_from_is_err_and r h in
    subst (λ (x : Result T LineFault). IfErr x (IsBlamed Q rows)) (sym p.1) (subst (IsBlamed Q rows) (sym p.2) (blamed_for P Q rows fault blamed needs))

-- a value that says nothing
pub blamed_value : {A B : Type 0} (fault : LineFault) (rows : List Row) (part value : Text) (Says : B → Type 0) (Q : List Row → A → Type 0)
    → first_of part rows ≡ Some value → TellsValue part value fault → Refuses fault Says
    → ((others : List Row) (x : A) → AreAlike part rows others → Q others x → (y : B) × Says y) → IsBlamed Q rows fault
blamed_value fault rows part value Says Q found told (inl memory) needs = inl memory
blamed_value fault rows part value Says Q found told (inr none) needs = inr (
  part,
  (λ others x alike q. none (needs others x alike q).0 (needs others x alike q).1),
  subst (λ (o : Option Text). TellsPart part o fault) (sym found) (inl told),
)

-- what holds of a refusal in both ways
pub of_refusal : {T : Type 0} {P Q R : LineFault → Type 0} (r : Result T LineFault) → ((fault : LineFault) → P fault → Q fault → R fault) → IfErr r P → IfErr r Q → IfErr r R
of_refusal (Ok x) f p q = tt
of_refusal (Err fault) f p q = f fault p q

no_command : (name : Text) (rows : List Row) (c : Command) → IsNoCommand name → AsksBy name rows c → ⊥
no_command name rows FirstPath none a = a
no_command name rows (Check config) none a = none.0 a.0
no_command name rows (Metadata m) none a = none.1 a.0
no_command name rows (Trace t) none a = none.2 a.0
no_command name rows (Read r) none a = none.3 a.0

-- ---- words

pub words_there : (words : List (Bor Text)) → 0 < length words → 0 < length (map (λ s. s.now) words)
words_there [] h = h
words_there (w ∷ ws) h = omega arith

pub command_asks : (words : List Text) (c : Command) → 0 < length words → AsksCommand words c → Asks words c
command_asks [] c h a = absurd (omega arith)
command_asks (w ∷ ws) c h a = a

pub asked_command : (words : List Text) (c : Command) → 0 < length words → Asks words c → AsksCommand words c
asked_command [] c h a = absurd (omega arith)
asked_command (w ∷ ws) c h a = a

pub asked_by : (words : List Text) (c : Command) (name : Text) (rows : List Row) → 0 < length words → subcommand_of program words ≡ Some (name, rows)
    → Asks words c → AsksBy name rows c
asked_by words c name rows h found a =
    let k = asked_command words c h a in
    subst (λ (p : Text × List Row). AsksBy p.0 p.1 c) (same_Some _ _ (sym k.found ∙ found)) k.asks

-- what is blamed refuses the words
pub blamed_refuses : (words : List Text) (name : Text) (rows : List Row) (fault : LineFault) → 0 < length words → subcommand_of program words ≡ Some (name, rows)
    → IsBlamedOf name rows fault → Refuses fault (Asks words)
blamed_refuses words name rows fault some found (inl (inl memory)) = inl memory
blamed_refuses words name rows fault some found (inl (inr b)) = inr (λ c a. b.1 rows c (refl, refl) (asked_by words c name rows some found a))
blamed_refuses words name rows fault some found (inr unknown) = inr (λ c a. no_command name rows c unknown.0 (asked_by words c name rows some found a))

-- where the parser fails, the words ask for nothing
pub parser_refuses : (words : List Text) (e : Error) (fault : LineFault) → 0 < length words → (kind_of e ≡ kind.OutOfMemory → IsMemory fault)
    → HasKind (fault_of program words) e → Refuses fault (Asks words)
parser_refuses words e fault h memory (inl m) = inl (memory m)
parser_refuses words e fault h memory (inr among) =
    inr (λ c a. subst (IsAmong (kind_of e)) (asked_command words c h a).taken among)

-- what is told of it fits the words
pub parser_told : (words : List Text) (e : Error) (fault : LineFault) → (kind_of e ≡ kind.OutOfMemory → IsMemory fault) → FitsKind (kind_of e) fault
    → HasKind (fault_of program words) e → IsFaultOfWords words fault
parser_told words e fault memory fits (inl m) = inl (memory m)
parser_told words e fault memory fits (inr among) = inr (inl (kind_of e, among, fits))

pub program_is_simple : is_simple program ≡ true
unfolding clap_on_literals
program_is_simple = refl

pub program_is_free : is_simple_and_free program ≡ true
unfolding clap_on_literals
program_is_free = refl

-- the name and the rows that are told one by one
pub pair_known : {X : Type 0} (f : X → Text) (g : X → List Row) (s : Option X) (name : Text) (rows : List Row) → Some name ≡ option_map f s
    → Some rows ≡ option_map (λ (p : Text × List Row). p.1) (option_map {U = Text × List Row} (λ b. (f b, g b)) s)
    → option_map {U = Text × List Row} (λ b. (f b, g b)) s ≡ Some (name, rows)
pair_known f g None name rows a b = absurd (none-some name (sym a))
pair_known f g (Some x) name rows a b = ap₂ (λ (n : Text) (r : List Row). Some (n, r)) (sym (same_Some _ _ a)) (sym (same_Some _ _ b))

-- a text that reads as no identifier says none
pub bad_uuid : (value : Option (Bor Text)) (text : Bor Text) (u : Option (List ℕ)) → value ≡ Some text → ((v : List ℕ) → parsed text.now ≡ Some v → ⊥)
    → uuid_said (option_map (λ s. s.now) value) ≡ Some u → ⊥
bad_uuid None text u e unread h = none-some text e
bad_uuid (Some t) text u e unread h = go (parsed t.now) refl h
  where
    none : (v : List ℕ) → parsed t.now ≡ Some v → ⊥
    none = subst (λ (s : Bor Text). (v : List ℕ) → parsed s.now ≡ Some v → ⊥) (sym (same_Some _ _ e)) unread

    go : (o : Option (List ℕ)) → parsed t.now ≡ o → option_map (λ v. Some v) o ≡ Some u → ⊥
    go None p h = none-some u h
    go (Some v) p h = none v p

-- ---- workers

pub workers_flag : (rows : List Row) (q : Option Quota) → HasWorkers rows q → (b : Bool) × HasFlag rows (codes "workers") b
workers_flag rows None h = (false, h.0)
workers_flag rows (Some q) h = (true, h.0)

not_both : (rows : List Row) (id : Text) → HasFlag rows id true → HasFlag rows id false → ⊥
not_both rows id on off = let k : Some (codes "true") ≡ Some (codes "false") = sym on ∙ off in cc

pub workers_quota : (rows : List Row) (said : Option Text) (q : Option Quota) → said ≡ first_of (codes "quota") rows → HasFlag rows (codes "workers") true → HasWorkers rows q
    → (n : ℕ) × SaysQuota said n
workers_quota rows said None e has h = absurd (not_both rows (codes "workers") has h.0)
workers_quota rows said (Some q) e has h = (q.readings, subst (λ (o : Option Text). SaysQuota o q.readings) (sym e) h.1)

-- a quota without workers is none
pub no_workers : (rows : List Row) (text : Text) (q : Option Quota) → HasFlag rows (codes "workers") false → first_of (codes "quota") rows ≡ Some text → HasWorkers rows q → ⊥
no_workers rows text None has said h = none-some text (sym h.1 ∙ said)
no_workers rows text (Some q) has said h = not_both rows (codes "workers") h.0 has

-- ---- going on

pub resuming_flag : (rows : List Row) (r : Resuming) → HasResuming rows r → (b : Bool) × HasFlag rows (codes "resume") b
resuming_flag rows Anew h = (false, h)
resuming_flag rows Behind h = (true, h)
