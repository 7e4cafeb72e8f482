-- The streams of a script, each with its point, and their faults.
use Rattle.std.proofs.Common.{◌≡◌, ◌≤◌, ◌<◌, ℕ, ◌+◌, zero, suc, Bool, true, false, List, [], ◌∷◌, ◌++◌, Option, None, Some, map, length, length-append, take, drop, take_all, refl, sym, subst, ap, ap₂, ◌∙◌, arith}
use Rattle.std.proofs.lemmas.Bool.Decides.{nat_tests}
use Rattle.std.proofs.lemmas.List.{length-map}
use Rattle.std.proofs.lemmas.List.Elements.{All-cons, All-nil, All-push}
use Rattle.std.proofs.lemmas.Option.{same_Some}
use Rattle.std.proofs.lemmas.Slice.Zip.{firsts-zip}
use Rattle.std.specs.List.{All}
use Rattle.std.proofs.lemmas.List.Sums.{fold_push}
use Rattle.std.specs.Prelude.{fold, max, replicate, slice_get, not, nat_eq, option_map, unwrap_or, zip}
use Rattle.ctf_types.specs.declared.Config.{Config}
use Rattle.ctf_types.specs.declared.StreamType.{StreamType}
use Rattle.ctf_types.specs.Datum.{Datum}
use Rattle.packet_reader.specs.declared.resuming.ResumePoint.{ResumePoint}
use Rattle.thread_stream.specs.declared.stream_fault.StreamFault.{StreamFault}
use Rattle.thread_stream.specs.declared.stream_fault.StreamFault.TheVariants.{OutOfMemory as NoMemory}
use Rattle.thread_stream.specs.Starting.{start_fault, stream_named}
use Rattle.trace_stack.specs.declared.adding.AddFault.{AddFault}
use Rattle.trace_stack.specs.declared.adding.AddFault.TheVariants as add_fault
use Rattle.trace_stack.specs.declared.names.NameFault.{NameFault}
use Rattle.trace_stack.specs.Adding.{begin_fault, known_fault}
use Rattle.trace_stack.specs.StreamNames.{name_fault}
use Rattle.trace_stack.specs.Points.{IsOf, is_other, no_point, type_number}
use Rattle.trace_stack.proofs.Added.{not_other}
use Rattle.trace_stack.proofs.Fronts.{map-take-more, take-more}
use Rattle.trace_text.specs.declared.script.ScriptStream.{ScriptStream}
use Rattle.trace_commands.specs.Begun.{AreRight, Begun, fault_of, floor_at, point_of}
use Rattle.trace_commands.specs.Tracing.{IsBadStream}

-- ---- faults

same_number : (n m : ℕ) → n ≡ m → not (nat_eq n m) ≡ false
same_number n m e = let test : nat_eq n m ≡ true = grind (arith, nat_tests) in ap not test

pub of_one : (earlier : Option ℕ) (number : ℕ) → IsOf earlier number → is_other earlier (Some number) ≡ false
of_one None number h = refl
of_one (Some n) number h = same_number n number h

-- a stream that is begun has none
pub no_fault : (start : Option StreamFault) (other : Bool) → start ≡ None → other ≡ false → known_fault None start other ≡ None
no_fault start other none is = subst (λ (o : Option StreamFault). known_fault None o other ≡ None) (sym none) (subst (λ (b : Bool). known_fault None None b ≡ None) (sym is) refl)

-- it is found by the parts of the stream
pub same_fault : (c : Config) (bytes : ℕ) (s : ScriptStream) (o : Option ResumePoint) {t : List ℕ} {p : ResumePoint} → t ≡ s.type_name → p ≡ point_of o
    → fault_of c bytes (s, o) ≡ begin_fault c t bytes s.extras p
same_fault c bytes s o {t} {p} type point = sym (ap₂ (λ (t : List ℕ) (p : ResumePoint). begin_fault c t bytes s.extras p) type point)

-- so is what a session that was handed equal parts answers, or want of memory
pub resuming_refused : (c : Config) (bytes : ℕ) (s : ScriptStream) (o : Option ResumePoint) (names : List (List ℕ)) (f : AddFault) {n t : List ℕ} {b : ℕ} {x : List Datum} {p : ResumePoint}
    → n ≡ s.name → t ≡ s.type_name → b ≡ bytes → x ≡ s.extras → p ≡ unwrap_or o no_point → name_fault names s.name ≡ None
    → f ≡ unwrap_or (known_fault (name_fault names n) (start_fault c t b x) (is_other p.stream (type_number c t))) (add_fault.Stream NoMemory)
    → f ≡ unwrap_or (fault_of c bytes (s, o)) (add_fault.Stream NoMemory)
resuming_refused c bytes s o names f {n} {t} {b} {x} {p} name type size extras point free is =
    let of : Option NameFault → List ℕ → ℕ → List Datum → Option ℕ → AddFault =
    λ named type bytes extras earlier. unwrap_or (known_fault named (start_fault c type bytes extras) (is_other earlier (type_number c type))) (add_fault.Stream NoMemory) in
    let named : name_fault names n ≡ None = ap (λ (l : List ℕ). name_fault names l) name ∙ free in
    let earlier : p.stream ≡ (point_of o).stream = ap (λ (q : ResumePoint). q.stream) point in
    let same : of (name_fault names n) t b x p.stream ≡ of None s.type_name bytes s.extras (point_of o).stream = cc in
    is ∙ same

-- and one without has earlier packets of its own type
right_type : (start : Option StreamFault) (other : Bool) → known_fault None start other ≡ None → other ≡ false
right_type (Some f) other h = absurd (let k : Some (add_fault.Stream f) ≡ None = h in cc)
right_type None true h = absurd (let k : Some add_fault.WrongStream ≡ None = h in cc)
right_type None false h = refl

pub of_its_type : (c : Config) (bytes : ℕ) (s : Begun) (number : ℕ) (type : StreamType) → fault_of c bytes s ≡ None → stream_named s.0.type_name 0 c.streams ≡ Some (number, type)
    → IsOf (unwrap_or s.1 no_point).stream number
of_its_type c bytes s number type right found =
    let earlier = (point_of s.1).stream in
    let same = right_type (start_fault c s.0.type_name bytes s.0.extras) (is_other earlier (type_number c s.0.type_name)) right in
    not_other earlier number (subst (λ (o : Option (ℕ × StreamType)). is_other earlier (option_map (λ t. t.0) o) ≡ false) found same)

-- ---- the streams of a script, each with its point

pub begun_at : (ss : List ScriptStream) (ps : List (Option ResumePoint)) (i : ℕ) (s : ScriptStream) (p : Option ResumePoint) → slice_get ss i ≡ Some s → slice_get ps i ≡ Some p
    → slice_get (zip ss ps) i ≡ Some (s, p)
begun_at [] ps i s p at point = absurd (let k : None ≡ Some s = at in cc)
begun_at (x ∷ ss) [] i s p at point = absurd (let k : None ≡ Some p = point in cc)
begun_at (x ∷ ss) (y ∷ ps) zero s p at point = ap₂ (λ (a : ScriptStream) (b : Option ResumePoint). Some (a, b)) (same_Some x s at) (same_Some y p point)
begun_at (x ∷ ss) (y ∷ ps) (suc i) s p at point = begun_at ss ps i s p at point

pub length_begun : (ss : List ScriptStream) (ps : List (Option ResumePoint)) → length ps ≡ length ss → length (zip ss ps) ≡ length ss
length_begun ss ps e = sym (length-map (zip ss ps) (λ (b : Begun). b.0)) ∙ ap (λ (l : List ScriptStream). length l) (firsts-zip ss ps e)

pub names_begun : (ss : List ScriptStream) (ps : List (Option ResumePoint)) → length ps ≡ length ss → map (λ (b : Begun). b.0.name) (zip ss ps) ≡ map (λ (s : ScriptStream). s.name) ss
names_begun [] ps e = refl
names_begun (s ∷ ss) [] e = absurd (omega (arith, e))
names_begun (s ∷ ss) (p ∷ ps) e = ap (λ (l : List (List ℕ)). s.name ∷ l) (names_begun ss ps (omega (arith, e)))

-- ---- the first that has a fault

parted : {X : Type 0} (xs : List X) (i : ℕ) (x : X) → slice_get xs i ≡ Some x → xs ≡ take i xs ++ x ∷ drop (suc i) xs
parted [] i x at = absurd (let k : None ≡ Some x = at in cc)
parted (y ∷ xs) zero x at = ap (λ w. w ∷ xs) (let k : Some y ≡ Some x = at in cc)
parted (y ∷ xs) (suc i) x at = ap (λ l. y ∷ l) (parted xs i x at)

front_length : {X : Type 0} (xs : List X) (i : ℕ) (x : X) → slice_get xs i ≡ Some x → length (take i xs) ≡ i
front_length [] i x at = absurd (let k : None ≡ Some x = at in cc)
front_length (y ∷ xs) zero x at = refl
front_length (y ∷ xs) (suc i) x at = ap suc (front_length xs i x at)

pub bad_one : (c : Config) (bytes : ℕ) (ss : List Begun) (i : ℕ) (s : Begun) (fault : AddFault) → AreRight c bytes (take i ss) → slice_get ss i ≡ Some s
    → fault_of c bytes s ≡ Some fault → IsBadStream c bytes ss i fault
bad_one c bytes ss i s fault right at bad = record {
  before = take i ss;
  stream = s;
  behind = drop (suc i) ss;
  there = parted ss i s at;
  place = front_length ss i s at;
  none_before = right;
  first = bad;
}

-- it is one of the script's
pub bad_there : (c : Config) (bytes : ℕ) (ss : List ScriptStream) (ps : List (Option ResumePoint)) (number : ℕ) (fault : AddFault) → length ps ≡ length ss
    → IsBadStream c bytes (zip ss ps) number fault → number < length ss
bad_there c bytes ss ps number fault e bad =
    let parts = ap (λ (l : List Begun). length l) bad.there ∙ length-append bad.before (bad.stream ∷ bad.behind) in
    let place = bad.place in
    let long = length_begun ss ps e in
    omega (arith, parts, place, long)

pub right_more : (c : Config) (bytes : ℕ) (ss : List Begun) (i : ℕ) (s : Begun) → AreRight c bytes (take i ss) → slice_get ss i ≡ Some s → fault_of c bytes s ≡ None
    → AreRight c bytes (take (i + 1) ss)
right_more c bytes ss i s right at none =
    subst (AreRight c bytes) (sym (take-more ss i s at)) (All-push (λ (x : Begun). fault_of c bytes x ≡ None) (take i ss) s right none)

pub right_all : (c : Config) (bytes : ℕ) (ss : List ScriptStream) (ps : List (Option ResumePoint)) (i : ℕ) → length ps ≡ length ss → AreRight c bytes (take i (zip ss ps))
    → length ss ≤ i → AreRight c bytes (zip ss ps)
right_all c bytes ss ps i e right past =
    let long = length_begun ss ps e in
    subst (AreRight c bytes) (take_all i (zip ss ps) (omega (arith, long, past))) right

-- ---- floors

fold_least : (a : ℕ) (xs : List ℕ) → a ≤ fold max a xs
fold_least a [] = omega arith
fold_least a (x ∷ xs) = let more = fold_least (max a x) xs in omega (arith, more)

abbrev pub AreAbove : ℕ → List Begun → Type 0
AreAbove start ss = All (λ (s : Begun). floor_at s.1 ≤ start) ss

pub above_all : (a start : ℕ) (ss : List ScriptStream) (ps : List (Option ResumePoint)) → fold max a (map floor_at ps) ≤ start → AreAbove start (zip ss ps)
above_all a start [] ps h = All-nil (λ (s : Begun). floor_at s.1 ≤ start)
above_all a start (s ∷ ss) [] h = All-nil (λ (s : Begun). floor_at s.1 ≤ start)
above_all a start (s ∷ ss) (p ∷ ps) h =
    let least = fold_least (max a (floor_at p)) (map floor_at ps) in
    All-cons (λ (s : Begun). floor_at s.1 ≤ start) (s, p) (zip ss ps) (omega (arith, least, h)) (above_all (max a (floor_at p)) start ss ps h)

pub none_above : (n : ℕ) → fold max 0 (map floor_at (replicate n None)) ≡ 0
none_above zero = refl
none_above (suc n) = none_above n

pub floors_more : (ps : List (Option ResumePoint)) (i : ℕ) (p : Option ResumePoint) → slice_get ps i ≡ Some p
    → fold max 0 (map floor_at (take (i + 1) ps)) ≡ max (fold max 0 (map floor_at (take i ps))) (floor_at p)
floors_more ps i p at =
    ap (λ (l : List ℕ). fold max 0 l) (map-take-more floor_at ps i p at) ∙ fold_push max 0 (map floor_at (take i ps)) (floor_at p)
