-- The workers of a script's streams: their clock, their acts, and the lines of what they were told.
use Rattle.std.proofs.Common.{◌≡◌, ◌<◌, ◌≤◌, ◌+◌, ◌*◌, ◌^◌, ℕ, zero, suc, Bool, true, false, ◌&&◌, if◌then◌else◌, List, [], ◌∷◌, ◌++◌, Option, None, Some, Result, length, take, take_all, nat_eq, nat_lt, refl, sym, subst, ap, ap₂, ◌∙◌, append_assoc, append-nil, add-one, arith}
use Rattle.std.proofs.Math.Nat.{mul-suc, mul-le-mul}
use Rattle.std.proofs.lemmas.Bool.Decides.{nat_tests}
use Rattle.std.proofs.lemmas.Option.{same_Some}
use Rattle.std.proofs.lemmas.List.Elements.{All-nil, All-cons, All-head, All-tail}
use Rattle.std.specs.Prelude.{fold, max, slice_get, zip}
use Rattle.std.specs.Global.{Vec}
use Rattle.std.specs.List.{All}
use Rattle.std.specs.Option.{unwrap_or}
use Rattle.ctf_types.specs.declared.Config.{Config}
use Rattle.packet_collector.specs.declared.finish_answer.FinishAnswer.{FinishAnswer}
use Rattle.packet_reader.specs.declared.resuming.ResumePoint.{ResumePoint}
use Rattle.thread_stream.specs.Starting.{stream_named}
use Rattle.trace_clock.specs.declared.bounds.Bounds.{Bounds}
use Rattle.trace_clock.specs.declared.tick_seat.TickSeat.{TickSeat}
use Rattle.trace_clock.specs.Seats.{IsNew, SameClock, bounds_of, floor_of}
use Rattle.trace_platform.specs.declared.sink.SinkFault.{SinkFault}
use Rattle.trace_platform.specs.declared.writer_sink.WriterSink.{WriterSink}
use Rattle.trace_stack.specs.declared.answer.Answer.{Answer}
use Rattle.trace_stack.specs.declared.event.Act.{Act}
use Rattle.trace_stack.specs.declared.event.Act.TheVariants as act
use Rattle.trace_stack.specs.declared.event.Event.{Event}
use Rattle.trace_stack.specs.declared.names.NameFault.TheVariants.{BadName, SameName, TooMany}
use Rattle.trace_stack.specs.declared.worker.ThreadsFault.{ThreadsFault}
use Rattle.trace_stack.specs.declared.worker.Worker.{Worker}
use Rattle.trace_stack.specs.StreamNames.{name_fault, is_stream_name, is_taken}
use Rattle.trace_stack.specs.Points.{IsOf, no_point}
use Rattle.trace_stack.specs.Workers.{AllRan, CanGoOn, IsWorker, OfOneClock}
use Rattle.trace_stack.specs.Working.{IsOfStream}
use Rattle.trace_stack.proofs.Fronts.{take-more}
use Rattle.trace_stack.proofs.OneClock.{IsAt, at_one_clock}
use Rattle.trace_text.specs.declared.script.Script.{Script}
use Rattle.trace_text.specs.declared.script.ScriptStream.{ScriptStream}
use Rattle.trace_text.specs.Names.{first_refused}
use Rattle.std.proofs.lemmas.List.{length-map}
use Rattle.trace_commands.specs.declared.recording.Sizes.{Sizes}
use Rattle.trace_commands.specs.Begun.{AreRight, Begun, fault_of, floor_at}
use Rattle.trace_commands.specs.Tracing.{AreFree, stream_names}
use Rattle.trace_commands.specs.Workers.{AreWorkers, IsWorkerOf, acts_of, answers_at, is_of_stream, named_line, named_lines, stream_lines}
use Rattle.trace_commands.proofs.BegunLaws.{AreAbove, begun_at, length_begun, of_its_type}
use Rattle.trace_commands.proofs.SessionLaws.{free_first}

-- ---- few streams

room_left : (before : List (List ℕ)) (name : List ℕ) → name_fault before name ≡ None → length before < 64
room_left before name h = go (is_stream_name name) (is_taken before name) (nat_lt (length before) 64) refl h
  where
    go : (a b c : Bool) → nat_lt (length before) 64 ≡ c
        → (if a then (if b then Some SameName else (if c then None else Some TooMany)) else Some BadName) ≡ None → length before < 64
    go true true c e h = absurd (let k : Some SameName ≡ None = h in cc)
    go true false true e h = grind (arith, nat_tests)
    go true false false e h = absurd (let k : Some TooMany ≡ None = h in cc)
    go false b c e h = absurd (let k : Some BadName ≡ None = h in cc)

length_push : {X : Type 0} (xs : List X) (x : X) → length (xs ++ x ∷ []) ≡ length xs + 1
length_push [] x = refl
length_push (y ∷ xs) x = let more = length_push xs x in omega (arith, more)

free_few : (before : List (List ℕ)) (i : ℕ) (names : List (List ℕ)) → length before ≤ 64 → first_refused before i names ≡ None → length before + length names ≤ 64
free_few before i [] low h = omega (arith, low)
free_few before i (name ∷ names) low h =
    let free = free_first before i name names h in
    let room = room_left before name free.0 in
    let longer : length (before ++ name ∷ []) ≡ length before + 1 = length_push before name in
    let more = free_few (before ++ name ∷ []) (suc i) names (omega (arith, room, longer)) free.1 in
    omega (arith, more, longer)

pub few_streams : (s : Script) → AreFree s → length s.streams ≤ 64
few_streams s free =
    let few = free_few [] 0 (stream_names s) (omega arith) free in
    let same = length-map s.streams (λ (x : ScriptStream). x.name) in
    omega (arith, few, same)

-- as many readings as a quota for each have 64 bits
pub few_readings : (s : Script) (q : ℕ) → AreFree s → q < 2 ^ 58 → q * length s.streams < 2 ^ 64
few_readings s q free low =
    let few = few_streams s free in
    let below : q ≤ 288230376151711743 = omega (arith, low) in
    let most = mul-le-mul below few in
    omega (arith, most)

-- ---- seats

share_taken : (q i n left less : ℕ) → left + q * i ≡ q * n → less + q ≡ left → less + q * (i + 1) ≡ q * n
share_taken q i n left less e step = rw add-one (let next = mul-suc q i in omega (arith, e, step, next))

same_clock : (a b c : TickSeat) → SameClock a b → SameClock b c → SameClock a c
same_clock a b c p q = (q.0 ∙ p.0, q.1 ∙ p.1)

new_of_same : (a b : TickSeat) (q : ℕ) (s : TickSeat) → SameClock a b → IsNew b q s → IsNew a q s
new_of_same a b q s same new = (same_clock a b s same new.0, new.1, new.2, new.3)

-- ---- acts

length_take : {X : Type 0} (xs : List X) (i : ℕ) (x : X) → slice_get xs i ≡ Some x → length (take i xs) ≡ i
length_take [] i x e = absurd (let k : None ≡ Some x = e in cc)
length_take (y ∷ xs) zero x e = refl
length_take (y ∷ xs) (suc i) x e = ap suc (length_take xs i x e)

both_true : (a b : Bool) → (a && b) ≡ true → b ≡ true
both_true true b e = e
both_true false b e = absurd (let k : false ≡ true = e in cc)

of_stream : (a : Act) → is_of_stream a ≡ true → IsOfStream a
of_stream (act.Trace event args) e = tt
of_stream act.OpenPacket e = tt
of_stream act.ClosePacket e = tt
of_stream act.Collect e = absurd (let k : false ≡ true = e in cc)
of_stream (act.Enable enabled) e = tt
of_stream (act.Extras extras) e = tt

acts_alone : (n : ℕ) (es : List Event) → All IsOfStream (acts_of n es)
acts_alone n [] = All-nil IsOfStream
acts_alone n (e ∷ es) = go (nat_eq e.stream n && is_of_stream e.act) refl (acts_alone n es)
  where
    go : (b : Bool) → (nat_eq e.stream n && is_of_stream e.act) ≡ b → All IsOfStream (acts_of n es) → All IsOfStream (if b then e.act ∷ acts_of n es else acts_of n es)
    go true is rest = All-cons IsOfStream e.act (acts_of n es) (of_stream e.act (both_true (nat_eq e.stream n) (is_of_stream e.act) is)) rest
    go false is rest = rest

-- ---- one worker more

module _ {File : Type 0} where
  one_more : (clock : TickSeat) (q : ℕ) (z : Sizes) (es : List Event) (n : ℕ) (ss : List Begun) (ws : List (Worker (WriterSink File))) (s : Begun)
      (w : Worker (WriterSink File)) → AreWorkers clock q z es n ss ws → IsNew clock q w.seat → IsWorkerOf z es (n + length ss) s w
      → AreWorkers clock q z es n (ss ++ s ∷ []) (ws ++ w ∷ [])
  one_more clock q z es n [] [] s w h new is = (new, subst (λ m. IsWorkerOf z es m s w) (let e : n + 0 ≡ n = omega arith in e) is, tt)
  one_more clock q z es n [] (x ∷ ws) s w h new is = absurd h
  one_more clock q z es n (t ∷ ss) [] s w h new is = absurd h
  one_more clock q z es n (t ∷ ss) (x ∷ ws) s w h new is =
      (h.0, h.1, one_more clock q z es (suc n) ss ws s w h.2 new (subst (λ m. IsWorkerOf z es m s w) (let e : n + suc (length ss) ≡ suc n + length ss = omega arith in e) is))

  -- all of the first i streams have their workers, and the clock has a quota for each of the others
  pub record Standing (first clock : TickSeat) (left : ℕ) (q : ℕ) (z : Sizes) (es : List Event) (ss : List ScriptStream) (ps : List (Option ResumePoint)) (i : ℕ) (ws : List (Worker (WriterSink File))) : Type 0 where
    pub same : SameClock first clock
    pub shares : left + q * i ≡ q * length ss
    pub workers : AreWorkers first q z es 0 (take i (zip ss ps)) ws

  pub standing_one : (first clock after : TickSeat) (left less : ℕ) (q : ℕ) (z : Sizes) (es : List Event) (ss : List ScriptStream) (ps : List (Option ResumePoint)) (i : ℕ) (ws : List (Worker (WriterSink File)))
      (s : ScriptStream) (p : Option ResumePoint) (w : Worker (WriterSink File)) → Standing first clock left q z es ss ps i ws → slice_get ss i ≡ Some s → slice_get ps i ≡ Some p
      → SameClock clock after → less + q ≡ left → IsNew clock q w.seat → IsWorkerOf z es i (s, p) w → Standing first after less q z es ss ps (i + 1) (ws ++ w ∷ [])
  standing_one first clock after left less q z es ss ps i ws s p w h at point same step new is =
      let both = begun_at ss ps i s p at point in
      record {
        same = same_clock first clock after h.same same;
        shares = share_taken q i (length ss) left less h.shares step;
        workers = subst (λ l. AreWorkers first q z es 0 l (ws ++ w ∷ [])) (sym (take-more (zip ss ps) i (s, p) both))
            (one_more first q z es 0 (take i (zip ss ps)) ws (s, p) w h.workers (new_of_same first clock q w.seat h.same new)
            (subst (λ m. IsWorkerOf z es m (s, p) w) (let e : i ≡ 0 + length (take i (zip ss ps)) = (let taken = length_take (zip ss ps) i (s, p) both in omega (arith, taken)) in e) is));
      }

  pub standing_all : (first clock : TickSeat) (left : ℕ) (q : ℕ) (z : Sizes) (es : List Event) (ss : List ScriptStream) (ps : List (Option ResumePoint)) (i : ℕ) (ws : List (Worker (WriterSink File)))
      → length ps ≡ length ss → length ss ≤ i → Standing first clock left q z es ss ps i ws → AreWorkers first q z es 0 (zip ss ps) ws
  standing_all first clock left q z es ss ps i ws e past h =
      let long = length_begun ss ps e in
      subst (λ l. AreWorkers first q z es 0 l ws) (take_all i (zip ss ps) (omega (arith, long, past))) h.workers

  -- ---- what the threads want

  pub can_work : (clock : TickSeat) (q : ℕ) (z : Sizes) (es : List Event) (n : ℕ) (ss : List Begun) (ws : List (Worker (WriterSink File)))
      → AreWorkers clock q z es n ss ws → All IsWorker ws
  can_work clock q z es n [] [] h = All-nil IsWorker
  can_work clock q z es n [] (w ∷ ws) h = absurd h
  can_work clock q z es n (s ∷ ss) [] h = absurd h
  can_work clock q z es n (s ∷ ss) (w ∷ ws) h =
      All-cons IsWorker w ws (h.1.unused, subst (All IsOfStream) (sym h.1.acts) (acts_alone n es)) (can_work clock q z es (suc n) ss ws h.2)

  at_clock : (clock : TickSeat) (q : ℕ) (z : Sizes) (es : List Event) (n : ℕ) (ss : List Begun) (ws : List (Worker (WriterSink File)))
      → AreWorkers clock q z es n ss ws → All (λ (w : Worker (WriterSink File)). IsAt clock w.seat) ws
  at_clock clock q z es n [] [] h = All-nil (λ (w : Worker (WriterSink File)). IsAt clock w.seat)
  at_clock clock q z es n [] (w ∷ ws) h = absurd h
  at_clock clock q z es n (s ∷ ss) [] h = absurd h
  at_clock clock q z es n (s ∷ ss) (w ∷ ws) h = All-cons (λ (k : Worker (WriterSink File)). IsAt clock k.seat) w ws h.0.0.0 (at_clock clock q z es (suc n) ss ws h.2)

  -- and their seats are of one clock
  pub of_one_clock : (clock : TickSeat) (q : ℕ) (z : Sizes) (es : List Event) (n : ℕ) (ss : List Begun) (ws : List (Worker (WriterSink File)))
      → AreWorkers clock q z es n ss ws → OfOneClock ws
  of_one_clock clock q z es n ss ws h = at_one_clock clock ws (at_clock clock q z es n ss ws h)

  -- they go on from their points
  pub can_go_on : (c : Config) (clock : TickSeat) (q : ℕ) (z : Sizes) (es : List Event) (n : ℕ) (ss : List Begun) (ws : List (Worker (WriterSink File)))
      → AreAbove (bounds_of clock).start ss → AreRight c z.bytes ss → AreWorkers clock q z es n ss ws → All (CanGoOn c) ws
  can_go_on c clock q z es n [] [] above right h = All-nil (CanGoOn c)
  can_go_on c clock q z es n [] (w ∷ ws) above right h = absurd h
  can_go_on c clock q z es n (s ∷ ss) [] above right h = absurd h
  can_go_on c clock q z es n (s ∷ ss) (w ∷ ws) above right h =
      let start = ap (λ (b : Bounds). b.start) h.0.0.1 in
      let drew = ap (λ (l : List ℕ). fold max (bounds_of w.seat).start l) h.0.1 in
      let point = ap (λ (p : Option ResumePoint). unwrap_or p no_point) h.1.start in
      let low = All-head (λ (x : Begun). floor_at x.1 ≤ (bounds_of clock).start) s ss above in
      All-cons (CanGoOn c) w ws (record {
        floor = subst (λ (p : ResumePoint). p.floor ≤ floor_of w.seat) (sym point) (omega (arith, start, drew, low));
        of_stream = λ number type found. subst (λ (p : ResumePoint). IsOf p.stream number) (sym point)
            (of_its_type c z.bytes s number type (All-head (λ (x : Begun). fault_of c z.bytes x ≡ None) s ss right)
            (subst (λ (name : List ℕ). stream_named name 0 c.streams ≡ Some (number, type)) h.1.type_name found));
      }) (can_go_on c clock q z es (suc n) ss ws (All-tail (λ (x : Begun). floor_at x.1 ≤ (bounds_of clock).start) s ss above)
      (All-tail (λ (x : Begun). fault_of c z.bytes x ≡ None) s ss right) h.2)

-- ---- what they leave

worker_each : {File : Type 0} (clock : TickSeat) (q : ℕ) (z : Sizes) (es : List Event) (n : ℕ) (ss : List Begun) (ws : List (Worker (WriterSink File)))
    → AreWorkers clock q z es n ss ws → length ws ≡ length ss
worker_each clock q z es n [] [] h = refl
worker_each clock q z es n [] (w ∷ ws) h = absurd h
worker_each clock q z es n (s ∷ ss) [] h = absurd h
worker_each clock q z es n (s ∷ ss) (w ∷ ws) h = ap suc (worker_each clock q z es (suc n) ss ws h.2)

ends_each : {W : Type 0} (appends : W → List ℕ → Result (Unit {0}) SinkFault → W → Type 0) (held : W → Option (List ℕ)) (faults : W → ℕ) (c : Config) (fault : Option ThreadsFault)
    (ws : List (Worker W)) (rs : List (Vec Answer)) (ends : List FinishAnswer) (sinks : List W) → AllRan appends held faults c fault ws rs ends sinks → length ends ≡ length ws
ends_each appends held faults c fault [] [] [] [] h = refl
ends_each appends held faults c fault [] [] [] (k ∷ sinks) h = absurd h
ends_each appends held faults c fault [] [] (e ∷ ends) sinks h = absurd h
ends_each appends held faults c fault [] (r ∷ rs) ends sinks h = absurd h
ends_each appends held faults c fault (w ∷ ws) [] ends sinks h = absurd h
ends_each appends held faults c fault (w ∷ ws) (r ∷ rs) [] sinks h = absurd h
ends_each appends held faults c fault (w ∷ ws) (r ∷ rs) (e ∷ ends) [] h = absurd h
ends_each appends held faults c fault (w ∷ ws) (r ∷ rs) (e ∷ ends) (k ∷ sinks) h = ap suc (ends_each appends held faults c fault ws rs ends sinks h.1)

-- each stream has an end
pub an_end_each : {File : Type 0} (appends : WriterSink File → List ℕ → Result (Unit {0}) SinkFault → WriterSink File → Type 0) (held : WriterSink File → Option (List ℕ))
    (faults : WriterSink File → ℕ) (c : Config) (fault : Option ThreadsFault) (clock : TickSeat) (q : ℕ) (z : Sizes) (es : List Event) (ss : List ScriptStream) (ps : List (Option ResumePoint))
    (ws : List (Worker (WriterSink File))) (rs : List (Vec Answer)) (ends : List FinishAnswer) (sinks : List (WriterSink File)) → length ps ≡ length ss
    → AreWorkers clock q z es 0 (zip ss ps) ws → AllRan appends held faults c fault ws rs ends sinks → length ends ≡ length ss
an_end_each appends held faults c fault clock q z es ss ps ws rs ends sinks points workers ran =
    ends_each appends held faults c fault ws rs ends sinks ran ∙ worker_each clock q z es 0 (zip ss ps) ws workers ∙ length_begun ss ps points

-- ---- lines

named_suc : (name : List ℕ) (n : ℕ) (answers : List Answer) (i : ℕ) (a : Answer) → slice_get answers i ≡ Some a
    → named_lines name n (take (suc i) answers) ≡ named_lines name n (take i answers) ++ named_line name (n + i) a
named_suc name n [] i a at = absurd (let k : None ≡ Some a = at in cc)
named_suc name n (x ∷ answers) zero a at =
    let same : x ≡ a = same_Some x a at in
    append-nil (named_line name n x) ∙ ap (λ y. named_line name n y) same ∙ ap (λ m. named_line name m a) (let e : n ≡ n + 0 = omega arith in e)
named_suc name n (x ∷ answers) (suc i) a at =
    ap (λ l. named_line name n x ++ l) (named_suc name (suc n) answers i a at)
    ∙ sym (append_assoc (named_line name n x) (named_lines name (suc n) (take i answers)) (named_line name (suc n + i) a))
    ∙ ap (λ m. (named_line name n x ++ named_lines name (suc n) (take i answers)) ++ named_line name m a) (let e : suc n + i ≡ n + suc i = omega arith in e)

-- one line more of a stream
pub named_more : (name : List ℕ) (answers : List Answer) (i : ℕ) (a : Answer) → slice_get answers i ≡ Some a
    → named_lines name 0 (take (i + 1) answers) ≡ named_lines name 0 (take i answers) ++ named_line name i a
named_more name answers i a at =
    rw add-one (named_suc name 0 answers i a at ∙ ap (λ m. named_lines name 0 (take i answers) ++ named_line name m a) (let e : 0 + i ≡ i = omega arith in e))

streams_suc : (ss : List ScriptStream) (rs : List (Vec Answer)) (i : ℕ) (s : ScriptStream) (r : Vec Answer) → slice_get ss i ≡ Some s → slice_get rs i ≡ Some r
    → stream_lines (take (suc i) ss) rs ≡ stream_lines (take i ss) rs ++ named_lines s.name 0 r.items
streams_suc [] rs i s r at found = absurd (let k : None ≡ Some s = at in cc)
streams_suc (x ∷ ss) [] i s r at found = absurd (let k : None ≡ Some r = found in cc)
streams_suc (x ∷ ss) (y ∷ rs) zero s r at found =
    append-nil (named_lines x.name 0 y.items)
    ∙ ap₂ (λ (a : ScriptStream) (b : Vec Answer). named_lines a.name 0 b.items) (same_Some x s at) (same_Some y r found)
streams_suc (x ∷ ss) (y ∷ rs) (suc i) s r at found =
    ap (λ l. named_lines x.name 0 y.items ++ l) (streams_suc ss rs i s r at found)
    ∙ sym (append_assoc (named_lines x.name 0 y.items) (stream_lines (take i ss) rs) (named_lines s.name 0 r.items))

streams_end : (ss : List ScriptStream) (rs : List (Vec Answer)) (i : ℕ) → slice_get rs i ≡ None → stream_lines (take (suc i) ss) rs ≡ stream_lines (take i ss) rs
streams_end [] rs zero found = refl
streams_end [] rs (suc i) found = refl
streams_end (x ∷ ss) [] zero found = refl
streams_end (x ∷ ss) [] (suc i) found = refl
streams_end (x ∷ ss) (y ∷ rs) zero found = absurd (let k : Some y ≡ None = found in cc)
streams_end (x ∷ ss) (y ∷ rs) (suc i) found = ap (λ l. named_lines x.name 0 y.items ++ l) (streams_end ss rs i found)

-- the lines of one stream more
pub streams_more : (ss : List ScriptStream) (rs : List (Vec Answer)) (i : ℕ) (s : ScriptStream) → slice_get ss i ≡ Some s
    → stream_lines (take (i + 1) ss) rs ≡ stream_lines (take i ss) rs ++ named_lines s.name 0 (answers_at (slice_get rs i))
streams_more ss rs i s at = rw add-one (go (slice_get rs i) refl)
  where
    go : (o : Option (Vec Answer)) → slice_get rs i ≡ o → stream_lines (take (suc i) ss) rs ≡ stream_lines (take i ss) rs ++ named_lines s.name 0 (answers_at o)
    go (Some r) found = streams_suc ss rs i s r at found
    go None found = streams_end ss rs i found ∙ sym (append-nil (stream_lines (take i ss) rs))
