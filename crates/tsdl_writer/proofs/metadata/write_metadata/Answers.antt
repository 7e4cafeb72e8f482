use Rattle.tsdl_writer.proofs.Printing.{All, Atom, ClockType, Config, Denotes, Ends, EnvironmentEntry, IsHeld, IsHeldClock, IsHeldValue, List, Printer, StreamType, [], all_event_blocks, append-nil, block_and_semicolon, blocks_of, clock_block, environment_blocks, map, metadata_of, stream_blocks, subst, sym, text_toks, trace_block, ℕ, ◌++◌, ◌∷◌, ◌≡◌, regroup, pair}
use Rattle.tsdl_writer.proofs.TreeWords.{written}
use Rattle.tsdl_writer.proofs.TextMeaning.{written_denotes}
use Rattle.tsdl_writer.proofs.metadata.write_metadata.Goals as goal

-- the blocks one after the other
all_blocks : {p : Printer} {text : List ℕ} (c : Config) (entries : List EnvironmentEntry) (clocks : List ClockType) (streams again : List StreamType)
    → entries ≡ c.environment → clocks ≡ c.clocks → streams ≡ c.streams → again ≡ c.streams
    → Ends p (block_and_semicolon (trace_block c) ++ (text_toks (environment_blocks entries) ++ (text_toks (map clock_block clocks) ++ (text_toks (stream_blocks 0 streams) ++ (text_toks (all_event_blocks 0 again) ++ []))))) text
    → Ends p (text_toks (blocks_of c)) text
all_blocks {p} {text} c entries clocks streams again e k s v printed =
    let t = trace_block c in let env = environment_blocks c.environment in let ks = map clock_block c.clocks in let ss = stream_blocks 0 c.streams in let es = all_event_blocks 0 c.streams in
    let same = rw (e, k, s, v) at printed in
    subst (λ (w : List Atom). Ends p w text) (append-nil (text_toks (blocks_of c))) (pair block_and_semicolon (t ∷ env ++ ks ++ ss) es [] (pair block_and_semicolon (t ∷ env ++ ks) ss _
    (pair block_and_semicolon (t ∷ env) ks _ (regroup (block_and_semicolon t) (text_toks env) _ same))))

pub returns : goal.returns
unfolding written
returns c =
    let config = c.args.config.now in
    let ends : Ends c.all_events.new.out [] _ = record { whole = sym c.in_ok-text.ensures; strings = tt } in
    let printed = c.in_ok-trace.ensures.prints _ _ (c.in_ok-environment.ensures.prints _ _ (c.in_ok-clocks.ensures.prints _ _ (c.in_ok-streams.ensures _ _ (c.in_ok-all_events.ensures [] _ ends)))) in
    let blocks = all_blocks config _ _ _ _ c.as_slice.ensures c.as_slice-2.ensures c.as_slice-3.ensures c.as_slice-4.ensures printed in
    let begins = c.in_ok-out.ensures in
    let text = sym (rw (begins.text, begins.depth, begins.place) at blocks.whole) in
    let held : IsHeld config = record {
      uuid = c.in_ok-trace.ensures.held;
      environment = subst (All (λ (e : EnvironmentEntry). IsHeldValue e.value)) c.as_slice.ensures c.in_ok-environment.ensures.held;
      clocks = subst (All IsHeldClock) c.as_slice-2.ensures c.in_ok-clocks.ensures.held;
    } in
    record { text = text; denotes = λ h. subst (λ (bytes : List ℕ). Denotes bytes (metadata_of config)) (sym text) (written_denotes config h held blocks.strings) }
