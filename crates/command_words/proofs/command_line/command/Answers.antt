use Rattle.std.proofs.Common.{◌≡◌, ◌<◌, ◌∙◌, inr, ap, sym, length, List, [], Option, Some, map, subst, arith}
use Rattle.std.specs.Box.{box_value}
use Rattle.std.proofs.lemmas.Bool.Decides.{nat_tests}
use Rattle.std.proofs.lemmas.Result.{IfErr-weaker, IfOk-weaker}
use Rattle.clap.specs.Words.{App, HasKind, Row, Text, fault_of, found_of, is_simple, is_simple_and_free, rows_of, subcommand_of}
use Rattle.clap.specs.declared.parser.matches.ArgMatches.TheViews.{out-ArgMatches, out-SubCommand}
use Rattle.command_words.specs.LineFaults.{IsBlamedBy}
use Rattle.command_words.specs.ProgramWords.{program}
use Rattle.command_words.proofs.CommandLineLaws.{blamed_refuses, command_asks, pair_known, parser_refuses, parser_told, program_is_free, program_is_simple, words_there}
use Rattle.command_words.proofs.command_line.command.Goals.{Joined-matches}
use Rattle.command_words.proofs.command_line.command.Goals as goal

pub returns-in-Err-clause-refused : goal.returns-in-Err-clause-refused
returns-in-Err-clause-refused c =
    let words = map (λ s. s.now) c.args.words.now in
    let some : 0 < length c.args.words.now = grind (arith, nat_tests) in
    let app = c.in_ok-program.ensures.words in
    parser_refuses words c.in-Err.error c.line_fault.result (words_there c.args.words.now some) c.line_fault.ensures.memory
    (subst (λ (a : App). HasKind (fault_of a words) c.in-Err.error) app (c.in-Err.ensures.kinds (ap is_simple_and_free app ∙ program_is_free)))

pub returns-in-Err-clause-told : goal.returns-in-Err-clause-told
returns-in-Err-clause-told c =
    let words = map (λ s. s.now) c.args.words.now in
    let app = c.in_ok-program.ensures.words in
    parser_told words c.in-Err.error c.line_fault.result c.line_fault.ensures.memory c.line_fault.ensures.told
    (subst (λ (a : App). HasKind (fault_of a words) c.in-Err.error) app (c.in-Err.ensures.kinds (ap is_simple_and_free app ∙ program_is_free)))

-- ---- the command that is found

abbrev words_of : Joined-matches → List Text
words_of c = map (λ s. s.now) c.args.words.now

some : (c : Joined-matches) → 0 < length (words_of c)
some c = words_there c.args.words.now (let h : 0 < length c.args.words.now = grind (arith, nat_tests) in h)

taken : (c : Joined-matches) → fault_of program (words_of c) ≡ []
taken c =
    let app = c.in_ok-program.ensures.words in
    sym (ap (λ (a : App). fault_of a (words_of c)) app) ∙ c.in-Ok.ensures.kinds (ap is_simple_and_free app ∙ program_is_free)

found : (c : Joined-matches) → subcommand_of program (words_of c) ≡ Some (c.in-Some.name.now, rows_of (found_of c.in-Some.found.now))
found c =
    let app = c.in_ok-program.ensures.words in
    let known = pair_known (λ b. (out-SubCommand (box_value b)).name.now) (λ b. rows_of (found_of (out-SubCommand (box_value b)).matches))
    (out-ArgMatches c.in-Ok.matches).subcommand c.in-Some.name.now (rows_of (found_of c.in-Some.found.now)) c.in-Some.ensures.name c.in-Some.ensures.rows in
    sym (ap (λ (a : App). subcommand_of a (words_of c)) app) ∙ sym (c.in-Ok.ensures.matches (ap is_simple app ∙ program_is_simple)).1 ∙ known

pub returns-in-Some-clause-asks : goal.returns-in-Some-clause-asks
returns-in-Some-clause-asks c =
    IfOk-weaker c.named.result _ _ (λ asked h. command_asks (words_of c) asked (some c) (record {
      taken = taken c;
      name = c.in-Some.name.now;
      rows = rows_of (found_of c.in-Some.found.now);
      found = found c;
      asks = h;
    })) c.named.ensures.asks

pub returns-in-Some-clause-refused : goal.returns-in-Some-clause-refused
returns-in-Some-clause-refused c =
    IfErr-weaker c.named.result _ _ (λ fault blamed. blamed_refuses (words_of c) c.in-Some.name.now (rows_of (found_of c.in-Some.found.now)) fault (some c) (found c) blamed) c.named.ensures.blamed

pub returns-in-Some-clause-told : goal.returns-in-Some-clause-told
returns-in-Some-clause-told c =
    IfErr-weaker c.named.result _ _ (λ fault blamed. inr (inr (taken c, subst (λ (o : Option (Text × List Row)). IsBlamedBy o fault) (sym (found c)) blamed))) c.named.ensures.blamed
