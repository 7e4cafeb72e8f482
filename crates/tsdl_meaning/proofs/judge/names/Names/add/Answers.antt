use Rattle.std.proofs.Common.{◌≡◌, ℕ, Bool, true, not, cond, List, sym, ap, ◌∙◌, arith}
use Rattle.tsdl_meaning.proofs.TextWords.{bytes_eq, contains_text, string_bytes, written}
use Rattle.std.proofs.lemmas.Map.Text.{btree_set_updates_text}
use Rattle.tsdl_meaning.proofs.StopsInAttributes.{named_twice}
use Rattle.tsdl_meaning.proofs.judge.names.Names.add.Goals as goal

was_there : (there new : Bool) → new ≡ not there → there ≡ not new
was_there there new e = grind (arith, e)

pub returns-clause-fault : goal.returns-clause-fault
returns-clause-fault c = λ sign front behind named.
    let names = c.args.self.now.names in
    let there : contains_text names (written c.args.name.now) ≡ true =
    ap (contains_text names) (sym c.in_ok-written.ensures) ∙ was_there _ _ c.in_ok-insert.ensures.added ∙ ap not c.if-branch.false
    in
    named_twice names front behind sign c.args.name.now c.args.at c.length.result c.saturating_add.result c.saturating_add-end.result there named c.length.ensures c.saturating_add.ensures
    c.saturating_add-end.ensures

pub returns-then-branch-clause-flawless : goal.returns-then-branch-clause-flawless
returns-then-branch-clause-flawless c = record {
  fresh = ap (contains_text c.args.self.now.names) (sym c.in_ok-written.ensures) ∙ was_there _ _ c.in_ok-insert.ensures.added ∙ ap not c.if-branch.true;
  kept = λ w.
      btree_set_updates_text (string_bytes c.in_ok-written.written) c.args.self.now.names c.insert.new.self true c.in_ok-insert.ensures.updates w
      ∙ ap (λ (n : List ℕ). cond (bytes_eq n w) true (contains_text c.args.self.now.names w)) c.in_ok-written.ensures;
}
