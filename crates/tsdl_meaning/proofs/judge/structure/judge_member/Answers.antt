use Rattle.tsdl_meaning.proofs.TextWords.{Bracket, IsBehindMembers, MemberTree, Stop, StopsAmong, StopsWhere, behind_more, bracket_toks, bracketed, flat_map, is_some, kind_toks, mark, member_toks, names_in, stops_after, word}
use Rattle.std.proofs.Common.{◌≡◌, ℕ, true, false, List, ◌∷◌, ◌++◌, IsSome, Contains, refl, sym, ap, ◌∙◌, subst, append_assoc, arith, []}
use Rattle.tsdl_grammar.specs.declared.token.Mark.TheVariants as marks
use Rattle.tsdl_meaning.specs.MembersBefore.{AreMembers}
use Rattle.tsdl_meaning.proofs.FlawlessTypes.{member_means}
use Rattle.tsdl_meaning.proofs.JudgedParts.{behind_first, ends_more, handed, stops_same}
use Rattle.tsdl_meaning.proofs.StopsInMembers.{member_parts, word_unread}
use Rattle.tsdl_flaw.specs.declared.flaw.Flaw.TheVariants as flaws
use Rattle.tsdl_flaw.specs.declared.flaw.Remedy.TheVariants.{WithType}
use Rattle.tsdl_flaw.specs.declared.flaw.Fault.{Fault}
use Rattle.tsdl_flaw.specs.declared.flaw.Stop.TheVariants as stops
use Rattle.tsdl_flaw.proofs.Stops.{whole}
use Rattle.tsdl_meaning.proofs.judge.structure.judge_member.Goals as goal

pub returns-in_err-judge_kind-clause-fault : goal.returns-in_err-judge_kind-clause-fault
returns-in_err-judge_kind-clause-fault c =
    let t = c.args.tree.now in
    let stop = c.in_err-judge_kind.field-0.0 in
    handed c.from_residual.result stop (λ (s : Stop). (done : List MemberTree) → AreMembers done c.args.members.now → StopsWhere (IsBehindMembers done) c.args.at (member_toks t) s)
    c.from_residual.ensures.1
    (λ done same front behind ends.
    let rest = word t.name ∷ (flat_map bracket_toks t.brackets ++ mark marks.Semicolon ∷ behind) in
    stops_same front (member_toks t ++ behind) (kind_toks t.kind ++ rest) c.args.at stop (member_parts t behind) (c.in_err-judge_kind.ensures.fault front rest))

pub returns-in_err-judge_member_name-clause-fault : goal.returns-in_err-judge_member_name-clause-fault
returns-in_err-judge_member_name-clause-fault c =
    let t = c.args.tree.now in
    let stop = c.in_err-judge_member_name.field-0.0 in
    handed c.from_residual-in_err-judge_member_name.result stop
    (λ (s : Stop). (done : List MemberTree) → AreMembers done c.args.members.now → StopsWhere (IsBehindMembers done) c.args.at (member_toks t) s)
    c.from_residual-in_err-judge_member_name.ensures.1
    (λ done same front behind ends.
    let kind = kind_toks t.kind in
    let rest = flat_map bracket_toks t.brackets ++ mark marks.Semicolon ∷ behind in
    stops_after front (member_toks t ++ behind) kind (word t.name ∷ rest) c.args.at c.saturating_add-at.result stop (member_parts t behind)
    (behind_first kind c.args.at c.length.result c.saturating_add-at.result c.length.ensures c.saturating_add-at.ensures)
    (c.in_err-judge_member_name.ensures.fault done t.kind same (front ++ kind) rest (ends_more front (mark marks.OpenBrace ∷ flat_map member_toks done) kind ends)))

pub returns-in_err-judge_brackets-clause-fault : goal.returns-in_err-judge_brackets-clause-fault
returns-in_err-judge_brackets-clause-fault c =
    let t = c.args.tree.now in
    let stop = c.in_err-judge_brackets.field-0.0 in
    let place = c.saturating_add-at.result in
    let next = c.saturating_add-behind.result in
    handed c.from_residual-in_err-judge_brackets.result stop
    (λ (s : Stop). (done : List MemberTree) → AreMembers done c.args.members.now → StopsWhere (IsBehindMembers done) c.args.at (member_toks t) s)
    c.from_residual-in_err-judge_brackets.ensures.1
    (λ done same front behind ends.
    let kind = kind_toks t.kind in
    let name = word t.name ∷ [] in
    let rest = mark marks.Semicolon ∷ behind in
    stops_after front (member_toks t ++ behind) (kind ++ name) (flat_map bracket_toks t.brackets ++ rest) c.args.at next stop
    (member_parts t behind ∙ sym (append_assoc kind name (flat_map bracket_toks t.brackets ++ rest)))
    (behind_more kind name c.args.at place 1 next (behind_first kind c.args.at c.length.result place c.length.ensures c.saturating_add-at.ensures) (λ fits. refl) c.saturating_add-behind.ensures)
    (subst (λ (l : List Bracket). StopsAmong next (flat_map bracket_toks l) stop) c.as_slice.ensures c.in_err-judge_brackets.ensures.fault (front ++ (kind ++ name)) rest))

pub unreachable-requires : goal.unreachable-requires
unreachable-requires c =
    let known = c.args.judging.now.survey.now.known in
    let members = c.args.members.now in
    let tree = c.args.tree.now in
    let there = member_means known members tree c.in_ok-judge_kind.ensures.meant
    (λ leaf. subst (λ (bs : List Bracket). IsSome (bracketed members leaf bs)) c.as_slice.ensures (c.in_ok-judge_brackets.ensures.meant leaf)) in
    absurd (let never : false ≡ true = sym (ap is_some (sym c.in_ok-member.ensures ∙ c.in_default.is)) ∙ there in cc)

pub returns-then-not-suits_rule-clause-fault : goal.returns-then-not-suits_rule-clause-fault
returns-then-not-suits_rule-clause-fault c = λ done same front behind ends.
    let t = c.args.tree.now in
    let kind = kind_toks t.kind in
    let brackets = flat_map bracket_toks t.brackets in
    let place = c.saturating_add-at.result in
    let end = c.saturating_add-end.result in
    let name = c.in_ok-name.name in
    let fault : Fault = record { at = place; end = end; flaw = flaws.Unsupported name (WithType c.type_asked.result) } in
    stops_after front (member_toks t ++ behind) kind ((word t.name ∷ brackets) ++ mark marks.Semicolon ∷ behind) c.args.at place (stops.Fault fault) (member_parts t behind)
    (behind_first kind c.args.at c.length.result place c.length.ensures c.saturating_add-at.ensures)
    (whole (front ++ kind) (word t.name ∷ brackets) (mark marks.Semicolon ∷ behind) fault place end refl refl
    (λ some fits. let n = c.length-then-not-suits_rule.ensures (omega arith) in omega (arith, n, c.saturating_add.ensures, c.saturating_add-end.ensures))
    (word_unread (front ++ kind) t.name brackets name (c.in_ok-name.ensures.ok ∙ c.as_str-then-not-suits_rule.ensures)))

pub push-requires : goal.push-requires
push-requires c = λ there. c.in_ok-judge_member_name.ensures.fresh (subst (λ (w : List ℕ). Contains (names_in c.args.members.now) w) c.in_ok-copy.ensures there)
