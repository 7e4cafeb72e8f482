use Rattle.std.proofs.Common.{refl, sym, ap, ◌∙◌, arith, []}
use Rattle.tsdl_meaning.proofs.TextWords.{is_some, length_place, word}
use Rattle.tsdl_meaning.proofs.FlawlessTypes.{name_more}
use Rattle.tsdl_meaning.proofs.StopsInMembers.{word_unread}
use Rattle.tsdl_meaning.proofs.judge.brackets.judge_name.Goals as goal

pub returns-then-lengths-clause-fault : goal.returns-then-lengths-clause-fault
returns-then-lengths-clause-fault c = λ front behind stands.
    let w = c.args.name.now in c.at_atom.ensures front behind (word w) (word_unread front w [] c.in_ok-name.name (c.in_ok-name.ensures.ok ∙ c.as_str.ensures))

pub returns-then-is_none-clause-fault : goal.returns-then-is_none-clause-fault
returns-then-is_none-clause-fault c = λ front behind stands. c.at_atom-then-is_none.ensures front behind (word c.args.name.now) (stands, (c.args.name.now, refl))

pub returns-clause-meant : goal.returns-clause-meant
returns-clause-meant c = λ done s.
    let before = c.args.before.now in
    let place = sym (ap is_some (c.length_place.ensures ∙ ap (length_place before) c.as_str-2.ensures)) ∙ c.if-is_none.ensures in
    name_more before done c.args.lengths.now c.args.name.now s c.if-lengths.false (omega arith) place
