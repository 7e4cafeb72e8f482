use Rattle.std.proofs.Common.{◌++◌, take}
use Rattle.tsdl_meaning.proofs.TextWords.{StandsBehind, attr_toks, flat_map, own_asked, own_attrs, type_word}
use Rattle.tsdl_meaning.proofs.FlawlessTypes.{Own}
use Rattle.tsdl_meaning.proofs.StopsInAttributes.{list_opening}
use Rattle.tsdl_meaning.proofs.judge.kind.judge_attributes.Given as goal

-- the attributes so far stand before the place, with all the names
abbrev pub invariant-loop-attribute : goal.invariant-loop-attribute
invariant-loop-attribute l =
    let done = take l.attribute-index l.attributes in
    record {
      stands : StandsBehind l.at (list_opening (type_word l.kind) ++ flat_map attr_toks done) l.next;
      own : Own (own_attrs l.kind) (own_asked l.judging.survey.now.known l.kind) done l.names.names;
    }
