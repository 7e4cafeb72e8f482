use Rattle.tsdl_grammar.specs.declared.token.Mark.TheVariants as marks
use Rattle.tsdl_grammar.specs.declared.atom.Atom.TheVariants as atoms
use Rattle.tsdl_writer.proofs.Printing.{Auto, Dyn, [], array_member, bracket_toks, chain_of, count_bracket, flat_map, int_toks, integer_attributes, kind_toks, kind_tree, length_member, length_name, length_type, map, member_toks, rules, ◌++◌, ◌∷◌, ◌≡◌, last, regroup, line}
use Rattle.tsdl_writer.proofs.members.member.Goals as goal

pub returns-in_ok-lengths-in-Plain : goal.returns-in_ok-lengths-in-Plain
returns-in_ok-lengths-in-Plain c =
    rw c.in-Plain.is (last c.token-in-Plain.result c.token-in-Plain.ensures (λ one. search (regroup, c.in_ok-kind-in-Plain.ensures, c.in_ok-token-in-Plain.ensures, c.in_ok-lengths-in-Plain.ensures, one) depth 20))

-- the length's member, and then the array's
pub returns-in_ok-lengths-in-Dyn-default-Auto : goal.returns-in_ok-lengths-in-Dyn-default-Auto
returns-in_ok-lengths-in-Dyn-default-Auto c =
    let same : c.args.member.now ≡ Dyn c.in-Dyn-default-Auto.element Auto = search rules in
    let name = c.args.name.now in let chain = chain_of c.in-Dyn-default-Auto.element in let is = c.in-Some.ensures in
    let length = length_name name in let array = member_toks (array_member name chain) in let lengths = flat_map bracket_toks (map count_bracket chain.lengths) in
    rw same (last c.token-in-Dyn-default-Auto-2.result c.token-in-Dyn-default-Auto-2.ensures (λ one rest text e.
    let second = line (kind_toks (kind_tree chain.leaf)) (atoms.Word name ∷ atoms.Mark marks.OpenBracket ∷ atoms.Word length ∷ atoms.Mark marks.CloseBracket ∷ lengths) rest
    (c.in_ok-kind-in-Dyn-default-Auto.ensures _ text (c.in_ok-print-in-Dyn-default-Auto-2.ensures _ text (c.in_ok-token-in-Dyn-default-Auto.ensures _ text
    (c.in_ok-lengths-in-Dyn-default-Auto.ensures _ text (one rest text e))))) in
    let first = c.in_ok-integer-in-Dyn-default-Auto.ensures _ text (c.in_ok-print-in-Dyn-default-Auto.ensures _ text (regroup array [] rest second)) in
    regroup (member_toks (length_member name)) (array ++ []) rest
    (line (int_toks (integer_attributes length_type)) (atoms.Word length ∷ []) (array ++ [] ++ rest) (rw (is.size, is.align, is.signed, is.base, is.no_clock) at first))))
