use Rattle.std.proofs.Common.{Contains, add-one, sym, subst, ◌∙◌, ◌++◌, ◌∷◌, [], ap}
use Rattle.data_types.specs.Members.{names_in}
use Rattle.data_types.proofs.MembersLemmas.{not_before, take_one_more}
use Rattle.data_types.proofs.members.MembersDuplicate.copy.Goals as goal

pub push_copy-requires : goal.push_copy-requires
push_copy-requires c = λ w.
    let ms = c.args.self.now in
    let name = c.name_at.result.now in
    not_before ms c.loop-index.index name c.len.ensures.distinct c.name_at.ensures (subst (λ xs. Contains (names_in xs) name) c.loop-index.invariant w)

pub loop-index-preserved : goal.loop-index-preserved
loop-index-preserved c =
    let ms = c.args.self.now in
    let name = c.name_at.result.now in
    let member = c.member_at.result.now in
    rw add-one
    (c.in_ok-push_copy.ensures ∙ ap (λ xs. xs ++ (name, member) ∷ []) c.loop-index.invariant
    ∙ sym (take_one_more ms c.loop-index.index name member c.name_at.ensures c.member_at.ensures))
