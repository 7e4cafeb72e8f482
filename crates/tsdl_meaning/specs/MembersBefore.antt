-- The members of a structure before a place.
use Rattle.std.specs.Prelude.{◌≡◌, ℕ, List, ◌∷◌, ◌++◌, map}
use Rattle.std.specs.List.{flat_map}
use Rattle.ctf_types.specs.Members.{names_in}
use Rattle.ctf_types.specs.declared.MemberType.{MemberType}
use Rattle.tsdl_grammar.specs.declared.token.Mark.TheVariants as marks
use Rattle.tsdl_grammar.specs.declared.atom.Atom.{Atom}
use Rattle.tsdl_grammar.specs.declared.tree.Kind.{Kind}
use Rattle.tsdl_grammar.specs.declared.tree.MemberTree.{MemberTree}
use Rattle.tsdl_grammar.specs.Spelling.{mark, kind_toks, member_toks}
use Rattle.tsdl_flaw.specs.Fronts.{Ends}

-- the names of these trees are the members'
abbrev pub AreMembers : List MemberTree → List (List ℕ × MemberType) → Type 0
AreMembers done members = names_in members ≡ map (λ t. t.name) done

-- these members and their opening brace stand right before the place
abbrev pub IsBehindMembers : List MemberTree → List Atom → Type 0
IsBehindMembers done front = Ends front (mark marks.OpenBrace ∷ flat_map member_toks done)

-- and so do these and the kind of one more
abbrev pub IsBehindKind : List MemberTree → Kind → List Atom → Type 0
IsBehindKind done kind front = Ends front (mark marks.OpenBrace ∷ flat_map member_toks done ++ kind_toks kind)
