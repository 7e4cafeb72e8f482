-- Where the length of a sequence is: in an unsigned integer member that stands before.
use Rattle.std.proofs.Common.{◌≡◌, ℕ, ◌&&◌, List, [], ◌∷◌, get_or, Some, ap, ◌∙◌, nat_lt, bytes_eq}
use Rattle.std.specs.List.{list_all}
use Rattle.std.proofs.lemmas.List.Quantifiers.{position-Some}
use Rattle.ctf_types.specs.{declared.FieldType.FieldType, declared.MemberType.MemberType, declared.MemberType.TheVariants.{Plain, Dyn}}
use Rattle.ctf_types.specs.declared.Length.TheVariants.{Auto, At}
use Rattle.ctf_types.specs.Chain.{Leaf}
use Rattle.tsdl_grammar.specs.{declared.tree.Bracket.Bracket, declared.tree.MemberTree.MemberTree}
use Rattle.tsdl_grammar.specs.declared.tree.Bracket.TheVariants as brackets
use Rattle.tsdl_grammar.specs.{IntegerMeaning.Known, Laws.NamesLength}
use Rattle.tsdl_grammar.specs.Steps.{◌>>=◌, provided, each}
use Rattle.tsdl_grammar.specs.MemberMeaning.{kind_meaning, bracketed, member_meaning, arrays_of, are_lengths, count_of, is_unsigned, length_place}
use Rattle.tsdl_grammar.proofs.{Inversion.{bind_some, provided_some}, Runs.and_true}

in_brackets : (before : List (List ℕ × MemberType)) (leaf : Leaf) (bs : List Bracket) (t : FieldType) (i : ℕ) → bracketed before leaf bs ≡ Some (Dyn t (At i)) → NamesLength before i
unfolding bracketed
in_brackets before leaf [] t i e = absurd cc
in_brackets before leaf (brackets.Count n ∷ bs) t i e =
    let a = bind_some (each count_of (brackets.Count n ∷ bs)) (λ lengths. provided (are_lengths lengths) (Some (Plain (arrays_of leaf lengths)))) (Dyn t (At i)) e in
    let b = provided_some (are_lengths a.0) (Some (Plain (arrays_of leaf a.0))) (Dyn t (At i)) a.2 in
    absurd (let plain = b.1 in cc)
in_brackets before leaf (brackets.Member w ∷ bs) t i e =
    let a = bind_some (each count_of bs) (λ lengths. length_place before w >>= λ place. provided (are_lengths lengths && list_all (nat_lt 0) lengths) (Some (Dyn (arrays_of leaf lengths) (At place)))) (Dyn t (At i)) e in
    let b = bind_some (length_place before w) (λ place. provided (are_lengths a.0 && list_all (nat_lt 0) a.0) (Some (Dyn (arrays_of leaf a.0) (At place)))) (Dyn t (At i)) a.2 in
    let c = provided_some (are_lengths a.0 && list_all (nat_lt 0) a.0) (Some (Dyn (arrays_of leaf a.0) (At b.0))) (Dyn t (At i)) b.2 in
    let same : b.0 ≡ i = (let made = c.1 in cc) in
    let at : length_place before w ≡ Some i = b.1 ∙ ap Some same in
    record {
      stands_before = (position-Some (λ m. bytes_eq w m.0 && is_unsigned m.1) before i ([], Dyn t Auto) at).0;
      unsigned = λ d. (and_true (bytes_eq w (get_or before i d).0) (is_unsigned (get_or before i d).1) (position-Some (λ m. bytes_eq w m.0 && is_unsigned m.1) before i d at).1).1;
    }

pub names_length : (known : Known) (before : List (List ℕ × MemberType)) (m : MemberTree) (t : FieldType) (i : ℕ) → member_meaning known before m ≡ Some (Dyn t (At i)) → NamesLength before i
unfolding member_meaning
names_length known before m t i e =
    let a = bind_some (kind_meaning known m.kind) (λ leaf. bracketed before leaf m.brackets) (Dyn t (At i)) e in
    in_brackets before a.0 m.brackets t i a.2
