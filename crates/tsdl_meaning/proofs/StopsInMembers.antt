-- A stop in a part of a member, of its kind or its brackets, is a stop in the structure.
use Rattle.std.proofs.Common.{◌≡◌, ℕ, ◌+◌, ◌≤◌, ◌<◌, true, List, ◌∷◌, ◌++◌, Option, Some, length, take, get_or, min, refl, sym, ap, ◌∙◌, subst, inl, inr, arith, append_assoc, length-take, codes, ◌*◌, ◌⊎◌, max, string_bytes, Contains, []}
use Rattle.tsdl_meaning.proofs.TextWords.{AreBrackets, AsksAlignment, Atom, Bracket, Ends, Entry, Global, IsBehindBrace, IsBehindKind, IsInBrackets, IsMemberTooMany, IsMemberTwice, IsPassed, IsRangeTooMany, IsTwice, IsUnsupported, Kind, MAX_ARRAYS, MAX_ELEMENTS, MAX_MEMBERS, MAX_RANGES, MemberTree, MemberType, Number, PassesLimit, StandsBehind, Stop, StopsIn, StopsWhere, String, Structure, align_toks, append-nil, behind_more, bracket_toks, depth, elements, entry_toks, false≢true, flat_map, kind_toks, label_toks, length-map, mark, member_toks, most, names_in, natural, next_entry_toks, number_toks, stops_after, struct_toks, word}
use Rattle.tsdl_grammar.specs.declared.token.Mark.TheVariants as marks
use Rattle.tsdl_grammar.specs.declared.tree.Label.{Label}
use Rattle.tsdl_grammar.specs.declared.tree.Bracket.TheVariants as brackets
use Rattle.tsdl_meaning.specs.declared.judge.brackets.Lengths.{Lengths}
use Rattle.tsdl_meaning.specs.MembersBefore.{AreMembers}
use Rattle.tsdl_meaning.proofs.FlawlessTypes.{lengths_of}
use Rattle.tsdl_meaning.proofs.JudgedParts.{in_item, in_part}
use Rattle.tsdl_meaning.proofs.Misfits.{alignment_unfit}

pub label_length : (l : Label) → length (label_toks l) ≡ 1
label_length l = grind arith

-- ---- ranges

-- the ranges before one
abbrev pub range_before : Entry → List Entry → ℕ → List Atom
range_before first others i = entry_toks first ++ flat_map next_entry_toks (take i others)

-- what stands before a range behind a comma
abbrev pub range_front : List Atom → Entry → List Entry → ℕ → List Atom
range_front front first others i = (front ++ range_before first others i) ++ mark marks.Comma ∷ []

-- a stop in another range
pub in_range : (first : Entry) (others : List Entry) (i : ℕ) (x : Entry) (front behind : List Atom) (at next place : ℕ) (stop : Stop) → i < length others → x ≡ get_or others i x
    → StandsBehind at (range_before first others i) next → place ≡ min (next + 1) most → ((after : List Atom) → StopsIn (range_front front first others i) place (entry_toks x ++ after) stop)
    → StopsIn front at ((entry_toks first ++ flat_map next_entry_toks others) ++ behind) stop
in_range first others i x front behind at next place stop h is stands passes s =
    let ranges = flat_map next_entry_toks others in
    in_item next_entry_toks others i x (entry_toks first ++ ranges) (entry_toks first) [] front behind at next stop h is (ap (λ (l : List Atom). entry_toks first ++ l) (sym (append-nil ranges))) stands
    (λ after.
    stops_after (front ++ range_before first others i) (next_entry_toks x ++ after) (mark marks.Comma ∷ []) (entry_toks x ++ after) next place stop refl (λ fits. omega arith) (s after))

-- a range too many
pub range_many : (first : Entry) (others : List Entry) (i : ℕ) (label : Label) (front : List Atom) → IsBehindBrace front → MAX_RANGES ≤ 1 + i → i < length others
    → IsPassed (range_front front first others i) (label_toks label)
range_many first others i label front brace many h =
    let l : length (take i others) ≡ i = let t = length-take i others in omega arith in
    let e : range_front front first others i ≡ brace.0 ++ (mark marks.OpenBrace ∷ entry_toks first ++ flat_map next_entry_toks (take i others) ++ mark marks.Comma ∷ []) =
    ap (λ (f : List Atom). (f ++ range_before first others i) ++ mark marks.Comma ∷ []) brace.1 ∙ simp append_assoc
    in
    let it : IsRangeTooMany (range_front front first others i) (label_toks label) = record { first = first; others = take i others; label = label; ends = (brace.0, e); many = omega arith; here = refl } in
    inr (inl it)

-- ---- brackets

-- a word that is not read, with what stands behind it
pub word_unread : (front : List Atom) (w : List ℕ) (more : List Atom) (s : String Global) → string_bytes s ≡ w → IsUnsupported front (word w ∷ more) (string_bytes s)
word_unread front w more s e = inl (record { words = record { first = w; rest = [] }; behind = more; here = refl; same = e ∙ sym (append-nil w) })

-- a length that passes a limit
pub long_length : (before : List (List ℕ × MemberType)) (l : Lengths) (done : List Bracket) (n : Number) (v : ℕ) (front : List Atom) → AreBrackets before done l → natural n ≡ Some v → PassesLimit l v
    → IsInBrackets done front → IsPassed front (number_toks n)
long_length before l done n v front s e passes ends = by passes
  where
    are : (depth done ≡ l.count) × (elements done ≡ l.elements)
    are = lengths_of before done l s

    named : l.is_sequence ≡ true → (w : List ℕ) × (others : List Bracket) × (done ≡ brackets.Member w ∷ others)
    named t = elim s.shape [ inl plain ↦ absurd (false≢true (sym plain.0 ∙ t)) | inr name ↦ (name.1.name, name.1.rest, name.1.begins) ]

    long : (MAX_ARRAYS ≤ depth done) ⊎ (MAX_ELEMENTS < elements done * max v 1) ⊎ ((v ≡ 0) × ((w : List ℕ) × (others : List Bracket) × (done ≡ brackets.Member w ∷ others))) → IsPassed front (number_toks n)
    long p = inr (inr (inr (inr (record { before = done; number = n; n = v; ends = ends; here = refl; value = e; passes = p }))))

    by : PassesLimit l v → IsPassed front (number_toks n)
    by (inl many) = long (inl (omega (arith, many, are.0)))
    by (inr (inl large)) = long (inr (inl (subst (λ (k : ℕ). MAX_ELEMENTS < k * max v 1) (sym are.1) large)))
    by (inr (inr none)) = long (inr (inr (none.0, named none.1)))

-- a stop between brackets
pub in_bracket : (P Q : List Atom → Type 0) (inner : List Atom) (at place : ℕ) (stop : Stop) → place ≡ min (at + 1) most → ((front : List Atom) → P front → Q (front ++ mark marks.OpenBracket ∷ []))
    → StopsWhere Q place inner stop → StopsWhere P at (mark marks.OpenBracket ∷ inner ++ mark marks.CloseBracket ∷ []) stop
in_bracket P Q inner at place stop passes ends s = λ front behind p.
    let opening = mark marks.OpenBracket ∷ [] in
    let closing = mark marks.CloseBracket ∷ [] in
    in_part (opening ++ inner ++ closing) opening inner closing front behind at place stop refl (λ fits. omega arith) (s (front ++ opening) (closing ++ behind) (ends front p))

-- ---- members

pub member_parts : (t : MemberTree) (behind : List Atom) → member_toks t ++ behind ≡ kind_toks t.kind ++ (word t.name ∷ (flat_map bracket_toks t.brackets ++ mark marks.Semicolon ∷ behind))
member_parts t behind = simp append_assoc

-- the name of a member that is there already
pub member_twice : (done : List MemberTree) (members : List (List ℕ × MemberType)) (kind : Kind) (w : List ℕ) (front : List Atom) → AreMembers done members → Contains (names_in members) w
    → IsBehindKind done kind front → IsTwice front (word w ∷ [])
member_twice done members kind w front same there ends =
    let it : IsMemberTwice front (word w ∷ []) = record {
      name = w;
      kind = kind;
      members = done;
      ends = ends;
      before = subst (λ (names : List (List ℕ)). Contains names w) same there;
      here = refl;
    } in
    inr (inl it)

-- the name of a member too many
pub member_many : (done : List MemberTree) (members : List (List ℕ × MemberType)) (kind : Kind) (w : List ℕ) (front : List Atom) → AreMembers done members → MAX_MEMBERS ≤ length members
    → IsBehindKind done kind front → IsPassed front (word w ∷ [])
member_many done members kind w front same many ends =
    let l : length members ≡ length done = sym (length-map members (λ m. m.0)) ∙ ap (λ (ns : List (List ℕ)). length ns) same ∙ length-map done (λ t. t.name) in
    let it : IsMemberTooMany front (word w ∷ []) = record { members = done; kind = kind; name = w; ends = ends; many = omega arith; here = refl } in
    inl it

-- ---- structures

abbrev pub struct_opening : List Atom
struct_opening = word (codes "struct") ∷ mark marks.OpenBrace ∷ []

pub struct_parts : (s : Structure) → struct_toks s ≡ struct_opening ++ (flat_map member_toks s.members ++ (mark marks.CloseBrace ∷ align_toks s.align))
struct_parts s = simp append_assoc

-- a stop in the alignment
pub in_align : (s : Structure) (n : Number) (front behind : List Atom) (at next place : ℕ) (stop : Stop) → s.align ≡ Some n → StandsBehind at (struct_opening ++ flat_map member_toks s.members) next
    → place ≡ min (next + 3) most → StopsWhere (AsksAlignment n) place (number_toks n) stop → StopsIn front at (struct_toks s ++ behind) stop
in_align s n front behind at next place stop is stands passes f =
    let members = struct_opening ++ flat_map member_toks s.members in
    let opening = mark marks.CloseBrace ∷ word (codes "align") ∷ mark marks.OpenParenthesis ∷ [] in
    let closing = mark marks.CloseParenthesis ∷ [] in
    let e : struct_toks s ≡ (members ++ opening) ++ (number_toks n ++ closing) =
    struct_parts s ∙ ap (λ (o : Option Number). struct_opening ++ (flat_map member_toks s.members ++ (mark marks.CloseBrace ∷ align_toks o))) is
    ∙ sym (append_assoc members opening (number_toks n ++ closing) ∙ append_assoc struct_opening (flat_map member_toks s.members) (opening ++ (number_toks n ++ closing)))
    in
    in_part (struct_toks s) (members ++ opening) (number_toks n) closing front behind at place stop e (behind_more members opening at next 3 place stands (λ h. refl) passes)
    (let before = front ++ (members ++ opening) in
    let ends : Ends before (word (codes "align") ∷ mark marks.OpenParenthesis ∷ []) = (front ++ (members ++ mark marks.CloseBrace ∷ []), simp append_assoc) in
    f before (closing ++ behind) (inr ends, alignment_unfit n before ends))
