-- A structure without members is not there; one with members begins at its alignment.
use Rattle.std.proofs.Common.{◌≡◌, ℕ, ◌≤◌, ◌∙◌, [], Bool, Option, List, length, false, true, sym, ap, subst, arith}
use Rattle.std.proofs.lemmas.Bool.{false≢true}
use Rattle.ctf_types.specs.declared.ByteOrder.{ByteOrder}
use Rattle.ctf_types.specs.declared.StructType.{StructType}
use Rattle.ctf_types.specs.Alignment.{up}
use Rattle.ctf_types.specs.Bits.{bit_of, AreZero}
use Rattle.ctf_types.specs.Datum.{Datum}
use Rattle.ctf_types.specs.Fitting.{Fits, MembersFit}
use Rattle.ctf_types.specs.Layout.{struct_align, struct_end, members_end, StructLies}
use Rattle.ctf_types.specs.Values.{data_of}
use Rattle.bit_codec.proofs.SpanLaws.{SameOutside-none}
use Rattle.value_codec.specs.Drafting.{Drafts}
use Rattle.value_codec.specs.Writing.{Writes, MembersLieAnyhow}
use Rattle.value_codec.proofs.DraftingLaws.{Drafts-then, drafts_end, drafts_lie, drafts_others, drafts_below}
use Rattle.value_codec.proofs.MemberLaws.{empty_struct_end, empty_struct-lies, full_struct_end, full_struct-lies, MembersFit-over}
use Rattle.value_codec.proofs.draft_structs.draft_struct.Goals as goal
use Rattle.value_codec.proofs.draft_structs.draft_struct.Goals.{After-draft_members}

-- ---- without members

pub returns-then-is_empty-clause-fits : goal.returns-then-is_empty-clause-fits
returns-then-is_empty-clause-fits c =
    let s = c.args.s.now in
    let over : length s.members ≤ 0 = omega (arith, ap length (c.is_empty.ensures.0 c.if-is_empty.true)) in
    MembersFit-over s.members 0 c.args.values.now over (omega (arith, over))

pub returns-then-is_empty-clause-ends : goal.returns-then-is_empty-clause-ends
returns-then-is_empty-clause-ends c = sym (empty_struct_end c.args.s.now c.args.at (data_of c.args.values.now) (c.is_empty.ensures.0 c.if-is_empty.true))

pub returns-then-is_empty-clause-lies : goal.returns-then-is_empty-clause-lies
returns-then-is_empty-clause-lies c =
    let s = c.args.s.now in
    let none : s.members ≡ [] = c.is_empty.ensures.0 c.if-is_empty.true in
    let over : length s.members ≤ 0 = omega (arith, ap length none) in
    empty_struct-lies c.args.order (bit_of c.args.order c.args.bytes.now) s c.args.at (data_of c.args.values.now) none
    (MembersFit-over s.members 0 c.args.values.now over (omega (arith, over)))

pub returns-then-is_empty-clause-others : goal.returns-then-is_empty-clause-others
returns-then-is_empty-clause-others c = SameOutside-none (bit_of c.args.order c.args.bytes.now) c.args.at c.args.at

-- ---- with members

not_when_false : (b : Bool) (P : Type 0) → b ≡ false → (P → b ≡ true) → P → ⊥
not_when_false b P is_false is_true holds = false≢true (sym is_false ∙ is_true holds)

struct_drafted : (o : ByteOrder) (s : StructType) (vs : List Datum) (at start : ℕ) (result : Option ℕ) (old between new : List ℕ) → (s.members ≡ [] → ⊥) →
    start ≡ up at (struct_align s) → Writes o (λ b pad. pad at start) at start old between → length between ≡ length old →
    Drafts o (MembersFit s.members vs) (members_end s.members start vs) (λ b pad. MembersLieAnyhow o b pad s.members start vs) start result between new →
    Drafts o (Fits s vs) (struct_end s at vs) (λ b pad. StructLies o b pad s at vs) at result old new
struct_drafted o s vs at start result old between new some starts padding same x =
    Drafts-then _ _ _ _ (Fits s vs) (struct_end s at vs) (λ b pad. StructLies o b pad s at vs) result padding same x
    (λ fit. fit)
    (λ fit. ap (λ (q : ℕ). members_end s.members q vs) starts ∙ sym (full_struct_end s at vs some))
    (λ fit b zeros lies. full_struct-lies o b (AreZero b) s at vs some
    (subst (λ (q : ℕ). AreZero b at q) starts zeros) (subst (λ (q : ℕ). MembersLieAnyhow o b (AreZero b) s.members q vs) starts lies))

drafted : (c : After-draft_members) → Drafts c.args.order (Fits c.args.s.now (data_of c.args.values.now)) (struct_end c.args.s.now c.args.at (data_of c.args.values.now))
    (λ b pad. StructLies c.args.order b pad c.args.s.now c.args.at (data_of c.args.values.now)) c.args.at c.draft_members.result c.args.bytes.now c.draft_members.new.bytes
drafted c =
    let o = c.args.order in
    let s = c.args.s.now in
    let at = c.args.at in
    let start = c.in-Some.start in
    let old = c.args.bytes.now in
    let between = c.draft_padding.new.bytes in
    let zeros = c.in-Some.ensures in
    let starts : start ≡ up at (struct_align s) = zeros.ends ∙ ap (up at) c.requires.align in
    let padding : Writes o (λ b pad. pad at start) at start old between =
    subst (λ (q : ℕ). Writes o (λ b pad. pad at q) at start old between) (sym zeros.ends) zeros.writes in
    let some = not_when_false c.is_empty.result (s.members ≡ []) c.if-is_empty.false c.is_empty.ensures.1 in
    struct_drafted o s (data_of c.args.values.now) at start c.draft_members.result old between c.draft_members.new.bytes some starts padding
    (omega (arith, c.draft_padding.auto.bytes)) c.draft_members.ensures

pub returns-in-Some-clause-ends : goal.returns-in-Some-clause-ends
returns-in-Some-clause-ends c = drafts_end _ _ _ _ _ _ _ c.draft_members.result (drafted (goal.at.returns-in-Some-clause-ends c).After-draft_members)

pub returns-in-Some-clause-lies : goal.returns-in-Some-clause-lies
returns-in-Some-clause-lies c = drafts_lie _ _ _ _ _ _ _ c.draft_members.result (drafted (goal.at.returns-in-Some-clause-lies c).After-draft_members)

pub returns-in-Some-clause-others : goal.returns-in-Some-clause-others
returns-in-Some-clause-others c = drafts_others _ _ _ _ _ _ _ c.draft_members.result (drafted (goal.at.returns-in-Some-clause-others c).After-draft_members)

pub returns-in-Some-clause-below : goal.returns-in-Some-clause-below
returns-in-Some-clause-below c = drafts_below _ _ _ _ _ _ _ c.draft_members.result (drafted (goal.at.returns-in-Some-clause-below c).After-draft_members)
