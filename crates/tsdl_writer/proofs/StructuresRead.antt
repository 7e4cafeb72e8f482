-- The structures of an allowed configuration's metadata are what their trees mean, and their members have the types that their names ask for.
use Rattle.tsdl_writer.proofs.TreeWords.{Where, arith, nat_tests, Config, IsConfigStruct, IsStreamType, IsStruct, StreamType, StructType, context_of, event_header_of, header_of, no_members_shown, shown_struct, struct_is_allowed, struct_with, struct_with-members, ◌∙◌, All, IntType, IsConfigMember, IsIdentity, IsMagic, IsUnsigned, List, Option, [], bytes_eq, codes, context_numbers, event_header_members, header_members, list_all, list_any, number_member, refl, shown_members, suits, suits_header, true, uuid_member, ℕ, ◌++◌, ◌≡◌}
use Rattle.tsdl_writer.proofs.{FieldMeanings.{Members, is_automatic, AreAutomatic}, StructureMeanings.Shows}
use Rattle.std.proofs.lemmas.{List.Folds.{list_all-append}, List.Sums.{list_all-from_AllPass}}

all_automatic : (ms : Members) → All (λ m. IsConfigMember m.1) ms → AreAutomatic ms
all_automatic ms h = list_all-from_AllPass (λ m. is_automatic m.1) ms (λ k d l. let one = h k d l in grind (arith, one))

number_automatic : (name : List ℕ) (o : Option IntType) → AreAutomatic (number_member name o)
number_automatic name o = grind arith

-- members of features are shown as they are
three_shown : (a b c : Option IntType) → let ms = number_member (codes "magic") a ++ uuid_member b ++ number_member (codes "stream_id") c in (ms ≡ shown_members 0 ms) × AreAutomatic ms
unfolding shown_members
three_shown a b c = grind arith

two_shown : (a b : Option IntType) → let ms = number_member (codes "id") a ++ number_member (codes "timestamp") b in (ms ≡ shown_members 0 ms) × AreAutomatic ms
unfolding shown_members
two_shown a b = grind arith

struct_with-align : (ms : Members) → (ms ≡ [] → ⊥) → (struct_with ms).min_align ≡ 8
struct_with-align ms h = grind (arith, h)

pub header_shows : (clocks : List (List ℕ)) (c : Config) → IsStruct clocks (header_of c) → Shows clocks (header_members c.header) 8 (header_of c)
unfolding header_of
header_shows clocks c h =
    let ms = header_members c.header in let shown = three_shown c.header.magic c.header.uuid c.header.stream_id in
    record { same = struct_with-members ms ∙ shown.0; aligned = struct_with-align ms; automatic = shown.1; allowed = h }

pub event_header_shows : (clocks : List (List ℕ)) (s : StreamType) → IsStruct clocks (event_header_of s) → Shows clocks (event_header_members s.event_header) 8 (event_header_of s)
unfolding event_header_of
event_header_shows clocks s h =
    let ms = event_header_members s.event_header in let shown = two_shown s.event_header.id s.event_header.timestamp in
    record { same = struct_with-members ms ∙ shown.0; aligned = struct_with-align ms; automatic = shown.1; allowed = h }

pub context_shows : (clocks : List (List ℕ)) (s : StreamType) → IsStreamType clocks s → IsStruct clocks (context_of s) → Shows clocks (context_numbers s.context ++ s.extras.members) 8 (context_of s)
unfolding context_of
context_shows clocks s t h = let ms = context_numbers s.context ++ s.extras.members in record {
  same = struct_with-members (shown_members 0 ms);
  aligned = λ some. struct_with-align (shown_members 0 ms) (λ e. some (no_members_shown 0 ms e));
  automatic = simp (list_all-append, number_automatic, all_automatic s.extras.members t.extras.types);
  allowed = h;
}

pub config_shows : (clocks : List (List ℕ)) (s : StructType) → IsConfigStruct s → Shows clocks s.members s.min_align (shown_struct s)
config_shows clocks s h = record { same = refl; aligned = λ e. refl; automatic = all_automatic s.members h.members.types; allowed = struct_is_allowed clocks s h }

pub header_suits : (ms : Members) → Where (codes "magic") IsMagic ms → Where (codes "uuid") IsIdentity ms → Where (codes "stream_id") IsUnsigned ms → list_all suits_header ms ≡ true
header_suits ms a b c = list_all-from_AllPass suits_header ms (λ k d l. let magic = a k d l in let uuid = b k d l in let stream = c k d l in grind (arith, nat_tests, magic, uuid, stream))

pub all_suit : (names : List (List ℕ)) (ms : Members) → All (λ m. list_any (bytes_eq m.0) names ≡ true → IsUnsigned m.1) ms → list_all (suits names) ms ≡ true
all_suit names ms h = list_all-from_AllPass (suits names) ms (λ k d l. let one = h k d l in grind (arith, one))
