-- What was expected where a fault stands, by the fault's kind: what is told of it, and behind that a hint or none. Kind and path are the fault's own,
-- and what is told of a value is what the table says where the way along that path ends.
use Rattle.std.specs.Prelude.{◌≡◌, ◌⊎◌, ℕ, ◌+◌, ◌-◌, ◌/◌, ◌<◌, ◌≤◌, min, All, List, [], ◌++◌, reverse, ◌==◌, Option, None, Some, MatchOption, IfSome, Contains, ℤ, Bool, true, false, not, ◌&&◌, nat_le, nat_lt, unwrap_or, length, take, map, slice_get, if◌then◌else◌, codes, string_bytes, decimal}
use Rattle.std.specs.Option.{option_and_then}
use Rattle.std.specs.List.{list_any, position_from, zip}
use Rattle.std.specs.Fmt.{signed_decimal}
use Rattle.std.specs.Str.{bytes_eq}
use Rattle.conf_tree.specs.declared.step.Step.{Step}
use Rattle.conf_tree.specs.declared.step.Step.TheVariants.{Key}
use Rattle.conf_tree.specs.declared.fault.ConfFault.{ConfFault}
use Rattle.conf_tree.specs.declared.fault_kind.FaultKind.{FaultKind}
use Rattle.conf_tree.specs.declared.fault_kind.FaultKind.TheVariants as kinds
use Rattle.conf_tree.specs.declared.limits.TheConstants.{MAX_VALUES}
use Rattle.ctf_types.specs.declared.limits.TheConstants.{MAX_ARRAYS, MAX_CONFIG_RANGES, MAX_ELEMENTS, MAX_LABEL_BYTES, MAX_NAME_BYTES}
use Rattle.conf_table.specs.declared.place.Place.{Place}
use Rattle.conf_table.specs.declared.place.Place.TheVariants as places
use Rattle.conf_table.specs.declared.row.Content.{Content}
use Rattle.conf_table.specs.declared.row.Content.TheVariants as contents
use Rattle.conf_table.specs.Table.{entries_of, rows_of}
use Rattle.conf_table.specs.Words.{words_of}
use Rattle.serde_json.specs.Data.{Data}
use Rattle.serde_json.specs.Find.{as_str}
use Rattle.conf_fault.specs.declared.expected.TheConstants.{MOST_NAMES}
use Rattle.conf_fault.specs.Expected.{classes_at, expected_words, listed}
use Rattle.conf_fault.specs.Found.{Leads, PathEnd, StandsIn, outermost}
use Rattle.conf_fault.specs.Names.{IsRead, known_names}
use Rattle.conf_fault.specs.Shown.{cut}

-- the name of the last step; empty where that is an index, or where there is no step
abbrev pub step_name : Option Step → List ℕ
step_name (Some (Key name)) = string_bytes name
step_name _ = []

abbrev pub end_name : List Step → List ℕ
end_name path = step_name (slice_get path (length path - 1))

-- the name of the alias of field types into whose value a path leads; empty where it leads into none
abbrev pub own_alias : List Step → List ℕ
own_alias path = if bytes_eq (step_name (slice_get path 2)) (codes "$field-type-aliases") then step_name (slice_get path 3) else []

-- ---- the kinds of which the property's name, or what the table says of it, tells all

-- a value of this content can be a whole number
unfoldable pub can_be_whole : Option Content → Bool
can_be_whole (Some (contents.Whole low high)) = true
can_be_whole (Some (contents.PowerOfTwo high)) = true
can_be_whole (Some (contents.Level high)) = true
can_be_whole (Some (contents.WholeOrText low high most_bytes)) = true
can_be_whole _ = false

-- a control character but newline and tab
abbrev pub is_control : ℕ → Bool
is_control b = nat_lt b 32 && (not (b == 10) && not (b == 9))

-- of a value out of range at a place, or of a label whose name is no text
unfoldable pub range_text : List ℕ → Option Content → Option (List ℕ)
range_text name (Some (contents.At places.Mappings)) = Some (codes "one label at least")
range_text name (Some (contents.At places.Ranges)) = Some (if list_any is_control name then codes "a label without control characters but newline and tab" else codes "one range at least")
range_text name (Some (contents.At places.Range)) = Some (codes "a range inside the integer's numbers, the lowest first")
range_text name (Some (contents.At places.DynamicElementType)) = Some (codes "an element with bits")
range_text name _ = None

-- the text of a kind, by the name of the last step
unfoldable pub named_text : FaultKind → List ℕ → Option Content → Option (List ℕ)
named_text kinds.Missing name content = if bytes_eq name (codes "trace-byte-order") then Some (codes "just one of `trace-byte-order` and `native-byte-order`") else None
named_text kinds.NoClock name content = if bytes_eq name (codes "$default-clock-type-name") then None
    else Some (codes "a `$default-clock-type-name` in this data stream type, or the feature off")
named_text kinds.TimestampSize name content = Some (if bytes_eq name (codes "timestamp-field-type")
    then codes "a field of 8 to 64 bits, fewer than 64 only beside the packet's beginning timestamp, or the feature off"
    else codes "a field of 64 bits, or the feature off")
named_text kinds.NoUuid name content = Some (if bytes_eq name (codes "uuid-field-type")
    then codes "a UUID of the trace type, with `auto` one from the caller (--uuid of `metadata` and `trace`), or the feature off"
    else codes "a UUID of the trace type, or with `auto` one from the caller (--uuid of `metadata` and `trace`)")
named_text kinds.OutOfRange name content = if bytes_eq name (codes "$is-default") then Some (codes "true at one data stream type at most") else range_text name content
named_text kinds.NameClash name content = Some (codes "a name that nothing else in this structure has")
named_text kinds.NotWhole name content = if can_be_whole content then None else Some (codes "a whole number of 64 bits, without fraction or exponent")
named_text _ name content = None

-- ---- the others

-- the first place at which two words differ, as far as both go
abbrev pub differ : ℕ × ℕ → Bool
differ (b, c) = not (b == c)

abbrev pub first_difference : List ℕ → List ℕ → Option ℕ
first_difference word other = position_from differ 0 (zip word other)

-- how many bytes two words have in common before it
abbrev pub common : List ℕ → List ℕ → ℕ
common word other = unwrap_or (first_difference word other) (min (length word) (length other))

-- how much of two words is alike: the bytes that they have in common at their beginnings and at their ends, none counted twice
abbrev pub likeness : List ℕ → List ℕ → ℕ
likeness word other = min (common word other + common (reverse word) (reverse other)) (min (length word) (length other))

-- how many bytes longer or shorter one word is than another
abbrev pub gap : List ℕ → List ℕ → ℕ
gap word other = (length word - length other) + (length other - length word)

-- no more of a text is alike in a word than so many bytes, and where so many are, the word is at least so much longer or shorter than the text
abbrev pub IsNoNearer : List ℕ → ℕ → ℕ → List ℕ → Type 0
IsNoNearer text most least word = (likeness text word < most) ⊎ ((likeness text word ≡ most) × (least ≤ gap text word))

-- of some words the one that is nearest to a text: of the text more bytes than the floor are alike in it, no word is more like the text, and of those
-- that are as much like it none has a length that is nearer; or none, where of no word that much is alike
abbrev pub IsNearestOf : ℕ → List ℕ → List (List ℕ) → Option (List ℕ) → Type 0
IsNearestOf floor text words None = All (λ w. likeness text w ≤ floor) words
IsNearestOf floor text words (Some word) = Contains words word × (floor < likeness text word) × All (IsNoNearer text (likeness text word) (gap text word)) words

abbrev pub nearest_words : Option (List ℕ) → List ℕ
nearest_words None = []
nearest_words (Some word) = codes "; the nearest is `" ++ cut word ++ codes "`"

-- the nearest of some words to a text, in which more than half of it is alike, or none
abbrev pub IsNearest : List ℕ → List (List ℕ) → List ℕ → Type 0
IsNearest text words said = (word : Option (List ℕ)) × IsNearestOf (length text / 2) text words word × (said ≡ nearest_words word)

-- the same, where a text stands
abbrev pub IsNearestIf : Option (List ℕ) → List (List ℕ) → List ℕ → Type 0
IsNearestIf None words said = said ≡ []
IsNearestIf (Some text) words said = IsNearest text words said

-- all of some words, and the nearest of them to what stands there, or none
abbrev pub IsOneOf : Option (List ℕ) → List (List ℕ) → List ℕ → Type 0
IsOneOf text words said = (nearest : List ℕ) × IsNearestIf text words nearest × (said ≡ listed words ++ nearest)

abbrev pub real_hint : Option (List ℕ) → List ℕ
real_hint None = []
real_hint (Some text) = if bytes_eq text (codes "real") then codes "; there are no real numbers" else []

-- the text that stands where the way ends: what the value there is in the tree, or where the value is inherited one of the words in quotes of the text
abbrev pub IsTextThere : List ℕ → Option Data → Option (List ℕ) → Type 0
IsTextThere text value word = MatchOption value (IfSome word (StandsIn text)) (λ there. word ≡ as_str there)

-- the same of a value out of range, which may be a real number
abbrev pub IsChoice : List ℕ → Option Data → List (List ℕ) → List ℕ → Type 0
IsChoice text value words said = (word : Option (List ℕ)) × (told : List ℕ) × IsTextThere text value word × IsOneOf word words told × (said ≡ told ++ real_hint word)

-- of a value out of range: one of the words of its choice, or of the classes at its position, or what the table expects of it
unfoldable pub IsInRange : List ℕ → Option Data → Option Content → Place → List ℕ → Type 0
IsInRange text value (Some (contents.Word choice)) position said = IsChoice text value (words_of choice) said
IsInRange text value (Some contents.Class) position said = IsChoice text value (classes_at position) said
IsInRange text value content position said = said ≡ expected_words content position

-- the first of some names, and how many more there are than are listed
abbrev pub few_listed : List (List ℕ) → List ℕ
few_listed names = if nat_le (length names) MOST_NAMES then listed names else listed (take MOST_NAMES names) ++ (codes " and " ++ decimal (length names - MOST_NAMES) ++ codes " more")

-- the name of a thing, with those that the map of the trace type has but the one in whose value it would stand, and the nearest of them or none
abbrev pub IsKnownName : List ℕ → Option Data → List ℕ → List ℕ → List ℕ → List ℕ → Type 0
IsKnownName text value thing map own said = (tree : Option Data) × (word : Option (List ℕ)) × (nearest : List ℕ) × IsRead text tree × IsTextThere text value word
    × IsNearestIf word (known_names map own tree) nearest
    × (said ≡ codes "the name of " ++ (thing ++ codes " (there are ") ++ few_listed (known_names map own tree) ++ codes ")" ++ nearest)

-- the map in which aliases stand: those of log levels, or of field types
abbrev pub alias_map : Option Content → List ℕ
alias_map (Some (contents.Level high)) = codes "$log-level-aliases"
alias_map _ = codes "$field-type-aliases"

-- an alias, in the value of one of field types another
unfoldable pub alias_thing : List ℕ → Option Content → List ℕ
alias_thing own (Some (contents.Level high)) = codes "a log level alias"
alias_thing own _ = if length own == 0 then codes "a field type alias" else codes "another field type alias"

-- the types that a feature of this name tells apart by their numbers
abbrev pub numbered_types : List ℕ → List ℕ
numbered_types feature = if bytes_eq feature (codes "type-id-field-type") then codes "event record types" else codes "data stream types"

-- room for the largest number that a feature of this name has to hold: that of the last of its types; how many they are is not said
abbrev pub IsLargestNumber : List ℕ → List ℕ → Type 0
IsLargestNumber feature said = (said ≡ codes "room for the largest number that it must hold")
    ⊎ ((count : ℕ) × (said ≡ codes "room for the number " ++ (decimal (count - 1) ++ (codes ", since " ++ (decimal count ++ (codes " " ++ (numbered_types feature ++ (codes " have the numbers 0 to " ++ decimal (count - 1)))))))))

-- the feature on, where it is off, and that room
abbrev pub IsRoom : List ℕ → List ℕ → Type 0
IsRoom feature said = (off : Bool) × (room : List ℕ) × IsLargestNumber feature room × (said ≡ (if off then codes "true, or a field with " else []) ++ room)

-- what a field type holds with what it inherits
abbrev pub value_words : List ℕ
value_words = decimal MAX_VALUES ++ codes " values with what is inherited"

-- the same where no array is around it, so that its elements are counted
abbrev pub array_words : List ℕ
array_words = codes "at most " ++ (decimal MAX_ARRAYS ++ (codes " arrays in one another, " ++ (decimal MAX_ELEMENTS ++ (codes " elements, and " ++ value_words))))

-- how much a value at a place can hold where the table sets no limit to its entries
unfoldable pub size_words : Place → List ℕ
size_words places.Mappings = codes "at most " ++ (decimal MAX_CONFIG_RANGES ++ codes " ranges")
size_words places.Ranges = codes "a label of at most " ++ (decimal MAX_LABEL_BYTES ++ codes " bytes")
size_words places.MemberType = array_words
size_words places.DynamicElementType = array_words
size_words places.IdentifierFeature = array_words
size_words _ = codes "at most " ++ value_words

-- how many entries there can be at a place, or how much it can hold
abbrev pub most_words : Place → Option ℕ → List ℕ
most_words place (Some most) = decimal most ++ codes " entries at most"
most_words place None = size_words place

unfoldable pub limit_words : Option Content → Place → List ℕ
limit_words (Some (contents.At place)) position = most_words place (option_and_then (λ e. e.most) (entries_of place))
limit_words content position = expected_words content position

-- what a name has to be
abbrev pub identifier_words : List ℕ
identifier_words = codes "a letter or `_`, then letters, digits or `_`, " ++ (decimal MAX_NAME_BYTES ++ codes " bytes at most")

-- the names of an object's rows
abbrev pub names_of : Place → List (List ℕ)
names_of holder = map (λ r. r.name) (rows_of holder)

-- what is told of a kind at the end of a path, where the way over a text ends
unfoldable pub IsToldOfKind : List ℕ → FaultKind → List Step → PathEnd → List ℕ → Type 0
IsToldOfKind text kinds.Unknown path end said = IsOneOf (Some (end_name path)) (names_of end.holder) said
IsToldOfKind text kinds.OutOfRange path end said = IsInRange text end.value end.content end.position said
IsToldOfKind text kinds.BadName path end said = said ≡ identifier_words
IsToldOfKind text kinds.NoSuchAlias path end said = IsKnownName text end.value (alias_thing (own_alias path) end.content) (alias_map end.content) (own_alias path) said
IsToldOfKind text kinds.NoClock path end said = IsKnownName text end.value (codes "a clock type") (codes "clock-types") [] said
IsToldOfKind text kinds.FieldTooSmall path end said = IsRoom (end_name path) said
IsToldOfKind text kinds.Limit path end said = said ≡ limit_words end.content end.position
IsToldOfKind text _ path end said = said ≡ expected_words end.content end.position

-- ---- a hint

abbrev pub is_hyphen : ℕ → Bool
is_hyphen b = b == 45

-- a property that there is
abbrev pub there_words : List ℕ → List ℕ
there_words name = codes "; there is `" ++ cut name ++ codes "`"

-- a property with a name that is like another, of which at least half is alike in it; which names the object has that it cannot have is not said
abbrev pub IsLikeHint : List ℕ → List ℕ → Type 0
IsLikeHint name hint = (names : List (List ℕ)) × (other : List ℕ) × IsNearestOf ((length name - 1) / 2) name names (Some other) × (hint ≡ there_words other)

-- of a member that has the properties of a field type itself
abbrev pub IsMemberHint : List ℕ → List ℕ → Type 0
IsMemberHint name hint = (bytes_eq name (codes "field-type") ≡ true) × (hint ≡ codes "; a member's field type stands under `field-type`")

-- of a class, perhaps: a property with a name like `$inherit`, of which more than half is alike in it; which names the object has is not said
abbrev pub IsInheritHint : List ℕ → List ℕ → Type 0
IsInheritHint name hint = (hint ≡ []) ⊎ ((names : List (List ℕ)) × (other : List ℕ) × (bytes_eq name (codes "class") ≡ true)
    × IsNearestOf 4 (codes "$inherit") names (Some other) × (hint ≡ there_words other ++ codes ", but a base stands under `$inherit`"))

-- where a configuration includes files
abbrev pub include_words : List ℕ
include_words = codes "; tools/yaml_to_json puts in what `$include` names"

-- of a property that is missing, perhaps: where it would be outermost, where a file is included that may have it, where a member is its own field type,
-- and where a property has a name like it, or like that of the base from which a class may come
abbrev pub IsMissingHint : List Step → List ℕ → List ℕ → Type 0
IsMissingHint path name hint = (hint ≡ []) ⊎ (((length path ≡ 1) × (hint ≡ codes "; this looks like a configuration of barectf 2, and ctftrace reads those of barectf 3"))
    ⊎ ((hint ≡ include_words) ⊎ (IsMemberHint name hint ⊎ (IsLikeHint name hint ⊎ IsInheritHint name hint))))

-- of a number that is no whole one, perhaps: how it would be written
abbrev pub IsWholeHint : List ℕ → Type 0
IsWholeHint hint = (hint ≡ []) ⊎ ((hint ≡ codes "; a whole number is written without fraction or exponent") ⊎ (hint ≡ codes "; 0 is written without a sign"))

-- of an alias that is not known, perhaps: that a feature which is on or off is none
abbrev pub IsQuoteHint : List ℕ → Type 0
IsQuoteHint hint = (hint ≡ []) ⊎ (hint ≡ codes "; `true` and `false` stand without quotes")

-- of a name that is taken, perhaps: by a member that a packet context has itself, or for the length of a dynamic array
abbrev pub IsClashHint : List ℕ → List ℕ → Type 0
IsClashHint name hint = (hint ≡ [])
    ⊎ ((hint ≡ codes "; a packet context has `packet_size`, `content_size`, `timestamp_begin`, `timestamp_end`, `events_discarded` and `packet_seq_num` itself, with its features on or off")
    ⊎ ((hint ≡ codes "; a dynamic array `x` takes `__x_len` too")
    ⊎ (hint ≡ codes "; a dynamic array `" ++ cut name ++ codes "` takes `" ++ cut (codes "__" ++ name ++ codes "_len") ++ codes "` too")))

-- of a name that is taken: which entry of its list has it, which is not said, or whose it is
abbrev pub IsNameHint : List ℕ → List ℕ → Type 0
IsNameHint name hint = ((index : ℕ) × (hint ≡ codes "; entry " ++ (decimal index ++ codes " has it"))) ⊎ IsClashHint name hint

-- of a range of an enumeration, perhaps: from which number to which its integer goes; what the enumeration's size and class are is not said
abbrev pub IsRangeHint : List ℕ → Type 0
IsRangeHint hint = (hint ≡ []) ⊎ ((low : ℤ) × (high : ℤ) × (hint ≡ codes "; the integer holds " ++ (signed_decimal low ++ (codes " to " ++ signed_decimal high))))

-- a hint, by the kind and the name of the last step
unfoldable pub IsHint : FaultKind → List Step → List ℕ → Type 0
IsHint kinds.Missing path hint = IsMissingHint path (end_name path) hint
IsHint kinds.NameClash path hint = IsNameHint (end_name path) hint
IsHint kinds.OutOfRange path hint = IsRangeHint hint
IsHint kinds.NotWhole path hint = IsWholeHint hint
IsHint kinds.NoSuchAlias path hint = IsQuoteHint hint
IsHint kinds.Unknown path hint = hint ≡ (if bytes_eq (end_name path) (codes "$include") then include_words else [])
IsHint kinds.BadName path hint = hint ≡ (if list_any is_hyphen (end_name path) then codes "; a hyphen stands in no name, `_` does" else [])
IsHint _ path hint = hint ≡ []

-- ---- the whole

-- what is told of a fault: the text of its kind and its property's name, or what its kind tells where the way ends
abbrev pub IsTold : List ℕ → ConfFault → PathEnd → List ℕ → Type 0
IsTold text fault end said = MatchOption (named_text fault.kind (end_name fault.path) end.content) (IsToldOfKind text fault.kind fault.path end said) (λ words. said ≡ words)

-- where the way along the fault's path ends, from the tree of the text on
abbrev pub IsEnd : List ℕ → ConfFault → PathEnd → Type 0
IsEnd text fault end = (tree : Option Data) × IsRead text tree × Leads text (outermost tree) fault.path end

abbrev pub IsToldAndHinted : List ℕ → ConfFault → List ℕ → Type 0
IsToldAndHinted text fault said = (end : PathEnd) × (told : List ℕ) × (hint : List ℕ) × IsEnd text fault end × IsTold text fault end told × IsHint fault.kind fault.path hint
    × (said ≡ told ++ hint)
