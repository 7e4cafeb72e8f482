-- The flaws of a few configurations by the table, each at the path that is printed; and configurations that have no flaw, pass no limit and
-- say something, of which a small one is allowed.
use Rattle.std.proofs.Common.{◌≡◌, List, [], ◌∷◌, true, Some, None, inl, inr, refl, arith, ◌<◌, ℕ, length, IsSome, subst, codes}
use Rattle.conf_laws.proofs.Traces.{draft_allowed}
use Rattle.conf_laws.proofs.Readings.{some_none}
use Rattle.conf_laws.proofs.Words.{MAX_TEXT_BYTES, Parts, KeepsStreamRules, KeepsRules, IsNoClassAt, HasNotItsRows, IsFlawOf, PassesBy, PassesLimitOf, IsNoDefault, IsNoMemberName, class_words, admits_class, is_class, rows_of, entries_of, content_under, presence_under, words_of, At, OneFlag, class_of, class_rule, orders_there, all_there, resolved_content, is_left_out, configuration_flaws, other_class, any_object, form_of, itself_of, inside, behind, leaf_of, whole_from, fits, place_fits, arrays_fit, is_outermost, ranges_fit, key_fits, configuration_limits, power_fits, key_of, key_by, free_of, names_beside, is_dynamic, natural_in, is_position, own_place, place_of_properties, item_content, shape_of, Flaw, PathPart as Place, key, index, here, Ascends, whole_of, WrongKind, Missing, Unknown, OutOfRange, NameClash, Limit, FaultKind, IsNoObject, name_of, is_reserved, plain_name_of, as_natural, Data, null, boolean, number, unsigned, string, array, object, no_items, item, Members, no_members, member, All-nil, same_Some, alignment, clock_types, environment, event_type, event_types, feature, identifier, size, mapped, timestamp, header, context, event_header, base_of, size_of, integer, natural, word, list, object_at, properties, member_type, behind_done as behind_member, stream_type, stream_types, asks_number, draft_of_type, draft_of_trace, draft_of_root, draft_of, Draft, IsConfig, is_name as is_identifier, integer_made, integer_align, structure, structure_of, listed, extra_members, made, align_of, of_class}
use Rattle.conf_laws.proofs.Words.places
use Rattle.conf_laws.proofs.Words.contents

abbrev flaw_at : List Place → FaultKind → Flaw
flaw_at path kind = record { path = path; kind = kind }

-- a configuration with `tracer`: unknown, at `tracer`
a_tracer : IsFlawOf [] (At places.Root) (object (member (codes "tracer") null no_members)) (flaw_at (key (codes "tracer") ∷ []) Unknown)
unfolding place_of_properties own_place is_position content_under presence_under entries_of rows_of
a_tracer = IsFlawOf.wrong_rows (HasNotItsRows.unknown (codes "tracer") null (inl (refl, refl)) (λ content is. some_none None content is.0 refl))

-- a trace that is a number: of another kind, at `trace`
no_trace : IsFlawOf [] (At places.Root) (object (member (codes "trace") (number (unsigned 1)) no_members)) (flaw_at (key (codes "trace") ∷ []) WrongKind)
unfolding place_of_properties own_place is_position content_under presence_under entries_of rows_of
no_trace = IsFlawOf.in_property no_members (codes "trace") (number (unsigned 1)) (At places.Trace) (here WrongKind) (no_members, Parts.at_the_first) (refl, λ inherits. let same = inherits.0 in cc) (λ left. let same = left.0 in cc) (IsFlawOf.wrong_value (IsNoObject.no_object refl))

-- two data stream types that say that they are the default: the second is out of range, at its `$is-default`
abbrev the_default : Data
the_default = object (member (codes "$is-default") (boolean true) no_members)

two_defaults : IsFlawOf [] (At places.StreamTypes) (object (member (codes "a") the_default (member (codes "b") the_default no_members))) (flaw_at (key (codes "b") ∷ key (codes "$is-default") ∷ []) OutOfRange)
unfolding place_of_properties own_place is_position content_under presence_under entries_of rows_of
two_defaults =
    IsFlawOf.in_property (member (codes "a") the_default no_members) (codes "b") the_default (At places.StreamType) (flaw_at (key (codes "$is-default") ∷ []) OutOfRange)
    (no_members, Parts.behind no_members (codes "a") the_default _ Parts.at_the_first) (refl, λ inherits. let same = inherits.0 in cc) (λ left. let same = left.0 in cc)
    (IsFlawOf.in_property no_members (codes "$is-default") (boolean true) OneFlag (here OutOfRange) (no_members, Parts.at_the_first) (refl, λ inherits. let same = inherits.0 in cc) (λ left. let same = left.0 in cc)
    (IsFlawOf.wrong_value (IsNoDefault.a_second refl (inl (codes "a", the_default, inl (refl, refl), (_, refl, refl))))))

-- two members of one name: the second clashes, at its name
abbrev a_member : Data
a_member = object (member (codes "m") (object no_members) no_members)

two_members : IsFlawOf [] (At places.Members) (array (item a_member (item a_member no_items))) (flaw_at (index 1 ∷ key (codes "m") ∷ []) NameClash)
unfolding place_of_properties own_place is_position item_content entries_of
two_members =
    IsFlawOf.in_item 1 a_member (flaw_at (key (codes "m") ∷ []) NameClash) refl
    (IsFlawOf.wrong_name (codes "m") (object no_members) (here NameClash) (inl (refl, refl)) (_, refl, IsNoMemberName.name_clash (inr (0, a_member, omega arith, refl, (_, codes "m", object no_members, refl, inl (refl, refl), inl refl)))))

-- a payload that is a string: a class that cannot stand there, at the payload
no_payload : IsFlawOf [] (At places.StructureType) (object (member (codes "class") (string (codes "str")) no_members)) (flaw_at [] WrongKind)
unfolding is_position class_of class_words admits_class
no_payload = IsFlawOf.wrong_class (IsNoClassAt.another_class places.Str refl (λ same. cc) refl refl)

-- a description of a clock type that is too long: a limit, at `description`
long_description : (text : List ℕ) → MAX_TEXT_BYTES < length text → PassesLimitOf (At places.ClockType) (object (member (codes "description") (string text) no_members)) (flaw_at (key (codes "description") ∷ []) Limit)
unfolding place_of_properties own_place is_position content_under entries_of rows_of
long_description text long = PassesLimitOf.in_property (codes "description") (string text) _ (here Limit) (inl (refl, refl)) refl (PassesLimitOf.too_large (text, refl, long))

-- an alignment of 8,192: a limit, at `alignment`
abbrev an_integer : Members
an_integer = member (codes "alignment") (number (unsigned 8192)) (member (codes "class") (string (codes "uint")) no_members)

large_alignment : PassesLimitOf (At places.MemberType) (object an_integer) (flaw_at (key (codes "alignment") ∷ []) Limit)
unfolding place_of_properties is_position class_of class_words content_under entries_of rows_of as_natural
large_alignment = PassesLimitOf.in_property (codes "alignment") (number (unsigned 8192)) _ (here Limit) (inl (refl, refl)) refl (PassesLimitOf.too_large (8192, refl, omega arith))

-- an alignment of 3 is no power of two, but no limit is passed
three_is_within : ¬ PassesBy (contents.PowerOfTwo 4096) (number (unsigned 3))
unfolding as_natural
three_is_within (n, is, more) = omega (arith, same_Some 3 n is, more)

-- the walk tells of the same, and of nothing else but the trace that is missing
a_tracer_told : configuration_flaws (object (member (codes "tracer") null no_members)) ≡ flaw_at (key (codes "trace") ∷ []) Missing ∷ flaw_at (key (codes "tracer") ∷ []) Unknown ∷ []
unfolding itself_of form_of any_object class_rule is_position all_there orders_there place_of_properties own_place resolved_content is_left_out content_under presence_under entries_of rows_of shape_of inside behind
a_tracer_told = refl

abbrev trace_type : Members
trace_type = member (codes "trace-byte-order") (string (codes "le")) no_members

abbrev pub small : Data
small = object (member (codes "trace") (object (member (codes "type") (object trace_type) no_members)) no_members)

no_flaw : configuration_flaws small ≡ []
unfolding content_under presence_under entries_of rows_of words_of class_rule all_there orders_there resolved_content is_left_out itself_of form_of any_object inside behind leaf_of key_of place_of_properties is_position own_place shape_of
no_flaw = refl

no_limit : configuration_limits small ≡ []
unfolding content_under presence_under entries_of rows_of fits place_fits arrays_fit is_outermost ranges_fit key_fits place_of_properties is_position own_place
no_limit = refl

in_order : Ascends small
in_order = ((tt, tt), (((tt, tt), (((tt, tt), (tt, tt)), tt)), tt))

keeps_rules : (draft : Draft) → draft_of None small ≡ Some draft → KeepsRules draft.config
unfolding draft_of_root draft_of_trace draft_of_type object_at properties word header feature identifier stream_types environment clock_types asks_number presence_under rows_of
keeps_rules draft e =
    subst (λ (x : Draft). KeepsRules x.config) (same_Some _ draft e)
    (record { uuid_is_there = λ there. absurd cc; stream_id_holds = omega arith; streams = All-nil (KeepsStreamRules []) })

-- what the small one says is allowed
pub small_allowed : (draft : Draft) → draft_of None small ≡ Some draft → IsConfig draft.config
small_allowed draft e = draft_allowed None small draft in_order no_flaw no_limit e (keeps_rules draft e)

-- ---- one of each part

abbrev payload : Data
payload = object (member (codes "class") (string (codes "structure")) (member (codes "members") (array (item (object (member (codes "speed")
    (object (member (codes "field-type") (object (member (codes "class") (string (codes "uint")) (member (codes "size") (number (unsigned 16)) no_members))) no_members)) no_members)) no_items)) no_members))

abbrev stream : Data
stream = object (member (codes "$default-clock-type-name") (string (codes "monotonic")) (member (codes "event-record-types")
    (object (member (codes "ride") (object (member (codes "payload-field-type") payload no_members)) no_members)) no_members))

abbrev pub larger : Data
larger = object (member (codes "trace") (object (member (codes "type") (object
    (member (codes "clock-types") (object (member (codes "monotonic") (object no_members) no_members))
    (member (codes "data-stream-types") (object (member (codes "bikes") stream no_members))
    (member (codes "trace-byte-order") (string (codes "le")) no_members)))) no_members)) no_members)

larger_no_flaw : configuration_flaws larger ≡ []
unfolding content_under presence_under entries_of rows_of words_of class_words class_rule admits_class is_class other_class all_there orders_there resolved_content is_left_out itself_of form_of any_object inside behind leaf_of whole_from whole_of key_of key_by free_of names_beside class_of is_dynamic natural_in
    as_natural name_of is_reserved plain_name_of is_identifier item_content place_of_properties is_position own_place shape_of
larger_no_flaw = refl

larger_no_limit : configuration_limits larger ≡ []
unfolding content_under presence_under entries_of rows_of class_words fits place_fits arrays_fit is_outermost ranges_fit key_fits power_fits place_of_properties is_position own_place item_content class_of natural_in as_natural
larger_no_limit = refl

larger_says : IsSome (draft_of None larger)
unfolding draft_of_root draft_of_trace draft_of_type object_at properties word list natural as_natural header feature identifier stream_types stream_type context size timestamp mapped event_header event_types event_type
    structure structure_of listed extra_members made align_of behind_member member_type class_of of_class class_words integer integer_made size_of integer_align alignment base_of environment clock_types asks_number presence_under rows_of
larger_says = refl

-- an alignment that no field can have
large_left_out : integer_align (member (codes "alignment") (number (unsigned 8192)) (member (codes "size") (number (unsigned 4)) no_members)) ≡ 1
unfolding integer_align alignment size_of natural as_natural
large_left_out = refl
