-- The words of trees, atoms, stops and types that the proofs speak of, and the lemmas that many of them take.
pub use Rattle.tsdl_meaning.specs.Words.{Adds, AddsAttribute, AddsBlock, AddsClock, AddsEvent, AddsFact, AddsName, AddsScope, AddsStream, AllByRecursion, AreBrackets, AreFlawless, AreNamed, AreNoted, AreRanges, Asked, AsksAlignment, Atom, Attribute, BTreeMap, BTreeSet, Block, BlockKind, Bracket, ByteOrder, ByteString, Chain, ClockType, ContainsKey, Denotes, Dyn, Ends, EndsFacts, Entries, Entry, Enum, EnvironmentEntry, Equal-is, Event, Global, HasBits, HasClock, HasEvent, HasLength, HasNames, HasNumbers, HasStream, HaveNumbers, HaveStreams, Holds, IfErr, IfOk, IfSizesMissed, Int, IsAttribute, IsBegun, IsBehindAlign, IsBehindBrace, IsBehindBrackets, IsBehindKind, IsBehindMembers, IsByteType, IsCount, IsEmpty, IsEnded, IsErrAnd, IsEvent, IsField, IsFlawlessBehind, IsFlawlessBlock, IsFlawlessScope, IsIdentity, IsInBracket, IsInBrackets, IsLargeAlignment, IsLeaf, IsLongLength, IsMagic, IsMappedTo, IsMember, IsMemberTooMany, IsMemberTwice, IsMetadata, IsMetadataName, IsMisfit, IsNameTwice, IsNamed, IsNest, IsNotedAttribute, IsOrphan, IsPartOfVersion, IsPassed, IsRange, IsRangeTooMany, IsSome, IsStream, IsStruct, IsTotalOrder, IsTwice, IsTypeBegun, IsUnfinished, IsUnsigned, IsUnsupported, IsWrong, Item, KeepsLimits, Kind, Known, LARGEST_ALIGN, Labelled, LacksBlocks, LacksSizes, LacksStream, Leaf, Ledger, MAX_ARRAYS, MAX_ELEMENTS, MAX_ENVIRONMENT, MAX_MEMBERS, MAX_RANGES, MeanEntries, MemberTree, MemberType, Name, NameLength, NamedFact, Number, NumbersRise, OthersStay, PassesLimit, Plain, SaysClock, SaysEvent, SaysMetadata, SaysStream, Scope, ScopeRule, StandsBehind, Static, Stop, StopsAmong, StopsIn, StopsUnless, StopsWhere, Str, Stream, String, StructType, Structure, Surveys, Value, Where, align_of, align_toks, align_with, alone, are_distinct, are_lengths, arrays_of, asked_in, asked_of, at_most_one, attr, attr_in, attr_names, attr_toks, attrs_in, attrs_toks, base_words, begun, block_and_semicolon, block_toks, braced, bracket_toks, by_number, bytes_eq, clock_asks, clock_name, clock_names, closing_toks, contains, contains_text, count_of, default_align, depth, dotted, each, elements, encoding_value, entries_of, entries_toks, entry_toks, environment_in, eq_by_cmp, eq_by_cmp_equiv, event_context, event_header, event_in, events_of, fact_meaning, fact_toks, field_of, fields_scope, first_of, first_texts, fits, fits_word, flat_map, get, group_of, has_in_context, has_member, has_number, has_only, has_parts, has_sizes, have_streams, high_of, high_toks, insert_numbered, int_attrs, int_toks, integer_asks, is_alignment, is_among, is_any_order, is_at, is_base, is_byte, is_digit, is_encoding, is_eq, is_fit, is_flag, is_flat, is_identity, is_label, is_letter, is_mapping, is_natural, is_negative, is_number, is_order, is_read, is_size, is_some, is_text, is_trace, is_unsigned, is_unsigned_of, is_utf8, is_uuid, is_whole, is_word, item_toks, items_toks, kind_of, kind_toks, known_of, label_toks, length_place, list_all, list_any, listed, lists_ties, mark, match_ordering, meant_by, member_names, member_toks, most, name_lists, name_of, name_toks, name_value, named_fact_meaning, named_fact_toks, named_rules, needed_by, names_in, names_of, nat_cmp, nat_cmp_is, nat_list_eq_equiv, natural, natural_value, next_entry_toks, no_two, number_or_zero, number_toks, of_clock, of_event, of_integer, of_string, one_word, only, option_and_then, option_map, option_map_or, option_or, optional, order_of, order_table, order_words, orders_in, own_asked, own_attrs, own_names, packet_context, packet_header, pair_cmp, passes, pointwise, position, position_or_len, prefix_len, provided, result_ok, rule_in, same_words, scope, scope_in, scope_meaning, scope_names, scope_toks, scopes_in, scopes_of, sign_toks, signed_of, slice_cmp, specific_context, stream_asks, stream_in, string_attrs, string_bytes, struct_toks, structure_of, suits, suits_header, suits_rule, text_toks, text_value, texts_of, texts_ties, trace_asks, trace_in, trace_order, tree_of, type_word, unused_keywords, unwrap_or, value_toks, whole_value, with_default, with_dot, with_events, with_front, with_group, with_own, word, word_of, word_value, words_of, written, ◌>>=◌}
unfoldable pub use Rattle.ctf_types.specs.Allowed.{AreMembers, elements_of}
unfoldable pub use Rattle.ctf_types.specs.Names.{is_identifier}
unfoldable pub use Rattle.std.specs.List.{IsDistinct}
unfoldable pub use Rattle.tsdl_grammar.specs.AttributeValues.{flag_value, uuid_value}
unfoldable pub use Rattle.tsdl_grammar.specs.BlockMeaning.{clock_meaning, environment_meaning, event_meaning, header_meaning, stream_meaning, trace_uuid}
unfoldable pub use Rattle.tsdl_grammar.specs.Denotes.{streams_meaning, text_meta}
unfoldable pub use Rattle.tsdl_grammar.specs.IntegerMeaning.{base_value, clock_value, int_meaning, order_value}
unfoldable pub use Rattle.tsdl_grammar.specs.MemberMeaning.{bracketed, entry_meaning, enum_meaning, kind_meaning, member_meaning, text_meaning}
unfoldable pub use Rattle.tsdl_grammar.specs.StructureMeaning.{members_meaning, struct_meaning, struct_type}
pub use Rattle.std.proofs.lemmas.List.{append-nil, length-map, map-append, map-id, reverse-append, reverse-reverse, take_all, take_more}
pub use Rattle.std.proofs.lemmas.Bool.{and_from, cases_Bool, cases_lt, cond_both, eq-eqb, eqb-true, false_from_ne_true, false≢true, le-leb, le-ltb, leb-true, lt-ltb, ltb-true, not-false, not-true, not_from_false, or_from, or_left, or_parts, or_right}
pub use Rattle.tsdl_grammar.proofs.Runs.{and_true}
pub use Rattle.std.proofs.lemmas.Slice.Eq.{bytes_eq-Decides}
pub use Rattle.std.proofs.lemmas.Result.{IfErr-weaker, IfOk-weaker}
pub use Rattle.std.proofs.Math.Bool.{and-false, or-false, or_assoc}
pub use Rattle.tsdl_flaw.proofs.Parts.{behind_item, behind_more, flat_next, stops_after, stops_item}
pub use Rattle.tsdl_grammar.proofs.Inversion.{bind_is, bind_some, by_number-rises, map_some, provided_some, some_same}
pub use Rattle.std.proofs.lemmas.Iterator.{YieldsList-from_slice, YieldsList-from_zip}
pub use Rattle.std.proofs.lemmas.Iterator.Search.{all_from_yields_List, any_from_yields_List, find_from_yields_List}
pub use Rattle.std.specs.Prelude.{codes, if◌then◌else◌, int_le, nat_le, nat_lt, neg_ℤ, ◌==◌}
