-- The words that the clauses and proofs of this crate speak in, brought together from the files that define them.
pub use Rattle.ctf_types.specs.Allowed.{HasBits, IsByteType, IsCount, IsEvent, IsField, IsIdentity, IsLeaf, IsMagic, IsMappedTo, IsMember, IsMetadata, IsNest, IsRange, IsStream, IsStruct, IsUnsigned, Where, clock_names, elements_of}
pub use Rattle.ctf_types.specs.Chain.{ByteString, Chain, Labelled, Leaf}
pub use Rattle.ctf_types.specs.FieldTypes.{chain_of}
pub use Rattle.ctf_types.specs.Members.{names_in}
pub use Rattle.ctf_types.specs.Names.{IsMetadataName, is_digit, is_letter, unused_keywords}
pub use Rattle.ctf_types.specs.Packets.{own_names}
pub use Rattle.ctf_types.specs.declared.ByteOrder.{ByteOrder}
pub use Rattle.ctf_types.specs.declared.ClockType.{ClockType}
pub use Rattle.ctf_types.specs.declared.EnvironmentEntry.{EnvironmentEntry}
pub use Rattle.ctf_types.specs.declared.Event.{Event}
pub use Rattle.ctf_types.specs.declared.FieldType.TheVariants.{Enum, Int, Static, Str}
pub use Rattle.ctf_types.specs.declared.MemberType.{MemberType}
pub use Rattle.ctf_types.specs.declared.MemberType.TheVariants.{Dyn, Plain}
pub use Rattle.ctf_types.specs.declared.Metadata.{Metadata}
pub use Rattle.ctf_types.specs.declared.Stream.{Stream}
pub use Rattle.ctf_types.specs.declared.StructType.{StructType}
pub use Rattle.ctf_types.specs.declared.limits.TheConstants.{LARGEST_ALIGN, MAX_ARRAYS, MAX_ELEMENTS, MAX_ENVIRONMENT, MAX_MEMBERS, MAX_RANGES}
pub use Rattle.std.specs.BTreeMap.{BTreeMap, ContainsKey, get, is_at}
pub use Rattle.std.specs.BTreeSet.{BTreeSet, contains, contains_text}
pub use Rattle.std.specs.Cmp.{Equal-is, IsTotalOrder, eq_by_cmp_equiv, nat_cmp_is}
pub use Rattle.std.specs.Cmp.Lexicographic.{lists_ties, nat_list_eq_equiv, pointwise, slice_cmp, texts_ties}
pub use Rattle.std.specs.List.{AllByRecursion, Contains, flat_map, list_all, list_any, position, position_or_len, prefix_len}
pub use Rattle.std.specs.Option.{IsSome, is_some, option_and_then, option_map, option_map_or, option_or, unwrap_or}
pub use Rattle.std.specs.Ordering.{eq_by_cmp, is_eq, match_ordering, nat_cmp}
pub use Rattle.std.specs.Result.{IfErr, IfOk, IsErrAnd, result_ok}
pub use Rattle.std.specs.Str.{bytes_eq, is_utf8}
pub use Rattle.std.specs.String.{string_bytes}
pub use Rattle.std.specs.declared.alloc.Global.{Global}
pub use Rattle.std.specs.declared.string.String.{String}
pub use Rattle.tsdl_flaw.specs.Asked.{Asked, asked_in, fits, is_alignment, is_any_order, is_base, is_encoding, is_flag, is_identity, is_label, is_mapping, is_natural, is_order, is_size, is_text, is_whole, of_clock, of_event, of_integer, of_string, passes}
pub use Rattle.tsdl_flaw.specs.Flaws.{IsPartOfVersion, IsUnsupported, IsWrong}
pub use Rattle.tsdl_flaw.specs.Fronts.{Ends, Holds}
pub use Rattle.tsdl_flaw.specs.Lengths.{HasLength, most}
pub use Rattle.tsdl_flaw.specs.Limits.{IsLargeAlignment, IsLongLength, IsMemberTooMany, IsPassed, IsRangeTooMany, depth, elements}
pub use Rattle.tsdl_flaw.specs.Misfits.{IsMisfit, needed_by}
pub use Rattle.tsdl_flaw.specs.Places.{StandsBehind}
pub use Rattle.tsdl_flaw.specs.Stopping.{StopsIn, kind_of}
pub use Rattle.tsdl_flaw.specs.TextStops.{IfFault, StopsText}
pub use Rattle.tsdl_flaw.specs.Twice.{HasNumbers, IsMemberTwice, IsNameTwice, IsTwice, begun, clock_name}
pub use Rattle.tsdl_flaw.specs.Unfinished.{IsOrphan, IsUnfinished}
pub use Rattle.tsdl_flaw.specs.Written.{with_dot, written}
pub use Rattle.tsdl_flaw.specs.declared.flaw.Stop.{Stop}
pub use Rattle.tsdl_grammar.specs.AttributeValues.{alone, flag_value, flag_words, is_negative, meant_by, name_value, natural, natural_value, one_word, optional, signed_of, text_value, uuid_value, whole, whole_value, with_default, word_value}
pub use Rattle.tsdl_grammar.specs.BlockMeaning.{clock_meaning, environment_meaning, event_context, event_header, event_meaning, fact_meaning, fields_scope, has_number, is_byte, is_flat, is_trace, is_unsigned_of, is_uuid, named_fact_meaning, number_or_zero, order_table, packet_context, packet_header, specific_context, stream_meaning, suits, suits_header, trace_order}
pub use Rattle.tsdl_grammar.specs.Denotes.{Denotes, clock_in, environment_in, event_in, events_of, have_streams, is_read, known_of, stream_in, streams_meaning, text_meta, trace_in, with_events}
pub use Rattle.tsdl_grammar.specs.IntegerMeaning.{Known, base_value, base_words, clock_value, default_align, has_only, int_attrs, int_meaning, int_type, order_value, order_words}
pub use Rattle.tsdl_grammar.specs.Laws.{NumbersRise, SaysClock, SaysEvent, SaysMetadata, SaysStream}
pub use Rattle.tsdl_grammar.specs.Lookups.{are_distinct, attr, attr_in, attr_names, attrs_in, has_parts, is_among, is_word, no_two, same_words, scope, scope_in, scopes_in, words_of}
pub use Rattle.tsdl_grammar.specs.MemberMeaning.{are_lengths, arrays_of, bracketed, count_of, encoding_value, encoding_words, entries_of, entry_meaning, enum_meaning, field_of, high_of, is_unsigned, kind_meaning, label_of, length_place, member_meaning, text_meaning}
pub use Rattle.tsdl_grammar.specs.Spelling.{align_toks, attr_toks, attrs_toks, block_and_semicolon, block_toks, braced, bracket_toks, closing_toks, dotted, entries_toks, entry_toks, fact_toks, high_toks, int_toks, item_toks, items_toks, kind_toks, label_toks, mark, member_toks, name_toks, named_fact_toks, next_entry_toks, number_toks, scope_toks, sign_toks, struct_toks, text_toks, value_toks, word}
pub use Rattle.tsdl_grammar.specs.Steps.{at_most_one, by_number, each, insert_numbered, only, provided, ◌>>=◌}
pub use Rattle.tsdl_grammar.specs.StructureMeaning.{align_of, align_with, has_member, members_meaning, scope_meaning, struct_meaning, struct_type, structure_of}
pub use Rattle.tsdl_grammar.specs.declared.atom.Atom.{Atom}
pub use Rattle.tsdl_grammar.specs.declared.token.Mark.{Mark}
pub use Rattle.tsdl_grammar.specs.declared.tree.Attribute.{Attribute}
pub use Rattle.tsdl_grammar.specs.declared.tree.Block.{Block}
pub use Rattle.tsdl_grammar.specs.declared.tree.Bracket.{Bracket}
pub use Rattle.tsdl_grammar.specs.declared.tree.Entries.{Entries}
pub use Rattle.tsdl_grammar.specs.declared.tree.Entry.{Entry}
pub use Rattle.tsdl_grammar.specs.declared.tree.Item.{Item}
pub use Rattle.tsdl_grammar.specs.declared.tree.Kind.{Kind}
pub use Rattle.tsdl_grammar.specs.declared.tree.MemberTree.{MemberTree}
pub use Rattle.tsdl_grammar.specs.declared.tree.Name.{Name}
pub use Rattle.tsdl_grammar.specs.declared.tree.NamedFact.{NamedFact}
pub use Rattle.tsdl_grammar.specs.declared.tree.Number.{Number}
pub use Rattle.tsdl_grammar.specs.declared.tree.Scope.{Scope}
pub use Rattle.tsdl_grammar.specs.declared.tree.Structure.{Structure}
pub use Rattle.tsdl_grammar.specs.declared.tree.Value.{Value}
pub use Rattle.tsdl_meaning.specs.Blocks.{IsBegun, IsNotedAttribute, word_of}
pub use Rattle.tsdl_meaning.specs.BracketLengths.{Adds, IsBehindBrackets, IsInBracket, IsInBrackets, PassesLimit}
pub use Rattle.tsdl_meaning.specs.FlawlessBlocks.{AddsAttribute, AddsName, AddsScope, AreFlawless, IsEnded, IsFlawlessBlock, IsFlawlessScope, IsNumberedAnew, asked_of, clock_asks, first_texts, fits_word, is_fit, is_number, named_rules, rule_in, scopes_of, stream_asks, trace_asks}
pub use Rattle.tsdl_meaning.specs.FlawlessBrackets.{AreBrackets, HaveNumbers, KeepsLimits, NameLength}
pub use Rattle.tsdl_meaning.specs.FlawlessStructures.{AddsMember, IsFlawless}
pub use Rattle.tsdl_meaning.specs.FlawlessTexts.{AddsBlock, AddsClock, AddsFact, AddsStream, HaveStreams, IsEmpty, IsFlawlessBehind, LacksBlocks, LacksStream, MeanEntries, Surveys}
pub use Rattle.tsdl_meaning.specs.FlawlessTypes.{AreRanges, integer_asks, own_asked, own_attrs, string_attrs, tree_of, type_word}
pub use Rattle.tsdl_meaning.specs.Fronts.{with_front}
pub use Rattle.tsdl_meaning.specs.Groups.{AddsEvent, OthersStay, group_of, with_group, with_own}
pub use Rattle.tsdl_meaning.specs.Judged.{EndsFacts, IsAttribute, StopsAmong, StopsUnless, StopsWhere}
pub use Rattle.tsdl_meaning.specs.Judging.{AsksAlignment, IsBehindAlign, IsBehindBrace, IsTypeBegun}
pub use Rattle.tsdl_meaning.specs.Ledgers.{AreNoted, HasClock, HasEvent, HasStream, pair_cmp}
pub use Rattle.tsdl_meaning.specs.Members.{IsLengthAt, text_leaf}
pub use Rattle.tsdl_meaning.specs.MembersBefore.{AreMembers, IsBehindKind, IsBehindMembers}
pub use Rattle.tsdl_meaning.specs.Names.{name_lists, names_of, scope_names, texts_of}
pub use Rattle.tsdl_meaning.specs.NamesBefore.{AreNamed, HasNames, IsNamed}
pub use Rattle.tsdl_meaning.specs.NotedBlocks.{first_of, listed, name_of, order_of, orders_in}
pub use Rattle.tsdl_meaning.specs.PacketSizes.{IfSizesMissed, LacksSizes, MissesSizes, has_in_context, has_sizes, member_names}
pub use Rattle.tsdl_meaning.specs.ScopeRules.{SuitsAt, is_byte_chain, suits_rule}
pub use Rattle.tsdl_meaning.specs.declared.judge.block.BlockKind.{BlockKind}
pub use Rattle.tsdl_meaning.specs.declared.judge.ledger.Ledger.{Ledger}
pub use Rattle.tsdl_meaning.specs.declared.scope_rule.ScopeRule.{ScopeRule}
