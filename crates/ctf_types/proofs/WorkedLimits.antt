-- The limits and the names of a packet context's own members, written out: the definitions take them from the code.
use Rattle.std.specs.Prelude.{◌≡◌, [], ◌∷◌, codes, refl}
use Rattle.ctf_types.specs.declared.limits.TheConstants.{LARGEST_ALIGN, MAX_ARRAYS, MAX_CLOCK_TYPES, MAX_CONFIG_MEMBERS, MAX_CONFIG_RANGES, MAX_ELEMENTS, MAX_ENVIRONMENT, MAX_EVENT_TYPES, MAX_LABEL_BYTES, MAX_MEMBERS, MAX_NAME_BYTES, MAX_RANGES, MAX_STREAM_TYPES, MAX_TEXT_BYTES}
use Rattle.ctf_types.specs.Packets.{own_names}

own_names_are : own_names
    ≡ codes "packet_size" ∷ codes "content_size" ∷ codes "timestamp_begin" ∷ codes "timestamp_end" ∷ codes "events_discarded" ∷ codes "packet_seq_num" ∷ []
own_names_are = refl

-- of a structure's and an array's parts
limits_of_types : MAX_MEMBERS ∷ MAX_CONFIG_MEMBERS ∷ MAX_RANGES ∷ MAX_CONFIG_RANGES ∷ MAX_ARRAYS ∷ MAX_ELEMENTS ∷ LARGEST_ALIGN ∷ []
    ≡ 1024 ∷ 256 ∷ 65536 ∷ 1024 ∷ 8 ∷ 1048576 ∷ 4096 ∷ []
limits_of_types = refl

-- of a trace's parts
limits_of_traces : MAX_ENVIRONMENT ∷ MAX_CLOCK_TYPES ∷ MAX_STREAM_TYPES ∷ MAX_EVENT_TYPES ∷ [] ≡ 256 ∷ 64 ∷ 64 ∷ 1024 ∷ []
limits_of_traces = refl

-- of the bytes of a name, a text and a label
limits_of_words : MAX_NAME_BYTES ∷ MAX_TEXT_BYTES ∷ MAX_LABEL_BYTES ∷ [] ≡ 255 ∷ 4096 ∷ 4096 ∷ []
limits_of_words = refl
