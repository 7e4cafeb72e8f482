-- Flaws in words, of which the kind has words of its own: which numbers stand twice, which size a stream lacks, and what a limit allows.
use Rattle.std.specs.Prelude.{ℕ, List, ◌++◌, Option, Some, None, codes, decimal}
use Rattle.ctf_types.specs.declared.limits.TheConstants.{LARGEST_ALIGN, MAX_ARRAYS, MAX_ELEMENTS, MAX_ENVIRONMENT, MAX_MEMBERS, MAX_RANGES}
use Rattle.tsdl_grammar.specs.declared.fault.MetaFaultKind.TheVariants as faults
use Rattle.tsdl_grammar.specs.FaultWords.{kind_words}
use Rattle.tsdl_flaw.specs.declared.flaw.Numbered.{Numbered}
use Rattle.tsdl_flaw.specs.declared.flaw.Sizeless.{Sizeless}
use Rattle.tsdl_flaw.specs.declared.limit.Limit.{Limit}
use Rattle.tsdl_flaw.specs.declared.limit.Limit.TheVariants as limits

-- what stands before: a stream of this number, or an event of it
abbrev pub before_words : ℕ → Option ℕ → List ℕ
before_words stream None = codes "a stream with number " ++ decimal stream ++ codes " stands before"
before_words stream (Some event) = codes "an event with number " ++ decimal event ++ codes " in stream " ++ decimal stream ++ codes " stands before"

abbrev pub twice_words : Numbered → List ℕ
twice_words n = kind_words faults.Duplicate ++ codes ": " ++ before_words n.stream n.event

abbrev pub sizeless_words : Sizeless → List ℕ
sizeless_words s = codes "the packet context of stream " ++ decimal s.stream ++ codes " has no `" ++ s.size.now ++ codes "`"

-- what a limit allows
abbrev pub limit_words : Limit → List ℕ
limit_words limits.Members = codes "at most " ++ decimal MAX_MEMBERS ++ codes " members"
limit_words limits.Ranges = codes "at most " ++ decimal MAX_RANGES ++ codes " ranges"
limit_words limits.Environment = codes "at most " ++ decimal MAX_ENVIRONMENT ++ codes " names"
limit_words limits.Alignment = codes "an alignment of at most " ++ decimal LARGEST_ALIGN ++ codes " bits"
limit_words limits.Arrays = codes "at most " ++ decimal MAX_ARRAYS ++ codes " arrays in one another"
limit_words limits.Elements = codes "at most " ++ decimal MAX_ELEMENTS ++ codes " elements"
limit_words limits.SequenceElements = codes "a sequence of elements with bits"
