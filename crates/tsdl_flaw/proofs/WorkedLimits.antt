-- What the limits allow, written out: the definition makes the words from the limits.
use Rattle.std.proofs.Common.{◌≡◌, codes, refl}
use Rattle.std.specs.Fmt.{digits}
use Rattle.tsdl_flaw.specs.declared.limit.Limit.TheVariants as limits
use Rattle.tsdl_flaw.specs.FlawWords.{limit_words}

of_structures : limit_words limits.Members ≡ codes "at most 1024 members"
unfolding digits
of_structures = refl

of_enumerations : limit_words limits.Ranges ≡ codes "at most 65536 ranges"
unfolding digits
of_enumerations = refl

of_environments : limit_words limits.Environment ≡ codes "at most 256 names"
unfolding digits
of_environments = refl

of_alignments : limit_words limits.Alignment ≡ codes "an alignment of at most 4096 bits"
unfolding digits
of_alignments = refl

of_depths : limit_words limits.Arrays ≡ codes "at most 8 arrays in one another"
unfolding digits
of_depths = refl

of_arrays : limit_words limits.Elements ≡ codes "at most 1048576 elements"
unfolding digits
of_arrays = refl
