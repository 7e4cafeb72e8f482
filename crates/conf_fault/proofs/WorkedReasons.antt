-- What was expected, written out where the words name a limit, and the largest number that they name: with one more in its last digit it is too large.
use Rattle.std.proofs.Common.{◌≡◌, false, refl, rules, true}
use Rattle.std.specs.Prelude.{codes, option_map, Some}
use Rattle.std.specs.Float.{float_is_finite}
use Rattle.std.specs.Float.Ieee.{binary64}
use Rattle.std.specs.Float.Parse.{parse_float}
use Rattle.std.specs.Fmt.{digits}
use Rattle.std.proofs.lemmas.Float.Parse.{parse_float_on_literals}
use Rattle.conf_fault.specs.declared.stop.Reason.TheVariants as reasons
use Rattle.conf_fault.specs.Stop.{reason_words}
use Rattle.conf_fault.specs.Wanted.{identifier_words}

of_depth : reason_words reasons.TooDeep ≡ codes "at most 127 objects and lists in one another"
unfolding digits reason_words
of_depth = refl

of_names : identifier_words ≡ codes "a letter or `_`, then letters, digits or `_`, 255 bytes at most"
unfolding digits
of_names = refl

a_float : option_map float_is_finite (parse_float binary64 (codes "1.797e308")) ≡ Some true
unfolding parse_float_on_literals float_is_finite
a_float = search rules

no_float : option_map float_is_finite (parse_float binary64 (codes "1.798e308")) ≡ Some false
unfolding parse_float_on_literals float_is_finite
no_float = search rules
