-- Why the arguments of a tracing call are refused, in words.
use Rattle.std.specs.Prelude.{ℕ, List, codes}
use Rattle.data_types.specs.declared.arg_fault.ArgFault.{ArgFault}
use Rattle.data_types.specs.declared.arg_fault.ArgFault.TheVariants.{NoSuchEvent, Count, Kind, Range, ZeroByte, Length}

abbrev pub arg_words : ArgFault → List ℕ
arg_words NoSuchEvent = codes "no event record type has this number"
arg_words Count = codes "the structure has another number of members"
arg_words Kind = codes "a value is of another kind than its field"
arg_words Range = codes "a number is outside its field's range"
arg_words ZeroByte = codes "a string holds a zero byte"
arg_words Length = codes "a list has another length than its array, or more than 2^32 - 1 elements"
