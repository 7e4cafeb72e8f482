use Rattle.std.proofs.Common.{◌≡◌, ◌||◌, drop}
use Rattle.std.specs.List.{list_all}
use Rattle.ctf_types.specs.Names.{is_letter, is_digit}
use Rattle.ctf_types.proofs.identifier.are_letters_or_digits.Given as goal

-- the bytes that are left are letters and digits where all of them are
abbrev pub invariant-loop-byte : goal.invariant-loop-byte
invariant-loop-byte l =
    list_all (λ d. is_letter d || is_digit d) l.bytes ≡ list_all (λ d. is_letter d || is_digit d) (drop l.byte-index l.bytes)
