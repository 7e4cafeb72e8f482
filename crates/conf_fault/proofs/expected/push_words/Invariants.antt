use Rattle.std.proofs.Common.{◌≡◌, ◌++◌, map, take, string_bytes}
use Rattle.std.specs.List.{flat_map}
use Rattle.conf_fault.specs.Expected.{further_word}
use Rattle.conf_fault.proofs.expected.push_words.Given as goal

abbrev pub invariant-loop-word : goal.invariant-loop-word
invariant-loop-word l = string_bytes l.said ≡ string_bytes l.initial.said ++ flat_map further_word (map (λ w. w.now) (take l.word-index l.others))
