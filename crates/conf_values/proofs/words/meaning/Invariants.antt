use Rattle.std.proofs.Common.{◌≡◌, map}
use Rattle.std.specs.List.{zip}
use Rattle.conf_values.specs.Words.{word_in}
use Rattle.conf_values.proofs.words.meaning.Given as goal

-- the words that are left say what the word stands for
abbrev pub invariant-loop-other : goal.invariant-loop-other
invariant-loop-other g l = word_in (zip (map (λ w. w.now) l.words) l.meanings) l.word ≡ word_in (zip (map (λ w. w.now) l.other-iterator.a.rest.now) l.other-iterator.b.rest.now) l.word
