use Rattle.std.proofs.Common.{◌≡◌, map, drop}
use Rattle.conf_table.specs.Classes.{class_words, class_in, class_word_of}
use Rattle.conf_table.proofs.classes.class_place.Given as goal

abbrev pub invariant-loop-class : goal.invariant-loop-class
invariant-loop-class l = class_in l.word class_words ≡ class_in l.word (map class_word_of (drop l.class-index l.class-items))
