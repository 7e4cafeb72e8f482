use Rattle.std.proofs.Common.{drop, sym}
use Rattle.tsdl_meaning.proofs.TextWords.{base_words}
use Rattle.tsdl_meaning.proofs.WordTables.{IsAbsent, absent}
use Rattle.tsdl_meaning.proofs.integer.base_word.Goals as goal

pub returns-in_default : goal.returns-in_default
returns-in_default c =
    let n = c.in_default in
    let w = c.args.word.now in
    let hexadecimal : IsAbsent (drop 10 base_words) w = (n.not-hexadecimal, (n.not-hex, (n.not-x, (n.not-X, (n.not-p, tt))))) in
    let decimal : IsAbsent (drop 5 base_words) w = (n.not-decimal, (n.not-dec, (n.not-d, (n.not-i, (n.not-u, hexadecimal))))) in
    sym (absent base_words w (n.not-binary, (n.not-b, (n.not-octal, (n.not-oct, (n.not-o, decimal))))))
