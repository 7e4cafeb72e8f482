use Rattle.std.proofs.Common.{◌++◌, ap, arith, string_bytes}
use Rattle.std.specs.Prelude.{codes}
use Rattle.conf_fault.specs.Shown.{cut}
use Rattle.conf_fault.specs.Wanted.{IsNearest}
use Rattle.conf_fault.proofs.Adding.{added, behind}
use Rattle.conf_fault.proofs.NearestLemmas.{told}
use Rattle.conf_fault.proofs.WantedLemmas.{texts}
use Rattle.conf_fault.proofs.expected.push_nearest.Goals as goal

pub returns : goal.returns
returns c =
    let words = texts c.args.words.now in
    let front = codes "; the nearest is `" in
    let word = cut c.in-Some.word.now in
    added (IsNearest c.args.text.now words) c.push.result (string_bytes c.args.said.now) (front ++ word) _ _ _ (front ++ word ++ codes "`")
    (behind _ _ _ front word c.in_ok-push_str.ensures.bytes c.in_ok-push_cut.ensures) c.push.ensures.bytes
    (ap (λ z. front ++ word ++ z) (c.push.ensures.ascii (omega arith))) (told c.args.text.now words c.nearest.result c.in-Some.word c.in-Some.is c.nearest.ensures)
