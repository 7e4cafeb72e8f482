use Rattle.std.proofs.Common.{◌∙◌, ap, append-nil, false, string_bytes, sym, true}
use Rattle.std.proofs.lemmas.Result.{on_ok_weaker}
use Rattle.conf_fault.specs.Explanation.{Adds}
use Rattle.conf_fault.specs.Wanted.{IsLargestNumber, end_name}
use Rattle.conf_fault.proofs.WantedLemmas.{room}
use Rattle.conf_fault.proofs.named.push_room.Goals.{then-is+in_ok-push_str, else-is}
use Rattle.conf_fault.proofs.named.push_room.Goals as goal

pub returns : goal.returns
returns c =
    let feature = end_name c.args.path.now in
    let was = string_bytes c.args.said.now in
    on_ok_weaker c.push_largest_number.result
    (λ (largest : Adds (IsLargestNumber feature) _ (string_bytes c.push_largest_number.new.said)).
    elim c.if-is.branch [
      | then-is+in_ok-push_str w ↦ room feature was _ _ true (ap string_bytes w.said-is ∙ w.in_ok-push_str.ensures.bytes) largest
      | else-is w ↦ room feature was _ _ false (ap string_bytes w.said-is ∙ sym (append-nil was)) largest
    ])
    c.push_largest_number.ensures
