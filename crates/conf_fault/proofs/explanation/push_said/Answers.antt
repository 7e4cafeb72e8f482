use Rattle.std.proofs.Common.{◌≡◌, ◌≢◌, ℕ, List, [], refl, sym, string_bytes, append-nil}
use Rattle.std.specs.Prelude.{codes}
use Rattle.std.proofs.lemmas.Result.{on_ok_weaker}
use Rattle.conf_tree.specs.declared.fault.ConfFault.{ConfFault}
use Rattle.conf_tree.specs.declared.fault_kind.FaultKind.{FaultKind}
use Rattle.conf_tree.specs.declared.fault_kind.FaultKind.TheVariants.{NotJson, OutOfMemory}
use Rattle.conf_fault.specs.Explanation.{Adds, IsPlaced, IsSaidOf}
use Rattle.conf_fault.proofs.Adding.{added}
use Rattle.conf_fault.proofs.explanation.push_said.Goals as goal

-- each other kind has a place
has_place : (kind : FaultKind) (text : List ℕ) (fault : ConfFault) (said : List ℕ) → kind ≢ NotJson → kind ≢ OutOfMemory → IsPlaced text fault said → IsSaidOf kind text fault said
unfolding IsSaidOf
has_place NotJson text fault said m n is = absurd (m refl)
has_place OutOfMemory text fault said m n is = absurd (n refl)
has_place _ text fault said m n is = is

pub returns-in-NotJson : goal.returns-in-NotJson
unfolding IsSaidOf
returns-in-NotJson c = rw c.in-NotJson.is c.push_not_json.ensures

pub returns-in-OutOfMemory : goal.returns-in-OutOfMemory
unfolding IsSaidOf
returns-in-OutOfMemory c = rw c.in-OutOfMemory.is (added (λ said. said ≡ codes "out of memory") _ _ [] _ _ (codes "out of memory") _ (sym (append-nil (string_bytes c.args.said.now))) c.push_str.ensures.bytes refl refl)

pub returns-in_default : goal.returns-in_default
returns-in_default c =
    let fault = c.args.fault.now in
    let text = c.args.source.text.now in
    on_ok_weaker c.push_placed.result
    (λ (placed : Adds (IsPlaced text fault) (string_bytes c.args.said.now) (string_bytes c.push_placed.new.said)). (placed.0, has_place fault.kind text fault placed.0 c.in_default.not-NotJson c.in_default.not-OutOfMemory placed.1, placed.2)) c.push_placed.ensures
