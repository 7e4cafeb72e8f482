use Rattle.std.proofs.Common.{◌⊎◌, refl}
use Rattle.std.proofs.lemmas.Result.{err_from_is_err_and}
use Rattle.serde_json.specs.View.{view}
use Rattle.conf_judge.specs.Flaws.{configuration_flaws}
use Rattle.conf_laws.proofs.FirstFlawLaws.{first_found}
use Rattle.conf_laws.proofs.TableFlawLaws.{none_left, none_refused}
use Rattle.conf_laws.proofs.Traces.{tree_said}
use Rattle.conf_tree.specs.Flaw.{flaw_of, IsMemory}
use Rattle.conf_check.specs.FirstFlaw.{IsFirstFlawOf}
use Rattle.conf_check.specs.Judgement.{IsJudgedTo}
use Rattle.conf_check.proofs.ConfigurationLaws.{configuration_says, configuration_allowed, configuration_refused, memory_or, only_memory}
use Rattle.conf_check.proofs.FirstOfWhole.{first_of_whole}
use Rattle.conf_check.proofs.judgement.check.Goals as goal

pub draft_of-requires : goal.draft_of-requires
draft_of-requires c =
    let d = view c.args.tree.value in
    tree_said c.args.number d (none_refused (configuration_flaws d) c.in_ok-check_objects.ensures)

pub returns-in_err-check_objects : goal.returns-in_err-check_objects
returns-in_err-check_objects c =
    let d = view c.args.tree.value in
    let fault = c.in_err-check_objects.field-0.0 in
    let p = err_from_is_err_and c.from_residual.result c.from_residual.ensures.1 in
    let first : IsMemory fault ⊎ IsFirstFlawOf d c.args.number (flaw_of fault) = memory_or c.in_err-check_objects.ensures (λ e. IsFirstFlawOf.of_an_object (first_found d (flaw_of fault) c.args.tree.ordered e)) in
    rw (p.1, p.2) (record { rows = tt; allowed = tt; first = first; refused = memory_or first (configuration_refused d c.args.number (flaw_of fault)); only = only_memory d c.args.number fault first })

pub returns-in_err-whole : goal.returns-in_err-whole
returns-in_err-whole c =
    let d = view c.args.tree.value in
    let fault = c.in_err-whole.field-0.0 in
    let p = err_from_is_err_and c.from_residual-in_err-whole.result c.from_residual-in_err-whole.ensures.1 in
    let none = none_refused (configuration_flaws d) c.in_ok-check_objects.ensures in
    let first : IsMemory fault ⊎ IsFirstFlawOf d c.args.number (flaw_of fault) = memory_or c.in_err-whole.ensures (λ e. IsFirstFlawOf.of_the_whole c.in-Ok.draft (λ flaw. none_left d none flaw) c.in-Ok.ensures (first_of_whole c.args.number d c.in-Ok.draft (flaw_of fault) c.args.tree.ordered c.in-Ok.ensures e)) in
    rw (p.1, p.2) (record { rows = tt; allowed = tt; first = first; refused = memory_or first (configuration_refused d c.args.number (flaw_of fault)); only = only_memory d c.args.number fault first })

pub returns : goal.returns
returns c =
    let d = view c.args.tree.value in
    let none = none_refused (configuration_flaws d) c.in_ok-check_objects.ensures in
    let judged : IsJudgedTo d c.args.number c.in-Ok.draft.config = record { draft = c.in-Ok.draft; no_flaw = none; says = c.in-Ok.ensures; passes = c.in_ok-whole.ensures; config_is = refl } in
    record { rows = configuration_says d c.args.number c.in-Ok.draft.config judged; allowed = configuration_allowed d c.args.number c.in-Ok.draft.config c.args.tree.ordered judged; first = tt; refused = tt; only = tt }
