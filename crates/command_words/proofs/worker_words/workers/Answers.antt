use Rattle.std.proofs.Common.{◌∙◌, inl, inr, Bool, List, Option, option_map, refl, sym, subst, codes, arith}
use Rattle.clap.specs.Words.{found_of, rows_of, Row, Text}
use Rattle.clap.proofs.WalkLemmas.{first_value-rows}
use Rattle.command_words.specs.CommandLine.{HasFlag, HasWorkers, SaysQuota}
use Rattle.command_words.specs.LineFaults.{TellsPart}
use Rattle.command_words.proofs.CommandLineLaws.{blame_on, blamed_value, no_workers, workers_flag, workers_quota}
use Rattle.command_words.proofs.worker_words.workers.Goals as goal

pub returns-in_err-flag-clause-blamed : goal.returns-in_err-flag-clause-blamed
returns-in_err-flag-clause-blamed c =
    blame_on c.from_residual.result c.in_err-flag.field-0.0 (λ (rows : List Row) (b : Bool). HasFlag rows (codes "workers") b) HasWorkers (rows_of (found_of c.args.found.now))
    c.from_residual.ensures.1 c.in_err-flag.ensures.blamed workers_flag

pub returns-in_err-quota-clause-blamed : goal.returns-in_err-quota-clause-blamed
returns-in_err-quota-clause-blamed c =
    let rows = rows_of (found_of c.args.found.now) in
    let said = option_map (λ s. s.now) c.get_str-said.result in
    let found = c.get_str-said.ensures ∙ first_value-rows (found_of c.args.found.now) (codes "quota") in
    let on = subst (λ (b : Bool). HasFlag rows (codes "workers") b) c.if-branch.true c.in_ok-flag.ensures.has in
    let told = c.in_err-quota.ensures.told in
    blame_on c.from_residual-in_err-quota.result c.in_err-quota.field-0.0 HasWorkers HasWorkers rows c.from_residual-in_err-quota.ensures.1
    (blamed_value c.in_err-quota.field-0.0 rows (codes "quota") told.0 (SaysQuota said) HasWorkers (sym found ∙ told.1) told.2 c.in_err-quota.ensures.refused
    (λ others q alike has. workers_quota others said q (found ∙ sym alike.0) (alike.1 ∙ on) has))
    (λ others q has. (q, has))

pub returns-then-branch-clause-has : goal.returns-then-branch-clause-has
returns-then-branch-clause-has c = (
  subst (λ (b : Bool). HasFlag (rows_of (found_of c.args.found.now)) (codes "workers") b) c.if-branch.true c.in_ok-flag.ensures.has,
  subst (λ (o : Option Text). SaysQuota o c.in_ok-quota.field-0.readings) (c.get_str-said.ensures ∙ first_value-rows (found_of c.args.found.now) (codes "quota")) c.in_ok-quota.ensures.says,
)

pub returns-in-None-clause-has : goal.returns-in-None-clause-has
returns-in-None-clause-has c = (
  subst (λ (b : Bool). HasFlag (rows_of (found_of c.args.found.now)) (codes "workers") b) c.if-branch.false c.in_ok-flag.ensures.has,
  sym (first_value-rows (found_of c.args.found.now) (codes "quota")) ∙ sym c.in-None.ensures,
)

pub returns-in-Some-clause-blamed : goal.returns-in-Some-clause-blamed
returns-in-Some-clause-blamed c =
    let rows = rows_of (found_of c.args.found.now) in
    let off = subst (λ (b : Bool). HasFlag rows (codes "workers") b) c.if-branch.false c.in_ok-flag.ensures.has in
    let said = sym (first_value-rows (found_of c.args.found.now) (codes "quota")) ∙ sym c.in-Some.ensures in
    inr (
      codes "quota",
      (λ others q alike has. no_workers others c.in-Some.text.now q (alike.1 ∙ off) (alike.0 ∙ said) has),
      subst (λ (o : Option Text). TellsPart (codes "quota") o c.bad_value.result) (sym said) (inl c.bad_value.ensures),
    )

pub flag-requires : goal.flag-requires
flag-requires c = (4, omega arith, refl)

pub bad_value-requires : goal.bad_value-requires
bad_value-requires c = (5, omega arith, refl)
