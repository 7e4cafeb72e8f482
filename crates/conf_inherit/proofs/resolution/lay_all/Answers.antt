use Rattle.std.proofs.Common.{Ok, ap, sym, ◌∙◌}
use Rattle.serde_json.specs.View.{view, members_view}
use Rattle.conf_tree.specs.Reading.{◌>>=◌}
use Rattle.conf_inherit.specs.{Resolution.if_shallow, Whole.with_aliases}
use Rattle.conf_inherit.proofs.TakenLemmas.{asked, shallow_asked, refuses}
use Rattle.conf_inherit.proofs.resolution.lay_all.Goals as goal

pub returns-in_err-check_nesting : goal.returns-in_err-check_nesting
returns-in_err-check_nesting c = record {
  first = λ al are_laid.
      let done = members_view c.args.resolved.entries in
      refuses view c.from_residual.result c.in_err-check_nesting.field-0.0 _ (λ a. Ok (with_aliases done (view c.in-Ok.laid))) _ c.from_residual.ensures.1
      (shallow_asked done al (view c.args.value.now) (view c.in-Ok.laid) c.in-Ok.ensures.laid are_laid (c.requires.shallow c.if-shallow.true) c.requires.bare) c.in_err-check_nesting.ensures.first;
}

pub returns-then-shallow : goal.returns-then-shallow
returns-then-shallow c = record {
  first = λ al are_laid.
      let done = members_view c.args.resolved.entries in
      shallow_asked done al (view c.args.value.now) (view c.in-Ok.laid) c.in-Ok.ensures.laid are_laid (c.requires.shallow c.if-shallow.true) c.requires.bare
      ∙ ap (λ x. x >>= (λ a. Ok (with_aliases done (view c.in-Ok.laid)))) c.in_ok-check_nesting.ensures.first
      ∙ ap Ok (sym c.replace_aliases.ensures.new);
}

pub returns-in_err-check_nesting-2 : goal.returns-in_err-check_nesting-2
returns-in_err-check_nesting-2 c = record {
  first = λ al are_laid.
      refuses view c.from_residual-in_err-check_nesting-2.result c.in_err-check_nesting-2.field-0.0 _ (λ a. Ok (view c.replace_aliases-2.new.value)) _ c.from_residual-in_err-check_nesting-2.ensures.1
      (asked (members_view c.args.resolved.entries) al (view c.args.value.now) (view c.in-Ok.laid) c.in-Ok.ensures.laid are_laid ∙ ap if_shallow (sym c.replace_aliases-2.ensures.new)) c.in_err-check_nesting-2.ensures.first;
}

pub returns : goal.returns
returns c = record {
  first = λ al are_laid.
      asked (members_view c.args.resolved.entries) al (view c.args.value.now) (view c.in-Ok.laid) c.in-Ok.ensures.laid are_laid
      ∙ ap if_shallow (sym c.replace_aliases-2.ensures.new)
      ∙ ap (λ x. x >>= (λ a. Ok (view c.replace_aliases-2.new.value))) c.in_ok-check_nesting-2.ensures.first;
}
