use Rattle.std.proofs.Common.{Err, sym, ap, ◌∙◌, subst, inl, inr}
use Rattle.serde_json.specs.View.{view, members_view}
use Rattle.conf_tree.specs.{Flaw.flaw_of, Reading.{◌>>=◌, Gives}}
use Rattle.conf_inherit.specs.{AliasOutcomes.outcomes_of, Resolution.{in_aliases, from_aliases}}
use Rattle.conf_inherit.proofs.{TakenLemmas.{refuses, refused_alias, aliases_laid, then_laid, after_aliases}}
use Rattle.conf_inherit.proofs.resolution.resolve_after.Goals as goal

pub returns-in-Err : goal.returns-in-Err
returns-in-Err c = record {
  first = λ al n apart settled spent. elim c.in_aliases.ensures.moved [
    | inl memory ↦ inl (c.in_aliases.ensures.memory memory)
    | inr (inl memory) ↦ inl memory
    | inr (inr moved) ↦ elim c.in-Err.ensures.first [
      | inl memory ↦ inl (c.in_aliases.ensures.memory memory)
      | inr flawed ↦ inr (
          refused_alias al (members_view c.args.aliases.now.entries) n (outcomes_of c.args.outcomes) (view c.args.value.now) c.requires.bare apart settled spent (in_aliases (flaw_of c.in-Err.fault)) (ap from_aliases flawed)
          ∙ ap (λ f. Err f) (sym moved)
          )
    ]
  ];
}

pub returns-in_err-check_value : goal.returns-in_err-check_value
returns-in_err-check_value c = record {
  first = λ al n apart settled spent.
      refuses view c.from_residual.result c.in_err-check_value.field-0.0 _ (then_laid al (members_view c.args.aliases.now.entries) n (outcomes_of c.args.outcomes) (view c.args.value.now) c.requires.bare apart settled spent) _ c.from_residual.ensures.1
      (after_aliases al (members_view c.args.aliases.now.entries) n (outcomes_of c.args.outcomes) (view c.args.value.now) c.requires.bare apart settled spent (ap from_aliases c.in_default.ensures.first)) c.in_err-check_value.ensures.first;
}

pub returns : goal.returns
returns c = record {
  first = λ al n apart settled spent.
      let now = members_view c.args.aliases.now.entries in
      let st = outcomes_of c.args.outcomes in
      let v = view c.args.value.now in
      let sound = ap from_aliases c.in_default.ensures.first in
      subst (λ r. Gives view c.lay_all.result r) (sym (after_aliases al now n st v c.requires.bare apart settled spent sound ∙ ap (λ x. x >>= then_laid al now n st v c.requires.bare apart settled spent) c.in_ok-check_value.ensures.first))
      (c.lay_all.ensures.first al (aliases_laid al now n st v c.requires.bare apart settled spent sound));
}
