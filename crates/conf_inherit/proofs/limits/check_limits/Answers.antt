use Rattle.std.proofs.Common.{string_bytes, sym, ap, ◌∙◌, subst, rules}
use Rattle.serde_json.specs.{View.{view, members_view}, declared.value.Value.the_lemmas}
use Rattle.conf_tree.specs.{Reading.Gives, Walk.refusal}
use Rattle.conf_inherit.proofs.LimitLemmas.{name_limit}
use Rattle.conf_inherit.proofs.limits.check_limits.Goals as goal

pub returns-in-String : goal.returns-in-String
returns-in-String c = record {
  first = subst (λ x. Gives (λ _. tt) c.check_alias_limits.result (refusal x))
      (name_limit (members_view c.args.resolved.now.entries) c.args.place (view c.args.value.now) (string_bytes c.in-String.name) c.as_str.result.now
      (ap view c.in-String.is ∙ search (rules, the_lemmas)) c.as_str.ensures.value (sym c.names_alias.ensures ∙ c.if-names_alias.true) (sym c.all_named.ensures ∙ c.if-not-all_named.false))
      c.check_alias_limits.ensures.first;
}
