use Rattle.std.proofs.Common.{◌≡◌}
use Rattle.serde_json.specs.View.{members_view}
use Rattle.conf_inherit.specs.{AliasOutcomes.outcomes_of, AliasFlaws.all_alias_flaws}
use Rattle.conf_inherit.proofs.alias_check.check_aliases.Given as goal

-- the aliases that are left have all the flaws
abbrev pub invariant-loop-name : goal.invariant-loop-name
invariant-loop-name l =
    all_alias_flaws (members_view l.aliases.entries) (outcomes_of l.outcomes) (members_view l.aliases.entries) ≡ all_alias_flaws (members_view l.aliases.entries) (outcomes_of l.outcomes) (members_view l.name-iterator)
