use Rattle.std.proofs.Common.{◌≡◌, ◌&&◌, is_some, true, sym, ap, ◌∙◌}
use Rattle.serde_json.specs.Find.{get_member}
use Rattle.conf_inherit.specs.{FieldPlaces.is_entry, SeenNames.seen_names}
use Rattle.conf_inherit.proofs.FaultLemmas.{looked_for}
use Rattle.conf_inherit.proofs.flaws.is_taken.Goals as goal

pub returns-then-is_entry : goal.returns-then-is_entry
returns-then-is_entry c =
    let entry : is_entry c.args.place ≡ true = sym c.is_entry.ensures ∙ c.if-is_entry.true in
    c.contains_key.ensures ∙ looked_for c.args.name.now c.args.seen.now.entries ∙ ap (λ b. b && is_some (get_member c.args.name.now (seen_names c.args.seen.now))) (sym entry)
