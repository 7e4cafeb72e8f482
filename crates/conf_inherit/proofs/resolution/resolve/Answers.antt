use Rattle.std.proofs.{Common.{◌≡◌, ℕ, ap, sym, ◌∙◌, subst, inl, inr}, lemmas.Result.err_from_is_err_and}
use Rattle.std.specs.BTreeMap.{btree_map_len}
use Rattle.serde_json.specs.{Data.{Data, Members}, Events.members_len, View.{view, members_view}}
use Rattle.serde_json.proofs.Views.{members_len-members_view}
use Rattle.conf_tree.specs.Flaw.{flaw_of}
use Rattle.conf_inherit.specs.{Names.NoClash, Resolution.{aliases_of, resolution, resolution_after}, Rounds.{Outcomes, rounds, no_outcomes}, Whole.with_aliases}
use Rattle.conf_inherit.proofs.{FaultOrderLemmas.told_in_turn, RefusalLemmas.refusal_holds, RoundLemmas.{resolution_is, resolution_sound}}
use Rattle.conf_inherit.proofs.{LookedUp.resolved_clean, TakenLemmas.{back_again, bare_again}}
use Rattle.conf_inherit.proofs.resolution.resolve.Goals as goal

-- what the aliases that were taken out come to, with them back in their place
taken_resolution : (t : Data) (none : Members) {al : Members} {v : Data} {n : ℕ} {st : Outcomes} → al ≡ aliases_of t → v ≡ with_aliases none t → members_len al ≡ n → st ≡ rounds al n no_outcomes → resolution t ≡ resolution_after al st (with_aliases al v)
taken_resolution t none {al} {v} {n} {st} own taken count settled = resolution_is t al n st own count settled ∙ ap (resolution_after al st) (sym (back_again t al none v own taken))

pub resolve_after-requires : goal.resolve_after-requires
resolve_after-requires c = record { bare = bare_again (view c.args.tree.value) c.new.result.entries (view c.replace_aliases-aliases.new.value) c.new.ensures.empty c.replace_aliases-aliases.ensures.new }

pub returns : goal.returns
returns c =
    let first = taken_resolution (view c.args.tree.value) (members_view c.new.result.entries) c.replace_aliases-aliases.ensures.old c.replace_aliases-aliases.ensures.new (members_len-members_view c.replace_aliases-aliases.result.entries) c.in_ok-outcomes.ensures.settled
    ∙ c.in_ok-value.ensures.first (members_view c.replace_aliases-aliases.result.entries) (btree_map_len c.replace_aliases-aliases.result) c.in_ok-outcomes.ensures.apart c.in_ok-outcomes.ensures.settled c.in_ok-outcomes.ensures.spent in
    record {
      resolved = (resolution_sound (view c.args.tree.value) (view c.in_ok-value.value) (subst NoClash c.replace_aliases-aliases.ensures.old c.in_ok-outcomes.ensures.apart) first).0;
      refused = tt;
      first = first;
      in_turn = tt;
    }

pub invariant_of-result : goal.invariant_of-result
invariant_of-result c =
    let t = view c.args.tree.value in
    let is = taken_resolution t (members_view c.new.result.entries) c.replace_aliases-aliases.ensures.old c.replace_aliases-aliases.ensures.new (members_len-members_view c.replace_aliases-aliases.result.entries) c.in_ok-outcomes.ensures.settled in
    let al = members_view c.replace_aliases-aliases.result.entries in
    let sound = resolution_sound t (view c.in_ok-value.value) (subst NoClash c.replace_aliases-aliases.ensures.old c.in_ok-outcomes.ensures.apart) (is ∙ c.in_ok-value.ensures.first al (btree_map_len c.replace_aliases-aliases.result) c.in_ok-outcomes.ensures.apart c.in_ok-outcomes.ensures.settled c.in_ok-outcomes.ensures.spent) in
    let clean = resolved_clean t (view c.in_ok-value.value) (c.args.tree.ordered, c.args.tree.whole) sound.0 in
    record {
      nested = sound.1;
      whole = clean.1;
      ordered = clean.0;
    }

pub returns-in_err-value : goal.returns-in_err-value
returns-in_err-value c =
    let p = err_from_is_err_and c.from_residual-in_err-value.result c.from_residual-in_err-value.ensures.1 in
    let is = taken_resolution (view c.args.tree.value) (members_view c.new.result.entries) c.replace_aliases-aliases.ensures.old c.replace_aliases-aliases.ensures.new (members_len-members_view c.replace_aliases-aliases.result.entries) c.in_ok-outcomes.ensures.settled in
    rw (p.1, p.2)
    (elim (c.in_err-value.ensures.first (members_view c.replace_aliases-aliases.result.entries) (btree_map_len c.replace_aliases-aliases.result) c.in_ok-outcomes.ensures.apart c.in_ok-outcomes.ensures.settled c.in_ok-outcomes.ensures.spent) [
      | inl memory ↦ record { resolved = tt; refused = inl memory; first = inl memory; in_turn = inl memory }
      | inr flawed ↦ record {
        resolved = tt;
        refused = inr (refusal_holds (view c.args.tree.value) (flaw_of c.in_err-value.field-0.0) (subst NoClash c.replace_aliases-aliases.ensures.old c.in_ok-outcomes.ensures.apart) (is ∙ flawed));
        first = inr (is ∙ flawed);
        in_turn = inr (told_in_turn (view c.args.tree.value) (flaw_of c.in_err-value.field-0.0) c.args.tree.ordered (is ∙ flawed));
      }
    ])
