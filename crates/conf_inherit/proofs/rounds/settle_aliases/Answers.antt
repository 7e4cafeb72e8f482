use Rattle.std.proofs.Common.{◌≡◌, ◌≤◌, Bool, false, true, not, ap, ◌∙◌, arith}
use Rattle.std.specs.BTreeMap.{btree_map_len}
use Rattle.serde_json.specs.{Events.members_len, View.members_view}
use Rattle.serde_json.proofs.Views.{members_len-members_view}
use Rattle.conf_inherit.specs.{AliasOutcomes.outcomes_of, Names.NoClash, Rounds.{has_outcome, all_settled, rounds, no_outcomes}}
use Rattle.conf_inherit.proofs.{LayingLemmas.apart_of, RoundLemmas.count, SpentLemmas.{last_round, spends_count, rounds_more, settled_rounds}, TurnLemmas.{full_settled}}
use Rattle.conf_inherit.proofs.rounds.settle_aliases.Goals as goal

pub returns-clause-settled : goal.returns-clause-settled
returns-clause-settled c =
    let al = members_view c.args.aliases.now.entries in
    let left = members_view c.take_turns.new.aliases.entries in
    let st = outcomes_of c.loop-turn.outcomes in
    let inv = c.loop-turn.invariant in
    let len : members_len al ≡ btree_map_len c.args.aliases.now = members_len-members_view c.args.aliases.now.entries in
    let full : members_len left ≤ count (has_outcome st) left = omega (arith, spends_count st.done al left inv.turns.spends, len, inv.few, c.loop-turn-test.false, c.loop-turn.auto._turn-end, c.len-count.ensures.len) in
    settled_rounds al left st (apart_of c.args.aliases.now.entries c.len-count.ensures.ordered) inv.turns (full_settled left st full) ∙ ap (λ n. rounds al n no_outcomes) len

flipped : (due settled : Bool) → due ≡ not settled → settled ≡ not due
flipped due settled is = grind arith

pub returns-then-not-due-clause-settled : goal.returns-then-not-due-clause-settled
returns-then-not-due-clause-settled c =
    let al = members_view c.args.aliases.now.entries in
    let left = members_view c.take_turns.new.aliases.entries in
    let st = outcomes_of c.loop-turn.outcomes in
    let is : all_settled left left st ≡ true = flipped c.in_ok-due.due (all_settled left left st) c.in_ok-due.ensures.due ∙ ap not c.if-not-due.true in
    (last_round al left st (outcomes_of c.round.new.outcomes) (apart_of c.args.aliases.now.entries c.len-count.ensures.ordered) c.loop-turn.invariant.turns is c.in_ok-due.ensures.turned).0
    ∙ ap (λ n. rounds al n no_outcomes) (members_len-members_view c.args.aliases.now.entries)

pub returns-then-not-due-clause-spent : goal.returns-then-not-due-clause-spent
returns-then-not-due-clause-spent c =
    let al = members_view c.args.aliases.now.entries in
    let left = members_view c.take_turns.new.aliases.entries in
    let st = outcomes_of c.loop-turn.outcomes in
    let is : all_settled left left st ≡ true = flipped c.in_ok-due.due (all_settled left left st) c.in_ok-due.ensures.due ∙ ap not c.if-not-due.true in
    (last_round al left st (outcomes_of c.round.new.outcomes) (apart_of c.args.aliases.now.entries c.len-count.ensures.ordered) c.loop-turn.invariant.turns is c.in_ok-due.ensures.turned).1

pub loop-turn-preserved : goal.loop-turn-preserved
loop-turn-preserved c =
    let al = members_view c.args.aliases.now.entries in
    let left = members_view c.take_turns.new.aliases.entries in
    let apart : NoClash al = apart_of c.args.aliases.now.entries c.len-count.ensures.ordered in
    let waits : all_settled left left (outcomes_of c.loop-turn.outcomes) ≡ false = flipped c.in_ok-due.due (all_settled left left (outcomes_of c.loop-turn.outcomes)) c.in_ok-due.ensures.due ∙ ap not c.if-not-due.false in
    rounds_more al left (outcomes_of c.loop-turn.outcomes) (outcomes_of c.round.new.outcomes) c.loop-turn._turn apart c.loop-turn.invariant waits c.in_ok-due.ensures.turned
