use Rattle.std.proofs.Common.{◌≡◌, ℕ, ◌++◌, reverse, vec_len}
use Rattle.tsdl_meaning.proofs.TextWords.{events_of, group_of}
use Rattle.tsdl_meaning.proofs.text_streams.groups_of.Given as goal

-- the last events are left, the first of them at the end
abbrev pub invariant-loop-event : goal.invariant-loop-event
invariant-loop-event l = (id : ℕ) → group_of l.groups id ++ events_of id (reverse l.left.items) ≡ events_of id l.fn.events

abbrev pub decreases-loop-event : goal.decreases-loop-event
decreases-loop-event l = vec_len l.left
