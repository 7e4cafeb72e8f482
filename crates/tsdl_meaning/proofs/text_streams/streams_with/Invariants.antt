use Rattle.std.proofs.Common.{◌≡◌, reverse, vec_len}
use Rattle.tsdl_meaning.proofs.TextWords.{NumbersRise, each, with_front, with_group}
use Rattle.tsdl_meaning.proofs.NumberOrder.{SameGroups}
use Rattle.tsdl_meaning.proofs.text_streams.streams_with.Given as goal

-- the last streams are left, the first of them at the end
abbrev pub invariant-loop-stream : goal.invariant-loop-stream
invariant-loop-stream l =
    (with_front l.made (each (with_group l.fn.groups) (reverse l.left.items)) ≡ each (with_group l.fn.groups) l.fn.streams) × NumbersRise (λ s. s.id) (reverse l.left.items)
    × SameGroups l.fn.groups l.left_groups (reverse l.left.items)

abbrev pub decreases-loop-stream : goal.decreases-loop-stream
decreases-loop-stream l = vec_len l.left
