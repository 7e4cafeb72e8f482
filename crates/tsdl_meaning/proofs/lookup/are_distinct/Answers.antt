use Rattle.tsdl_meaning.proofs.DistinctKeys.{at_first, stands_twice, stands_once}
use Rattle.tsdl_meaning.proofs.lookup.are_distinct.Goals as goal

pub loop-key-init : goal.loop-key-init
loop-key-init g c = at_first g.K.Ord.cmp c.new-behind.result.keys c.args.keys.items c.new-behind.ensures.empty

pub returns-then-not-branch : goal.returns-then-not-branch
returns-then-not-branch g c =
    stands_twice g.K.Ord.cmp c.loop-key.behind.keys c.loop-key.left.items c.pop.new.self.items c.in-Some.key _ c.in_ok-insert.field-0 c.in-Some.ensures.items
    c.loop-key.invariant c.in_ok-insert.ensures.added c.if-not-branch.true

pub loop-key-preserved : goal.loop-key-preserved
loop-key-preserved g c =
    stands_once g.K.Ord.cmp c.loop-key.behind.keys c.loop-key.left.items c.pop.new.self.items c.in-Some.key _ c.in_ok-insert.field-0 c.insert.new.self.keys
    g.met.K.Ord.total c.in-Some.ensures.items c.loop-key.invariant c.in_ok-insert.ensures.added c.if-not-branch.false c.in_ok-insert.ensures.updates.0
