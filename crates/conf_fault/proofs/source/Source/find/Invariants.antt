use Rattle.std.proofs.Common.{◌≡◌, drop}
use Rattle.conf_fault.specs.Found.{Leads, PathEnd, data_of, end_of, outermost}
use Rattle.conf_fault.proofs.source.Source.find.Given as goal

-- wherever the steps that are left lead from here, the whole path leads
abbrev pub invariant-loop-index : goal.invariant-loop-index
invariant-loop-index l = record {
  leads : (end : PathEnd) → Leads l.self.text.now (end_of l.found) (drop l.index l.path) end → Leads l.self.text.now (outermost (data_of l.tree)) l.path end;
  source : l.found.source ≡ l.self;
}
