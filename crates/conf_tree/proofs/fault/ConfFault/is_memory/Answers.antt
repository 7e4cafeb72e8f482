use Rattle.std.proofs.Common.{rules, ◌≡◌, List, [], ◌∷◌, map, refl, ap}
use Rattle.conf_tree.specs.declared.fault.ConfFault.{ConfFault}
use Rattle.conf_tree.specs.declared.fault_kind.FaultKind.{FaultKind}
use Rattle.conf_tree.specs.declared.fault_kind.FaultKind.TheVariants.{OutOfMemory}
use Rattle.conf_tree.specs.declared.step.Step.{Step}
use Rattle.conf_tree.specs.Flaw.{Flaw, place_of, flaw_of, here}
use Rattle.conf_tree.proofs.fault.ConfFault.is_memory.Goals as goal

no_steps : (path : List Step) → map place_of path ≡ [] → path ≡ []
no_steps [] e = refl
no_steps (step ∷ path) e = cc

at_itself : (fault : ConfFault) (kind : FaultKind) → fault.path ≡ [] → fault.kind ≡ kind → flaw_of fault ≡ here kind
at_itself fault kind p k = λ i. record { path = map place_of (p i); kind = k i }

pub returns-then-eq : goal.returns-then-eq
returns-then-eq c =
    let kind : c.args.self.now.kind ≡ OutOfMemory = search rules in (
      (λ empty. at_itself c.args.self.now OutOfMemory (c.is_empty.ensures.0 empty) kind),
      (λ memory. c.is_empty.ensures.1 (no_steps _ (ap (λ (flaw : Flaw). flaw.path) memory))),
    )
