use Rattle.std.proofs.Common.{◌≡◌, drop}
use Rattle.conf_tree.specs.Flaw.{key}
use Rattle.conf_tree.specs.Reading.{at}
use Rattle.conf_check.specs.StreamRules.{each, judged}
use Rattle.conf_check.proofs.stream_rule.check_each.Given as goal

abbrev pub invariant-loop-stream : goal.invariant-loop-stream
invariant-loop-stream l =
    each (λ s. at (key s.name) (judged l.rule l.config.clocks s)) l.config.streams ≡ each (λ s. at (key s.name) (judged l.rule l.config.clocks s)) (drop l.stream-index l.config.streams)
