use Rattle.std.proofs.Common.{◌≡◌, drop}
use Rattle.action_code.specs.Rules.{broken_in_bodies, first_broken}
use Rattle.action_code.proofs.checking.check_bodies.Given as goal

abbrev pub invariant-loop-body : goal.invariant-loop-body
invariant-loop-body l = broken_in_bodies l.p l.body (drop l.body l.p.bodies) ≡ first_broken l.p
