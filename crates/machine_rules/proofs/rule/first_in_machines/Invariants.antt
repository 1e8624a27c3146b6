use Rattle.std.proofs.Common.{◌≡◌, ◌-◌, take}
use Rattle.slicc_plan.specs.Prelude.{machines_of, in_each_from, first_after}
use Rattle.machine_rules.proofs.rule.first_in_machines.Given as goal

abbrev pub invariant-loop-scope : goal.invariant-loop-scope
invariant-loop-scope g l =
    l.found ≡ first_after l.fn.first (in_each_from 0 (g.R.MachineRule.found_in l.fn.scopes.trees.now) (take (l.scope - 1) (machines_of l.fn.scopes.trees.now)))
