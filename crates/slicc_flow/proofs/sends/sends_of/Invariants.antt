use Rattle.std.proofs.Common.{◌≡◌, ◌++◌, drop}
use Rattle.slicc_plan.specs.Prelude.{machines_of}
use Rattle.slicc_flow.specs.Sends.{sends_from}
use Rattle.slicc_flow.proofs.sends.sends_of.Given as goal

abbrev pub invariant-loop-number : goal.invariant-loop-number
invariant-loop-number l =
    sends_from (machines_of l.plan) 0 l.machines ≡ l.list ++ sends_from (machines_of l.plan) l.number (drop l.number l.machines)
