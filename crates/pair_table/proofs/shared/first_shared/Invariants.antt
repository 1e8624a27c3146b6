use Rattle.std.proofs.Common.{◌≡◌, [], take}
use Rattle.slicc_plan.specs.Prelude.{first_after, shared_after}
use Rattle.pair_table.proofs.shared.first_shared.Given as goal

abbrev pub invariant-loop-k : goal.invariant-loop-k
invariant-loop-k l = l.found ≡ first_after l.fn.first (shared_after l.number [] (take l.k l.ws))
