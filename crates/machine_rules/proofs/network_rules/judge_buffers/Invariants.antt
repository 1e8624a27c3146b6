use Rattle.std.proofs.Common.{◌≡◌, [], map, take}
use Rattle.slicc_plan.specs.Prelude.{doubled_after, first_after}
use Rattle.machine_table.specs.Prelude.{buffer_seen}
use Rattle.machine_rules.proofs.network_rules.judge_buffers.Given as goal

abbrev pub invariant-loop-k : goal.invariant-loop-k
invariant-loop-k l = l.found ≡ first_after l.fn.first (doubled_after l.number [] (map buffer_seen (take l.k l.buffers)))
