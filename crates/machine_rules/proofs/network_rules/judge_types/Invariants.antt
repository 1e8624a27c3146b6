use Rattle.std.proofs.Common.{◌≡◌, [], map, take}
use Rattle.slicc_plan.specs.Prelude.{differing_after, first_after}
use Rattle.machine_table.specs.Prelude.{port_seen}
use Rattle.machine_rules.proofs.network_rules.judge_types.Given as goal

abbrev pub invariant-loop-k : goal.invariant-loop-k
invariant-loop-k l = l.found ≡ first_after l.fn.first (differing_after [] (map port_seen (take l.k l.ports)))
