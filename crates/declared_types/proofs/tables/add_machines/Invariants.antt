use Rattle.std.proofs.Common.{◌≡◌, ◌++◌, flat_map, map, take}
use Rattle.slicc_plan.specs.Prelude.{machine_in}
use Rattle.declared_types.specs.Prelude.{declarations_of, machine_table, summaries}
use Rattle.declared_types.proofs.tables.add_machines.Given as goal

abbrev pub invariant-loop-d : goal.invariant-loop-d
invariant-loop-d l = summaries l.tables ≡ summaries l.fn.tables ++ map machine_table (flat_map machine_in (declarations_of (take l.d-index l.declarations)))
