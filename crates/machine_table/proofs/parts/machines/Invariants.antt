use Rattle.std.proofs.Common.{◌≡◌, map, take}
use Rattle.slicc_plan.specs.Prelude.{machines_of}
use Rattle.machine_table.proofs.parts.machines.Given as goal

abbrev pub invariant-loop-t : goal.invariant-loop-t
invariant-loop-t l = map (λ m. m.now) l.found ≡ machines_of (take l.t-index l.trees)
