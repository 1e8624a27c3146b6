use Rattle.std.proofs.Common.{◌≡◌, map, take}
use Rattle.machine_setup.specs.Prelude.{buffer_by}
use Rattle.machine_setup.proofs.fields.buffers.Given as goal

abbrev pub invariant-loop-b : goal.invariant-loop-b
invariant-loop-b l = l.setups ≡ map (buffer_by l.symbols) (take l.b-index l.written)
