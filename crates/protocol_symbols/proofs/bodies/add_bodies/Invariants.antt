use Rattle.std.proofs.Common.{take}
use Rattle.type_numbers.specs.Prelude.{trees_of}
use Rattle.protocol_symbols.specs.Prelude.{AddBodies}
use Rattle.protocol_symbols.proofs.bodies.add_bodies.Given as goal

abbrev pub invariant-loop-number : goal.invariant-loop-number
invariant-loop-number l = AddBodies (trees_of l.types) l.m l.buffers (take l.number l.written) l.initial.bodies l.bodies
