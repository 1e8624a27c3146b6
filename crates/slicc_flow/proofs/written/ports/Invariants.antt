use Rattle.std.proofs.Common.{◌≡◌, take, flat_map}
use Rattle.slicc_plan.specs.BodyParts.{port_in}
use Rattle.slicc_flow.specs.Prelude.{written_list}
use Rattle.slicc_flow.proofs.written.ports.Given as goal

abbrev pub invariant-loop-d : goal.invariant-loop-d
invariant-loop-d l = written_list l.list ≡ flat_map port_in (take l.d-index l.m.declarations)
