use Rattle.std.proofs.Common.{◌≡◌, take, flat_map}
use Rattle.slicc_flow.specs.Prelude.{decl_checks}
use Rattle.slicc_flow.proofs.machine.machine_checks.Given as goal

abbrev pub invariant-loop-d : goal.invariant-loop-d
invariant-loop-d l = l.list ≡ flat_map (decl_checks l.names l.actions) (take l.d-index l.m.declarations)
