use Rattle.std.proofs.Common.{map, take}
use Rattle.declared_types.specs.Prelude.{declaration_of}
use Rattle.slicc_names.proofs.GlobalRepeats.{AfterDeclarations}
use Rattle.slicc_names.proofs.twice.in_protocol.Given as goal

abbrev pub invariant-loop-d : goal.invariant-loop-d
invariant-loop-d l = AfterDeclarations (map declaration_of (take l.d-index l.declarations)) l.names l.fn.first l.first
