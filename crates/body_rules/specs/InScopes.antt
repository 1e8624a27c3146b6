-- What is broken in the bodies of a scope's machine: right in a protocol there is no body.
use Rattle.std.specs.Prelude.{List, []}
use Rattle.slicc_ast.specs.declared.tree.item.Tree.{Tree}
use Rattle.slicc_plan.specs.declared.broken.Broken.{Broken}
use Rattle.slicc_plan.specs.Prelude.{broken_in_machine, Scope, everywhere, within}

abbrev pub broken_within : List Tree → Scope → List Broken
broken_within trees everywhere = []
broken_within trees (within m) = broken_in_machine trees m
