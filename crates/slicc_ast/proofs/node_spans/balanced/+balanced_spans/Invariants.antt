use Rattle.std.proofs.Common.{◌≡◌, ◌++◌, take}
use Rattle.std.specs.List.{flat_map}
use Rattle.slicc_ast.proofs.SpansOfParts.{part_spans}
use Rattle.slicc_ast.proofs.node_spans.balanced.+balanced_spans.Given as goal

abbrev pub invariant-add_balanced-loop-part : goal.invariant-add_balanced-loop-part
invariant-add_balanced-loop-part l = l.spans ≡ l.initial.spans ++ flat_map part_spans (take l.part-index l.b.parts)
