use Rattle.std.proofs.Common.{◌≡◌, ◌++◌, take}
use Rattle.std.specs.List.{flat_map}
use Rattle.slicc_ast.proofs.node_spans.add_each.Given as goal

abbrev pub invariant-loop-item : goal.invariant-loop-item
invariant-loop-item g l = l.spans ≡ l.initial.spans ++ flat_map g.T.Spanned.spans_at (take l.item-index l.items)
