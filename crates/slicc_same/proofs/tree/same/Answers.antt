use Rattle.slicc_ast.specs.Prelude.{tree}
use Rattle.slicc_same.proofs.Equal.{shapes_equal}
use Rattle.slicc_same.proofs.tree.same.Goals as goal

pub returns : goal.returns
returns c = shapes_equal c.same_tree.result (tree c.args.a.now) (tree c.args.b.now) c.same_tree.ensures
