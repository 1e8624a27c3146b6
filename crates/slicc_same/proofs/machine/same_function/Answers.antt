use Rattle.std.proofs.Common.{rules, ◌≡◌, false, ◌∙◌}
use Rattle.slicc_same.proofs.Bools.{and_false}
use Rattle.slicc_same.proofs.MachineLists.{body_brace}
use Rattle.slicc_ast.specs.Prelude.{function, shape_of}
use Rattle.slicc_same.specs.Prelude.{same_shape}
use Rattle.slicc_same.proofs.Symmetric.{symmetric}
use Rattle.slicc_same.proofs.machine.same_function.Goals as goal

pub returns-in_default-2 : goal.returns-in_default-2
returns-in_default-2 c =
    let turned : false ≡ same_shape (function c.args.b.now) (function c.args.a.now) = search (rules, body_brace, and_false) in
    turned ∙ symmetric (shape_of (function c.args.b.now)) (shape_of (function c.args.a.now))
