-- `else if` with what follows it, taken from the lists that a tree keeps them in.
use Rattle.std.specs.Prelude.{◌++◌, List}
use Rattle.slicc_ast.specs.declared.tree.statement.ElseIf.{ElseIf}
use Rattle.slicc_plan.specs.declared.broken.Broken.{Broken}
use Rattle.slicc_plan.specs.declared.built_in.BuiltInType.TheVariants.{Bool}
use Rattle.slicc_plan.specs.Prelude.{Environment, broken_where, statements_judged, of_built_in}

abbrev pub else_if_judged : Environment → ElseIf → List Broken
else_if_judged env e =
    broken_where env (of_built_in Bool) e.condition ++ statements_judged env e.then.statements
