-- What is wrong with the ways through the bodies that are declared in a scope, taken from the machines to any scope: right in a
-- protocol no body is declared.
use Rattle.std.specs.Prelude.{false, not, Some, List, [], flat_map}
use Rattle.slicc_ast.specs.declared.tree.item.Tree.{Tree}
use Rattle.slicc_ast.specs.declared.tree.declaration.Function.TheVariants.{Plain}
use Rattle.slicc_plan.specs.declared.broken.Broken.{Broken}
use Rattle.slicc_plan.specs.declared.built_in.BuiltInType.TheVariants.{Void}
use Rattle.slicc_plan.specs.Declarations.{in_port}
use Rattle.slicc_plan.specs.Prelude.{Declaration, Scope, action, declared_in, function, wrong_ends, wrong_returns, is_built_in, type_in}

abbrev pub ways_of : List Tree → Scope → Declaration → List Broken
ways_of trees scope (in_port p) = wrong_returns false p.body
ways_of trees scope (action a) = wrong_returns false a.body
ways_of trees scope (function (Plain kind called formals attributes (Some body) span)) =
    wrong_ends (not (is_built_in Void (type_in trees scope kind.text))) span body
ways_of trees scope _ = []

abbrev pub ways_in : List Tree → Scope → List Broken
ways_in trees scope = flat_map (ways_of trees scope) (declared_in trees scope)
