use Rattle.std.proofs.Common.{rules}
use Rattle.slicc_ast.specs.declared.tree.expression.Expr.TheViews.{the_lemmas}
use Rattle.slicc_expr.proofs.MadeNodes.{expr_of_Postfix, level_of_Postfix}
use Rattle.slicc_expr.proofs.nodes.postfix.Goals as goal

pub returns-clause-spells : goal.returns-clause-spells
returns-clause-spells c = search (rules, the_lemmas, expr_of_Postfix)

pub returns-clause-level : goal.returns-clause-level
returns-clause-level c = search (rules, the_lemmas, level_of_Postfix)
