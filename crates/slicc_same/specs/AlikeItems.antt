-- Whether two items of a list of a tree are the same but for spans.
use Rattle.std.specs.Prelude.{◌==◌, ◌&&◌, Bool, true, false, Option, Some, None}
use Rattle.std.specs.Str.{bytes_eq}
use Rattle.slicc_ast.specs.declared.tree.balanced.Part.{Part}
use Rattle.slicc_ast.specs.declared.tree.declaration.State.{State}
use Rattle.slicc_ast.specs.declared.tree.declaration.Symbol.{Symbol}
use Rattle.slicc_ast.specs.declared.tree.expression.Operand.{Operand}
use Rattle.slicc_ast.specs.declared.tree.expression.Expr.{Expr}
use Rattle.slicc_ast.specs.declared.tree.expression.Suffix.{Suffix}
use Rattle.slicc_ast.specs.declared.tree.name.Name.{Name}
use Rattle.slicc_ast.specs.declared.tree.statement.ElseIf.{ElseIf}
use Rattle.slicc_ast.specs.declared.tree.statement.Block.{Block}
use Rattle.slicc_ast.specs.declared.tree.statement.Stmt.{Stmt}
use Rattle.slicc_ast.specs.Prelude.{none, pair_list, expr, operator_sign, block_end, stmt, stmt_list}
use Rattle.slicc_ast.specs.Names.{balanced_part}
use Rattle.slicc_ast.specs.Expressions.{suffix}
use Rattle.slicc_same.specs.Alike.{same_parts, same_shape, sign_number}

abbrev pub alike_part : Part → Part → Bool
alike_part a b = same_parts (balanced_part a none) (balanced_part b none)

abbrev pub alike_name : Name → Name → Bool
alike_name a b = bytes_eq a.text b.text

-- NAME pairs ;
abbrev pub alike_symbol : Symbol → Symbol → Bool
alike_symbol a b = alike_name a.name b.name && same_parts (pair_list a.pairs.items) (pair_list b.pairs.items)

-- NAME , NAME : NAME pairs ;
abbrev pub alike_state : State → State → Bool
alike_state a b =
    alike_name a.name b.name && alike_name a.owner b.owner && alike_name a.permission b.permission
    && same_parts (pair_list a.pairs.items) (pair_list b.pairs.items)

abbrev pub alike_expr : Expr → Expr → Bool
alike_expr a b = same_shape (expr a) (expr b)

abbrev pub alike_suffix : Suffix → Suffix → Bool
alike_suffix a b = same_shape (suffix a) (suffix b)

-- an operator and its operand
abbrev pub alike_operand : Operand → Operand → Bool
alike_operand a b =
    (sign_number (operator_sign a.operator) == sign_number (operator_sign b.operator))
    && same_shape (expr a.value) (expr b.value)

-- `else if ( expr ) block`
abbrev pub alike_else_if : ElseIf → ElseIf → Bool
alike_else_if a b =
    same_shape (expr a.condition) (expr b.condition)
    && same_parts (stmt_list a.then.statements block_end) (stmt_list b.then.statements block_end)

abbrev pub alike_stmt : Stmt → Stmt → Bool
alike_stmt a b = same_shape (stmt a) (stmt b)

abbrev pub alike_else : Option Block → Option Block → Bool
alike_else None None = true
alike_else (Some a) (Some b) = same_parts (stmt_list a.statements block_end) (stmt_list b.statements block_end)
alike_else _ _ = false
