-- Operands of one level and suffixes behind an expression, as parts of the node that they are of.
use Rattle.std.specs.Prelude.{◌==◌, ℕ, Bool, true, false, nat_le, nat_lt, List, [], ◌∷◌}
use Rattle.slicc_ast.specs.declared.tree.span.Span.{Span}
use Rattle.slicc_ast.specs.declared.tree.expression.Expr.{Expr}
use Rattle.slicc_ast.specs.declared.tree.expression.Operand.{Operand}
use Rattle.slicc_ast.specs.declared.tree.expression.Suffix.{Suffix}
use Rattle.slicc_ast.specs.Prelude.{Outline, node, Parts, part, provided, expr, level_of, list_level, operand_list, operator_level, operator_sign, suffix_list}
use Rattle.slicc_ast.specs.Names.{sign}
use Rattle.slicc_ast.specs.Expressions.{suffix}

-- an operator of the level and its operand, and then the parts
abbrev pub operand_parts : ℕ → Operand → Parts → Parts
operand_parts level o parts =
    provided (operator_level o.operator == level) (provided (nat_lt level (level_of o.value))
    (sign (operator_sign o.operator) (part (expr o.value) parts)))

-- operators of the level, each with its operand, and then the parts
abbrev pub operands_before : ℕ → List Operand → Parts → Parts
operands_before level [] parts = parts
operands_before level (first ∷ others) parts = operand_parts level first (operands_before level others parts)

abbrev pub suffixes_before : List Suffix → Parts → Parts
suffixes_before [] parts = parts
suffixes_before (first ∷ others) parts = part (suffix first) (suffixes_before others parts)

-- operands of one level
abbrev pub operation_node : Span → Expr → List Operand → Outline
operation_node span first others =
    node span (provided (nat_lt 0 (list_level others)) (provided (nat_lt (list_level others) (level_of first))
    (part (expr first) (operand_list (list_level others) others))))

abbrev pub is_some : List Suffix → Bool
is_some [] = false
is_some (first ∷ others) = true

-- a primary expression and its suffixes
abbrev pub postfix_node : Span → Expr → List Suffix → Outline
postfix_node span value suffixes =
    node span (provided (is_some suffixes) (provided (nat_le 9 (level_of value)) (part (expr value) (suffix_list suffixes))))
