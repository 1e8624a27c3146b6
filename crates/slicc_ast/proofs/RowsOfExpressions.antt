-- What the children of an expression are spelled by, from the list of them.
use Rattle.std.proofs.Common.{◌≡◌, ◌==◌, ℕ, nat_lt, refl, ap}
use Rattle.slicc_ast.specs.declared.tree.expression.Expr.{Row_of-Expr, end_of-Expr, more_of-Expr, items-the_row-Expr, Row_of-Operand, end_of-Operand, more_of-Operand, items-the_row-Operand, Row_of-Suffix, end_of-Suffix, more_of-Suffix, items-the_row-Suffix}
use Rattle.slicc_ast.specs.declared.tree.token.Sign.TheVariants.{Comma}
use Rattle.slicc_ast.specs.Prelude.{part, provided, expr, level_of, row_level, list_level, operator_level, operator_sign, operand_row, operand_list, suffix_row, suffix_list, args_row, more_args_row, args_list, more_args}
use Rattle.slicc_ast.specs.Names.{sign}
use Rattle.slicc_ast.specs.Expressions.{suffix}

pub more_args_of_row : (n : _) (row : Row_of-Expr n) → more_args_row row ≡ more_args (items-the_row-Expr n row)
more_args_of_row n end_of-Expr = refl
more_args_of_row n (more_of-Expr first row) = ap (λ parts. sign Comma (part (expr first) parts)) (more_args_of_row _ row)

pub args_of_row : (n : _) (row : Row_of-Expr n) → args_row row ≡ args_list (items-the_row-Expr n row)
args_of_row n end_of-Expr = refl
args_of_row n (more_of-Expr first row) = ap (λ parts. part (expr first) parts) (more_args_of_row _ row)

pub level_of_row : (n : _) (row : Row_of-Operand n) → row_level row ≡ list_level (items-the_row-Operand n row)
level_of_row n end_of-Operand = refl
level_of_row n (more_of-Operand operator value row) = refl

pub operands_of_row : (level : ℕ) (n : _) (row : Row_of-Operand n) → operand_row level row ≡ operand_list level (items-the_row-Operand n row)
operands_of_row level n end_of-Operand = refl
operands_of_row level n (more_of-Operand operator value row) =
    ap (λ parts. provided (operator_level operator == level) (provided (nat_lt level (level_of value)) (sign (operator_sign operator) (part (expr value) parts))))
    (operands_of_row level _ row)

pub suffixes_of_row : (n : _) (row : Row_of-Suffix n) → suffix_row row ≡ suffix_list (items-the_row-Suffix n row)
suffixes_of_row n end_of-Suffix = refl
suffixes_of_row n (more_of-Suffix first row) = ap (λ parts. part (suffix first) parts) (suffixes_of_row _ row)
