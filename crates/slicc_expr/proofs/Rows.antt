-- What the suffixes of an expression are, from the list of them.
use Rattle.std.proofs.Common.{◌≡◌, refl}
use Rattle.slicc_ast.specs.declared.tree.expression.Expr.{Row_of-Suffix, end_of-Suffix, more_of-Suffix, items-the_row-Suffix}
use Rattle.slicc_ast.specs.Prelude.{has_suffix}
use Rattle.slicc_expr.specs.Prelude.{is_some}

pub some_of_row : (n : _) (row : Row_of-Suffix n) → has_suffix row ≡ is_some (items-the_row-Suffix n row)
some_of_row n end_of-Suffix = refl
some_of_row n (more_of-Suffix first row) = refl
