-- The code of the rows of a tree is that of their items, one after another.
use Rattle.std.proofs.Common.{◌≡◌, List, refl, ap, drop}
use Rattle.std.specs.Prelude.{slice_get}
use Rattle.slicc_ast.specs.declared.tree.expression.Operand.{Operand}
use Rattle.slicc_ast.specs.declared.tree.expression.Expr.{Row_of-Expr, end_of-Expr, more_of-Expr, items-the_row-Expr, Row_of-Operand, end_of-Operand, more_of-Operand, items-the_row-Operand, Row_of-Suffix, end_of-Suffix, more_of-Suffix, items-the_row-Suffix}
use Rattle.ruby_value.specs.declared.kind.Kind.{Kind}
use Rattle.body_meaning.specs.Prelude.{Reading}
use Rattle.body_code.specs.declared.left.Left.{Left}
use Rattle.body_code.specs.declared.left.NameAt.{NameAt}
use Rattle.body_code.specs.declared.numbers.BodyNumbers.{BodyNumbers}
use Rattle.body_code.specs.Prelude.{Piece, Segment, after, all_arguments, arguments_by, operands, piece, suffixed, suffixed_all, suffixed_by, ◌⨾◌}
use Rattle.emit_expressions.specs.Parts.{operands_by, operation}

module _ (s : Reading) (n : BodyNumbers) (names : List NameAt) where
  pub operands_of_row : (l : Left) (m : _) (row : Row_of-Operand m) → operands s n names l row ≡ operands_by s n names l (items-the_row-Operand m row)
  operands_of_row l m end_of-Operand = refl
  operands_of_row l m (more_of-Operand operator inner row) =
      let o : Operand = record { operator = operator; value = inner } in
      ap (λ (p : Piece). after (operation s n names o).code p) (operands_of_row (operation s n names o).left _ row)

  pub suffixes_of_row : (l : Left) (m : _) (row : Row_of-Suffix m) → suffixed_all s n names l row ≡ suffixed_by s n names l (items-the_row-Suffix m row)
  suffixes_of_row l m end_of-Suffix = refl
  suffixes_of_row l m (more_of-Suffix first row) =
      ap (λ (p : Piece). after (suffixed s n names l first).code p) (suffixes_of_row (suffixed s n names l first).left _ row)

  pub arguments_of_row : (expected : List Kind) (m : _) (row : Row_of-Expr m) → all_arguments s n names expected row ≡ arguments_by s n names expected (items-the_row-Expr m row)
  arguments_of_row expected m end_of-Expr = refl
  arguments_of_row expected m (more_of-Expr first row) =
      ap (λ (c : Segment). (piece s n names (slice_get expected 0) first).code ⨾ c) (arguments_of_row (drop 1 expected) _ row)
