-- Operands, suffixes and arguments as lists: the rows of a tree do what their items do, one after another.
use mathlib.Core.Path.{fun_ext}
use Rattle.std.proofs.Common.{◌≡◌, List, refl, ap}
use Rattle.slicc_ast.specs.declared.tree.expression.Expr.{Row_of-Expr, end_of-Expr, more_of-Expr, items-the_row-Expr, Row_of-Operand, end_of-Operand, more_of-Operand, items-the_row-Operand, Row_of-Suffix, end_of-Suffix, more_of-Suffix, items-the_row-Suffix}
use Rattle.ruby_value.specs.declared.value.Value.{Value}
use Rattle.acts.specs.Prelude.{Acting, ◌>>=◌}
use Rattle.body_meaning.specs.declared.frame.Frame.{Frame}
use Rattle.body_meaning.specs.declared.thing.Thing.{Thing}
use Rattle.body_meaning.specs.Prelude.{Reading, Calls, each, operand_step, operands, operated, suffixed, suffixed_all, value, value_step, values, with_value}

module _ (s : Reading) (calls : Calls) (frame : Frame) where
  pub operands_of_row : (left : Value) (n : _) (row : Row_of-Operand n) → operands s calls frame left row ≡ each (operand_step s calls frame) left (items-the_row-Operand n row)
  operands_of_row left n end_of-Operand = refl
  operands_of_row left n (more_of-Operand operator inner row) =
      ap (λ (next : Value → Acting Value). operated operator left (value s calls frame inner) >>= next) (fun_ext (λ v. operands_of_row v _ row))

  pub suffixes_of_row : (t : Thing) (n : _) (row : Row_of-Suffix n) → suffixed_all s calls frame t row ≡ each (suffixed s calls frame) t (items-the_row-Suffix n row)
  suffixes_of_row t n end_of-Suffix = refl
  suffixes_of_row t n (more_of-Suffix first row) =
      ap (λ (next : Thing → Acting Thing). suffixed s calls frame t first >>= next) (fun_ext (λ u. suffixes_of_row u _ row))

  pub values_of_row : (before : List Value) (n : _) (row : Row_of-Expr n) → values s calls frame before row ≡ each (value_step s calls frame) before (items-the_row-Expr n row)
  values_of_row before n end_of-Expr = refl
  values_of_row before n (more_of-Expr first row) =
      ap (λ (next : List Value → Acting (List Value)). with_value before (value s calls frame first) >>= next) (fun_ext (λ vs. values_of_row vs _ row))
