-- Lists of the parts of expressions are alike where their items are.
use Rattle.std.proofs.Common.{rules, ◌≡◌, ◌==◌, ◌&&◌, ℕ, Bool, true, false, List, [], ◌∷◌, length, refl, ap}
use Rattle.slicc_ast.specs.declared.tree.expression.Expr.{Expr}
use Rattle.slicc_ast.specs.declared.tree.expression.Operand.{Operand}
use Rattle.slicc_ast.specs.declared.tree.expression.Suffix.{Suffix}
use Rattle.slicc_ast.specs.Prelude.{args_list, more_args, operand_list, suffix_list}
use Rattle.slicc_same.specs.Prelude.{all_alike, same_parts, alike_expr, alike_operand, alike_suffix}

more_args_alike : (xs ys : List Expr) → same_parts (more_args xs) (more_args ys) ≡ all_alike alike_expr xs ys
more_args_alike [] [] = refl
more_args_alike [] (y ∷ ys) = refl
more_args_alike (x ∷ xs) [] = refl
more_args_alike (x ∷ xs) (y ∷ ys) = ap (λ b. alike_expr x y && b) (more_args_alike xs ys)

pub args_alike : (xs ys : List Expr) → same_parts (args_list xs) (args_list ys) ≡ all_alike alike_expr xs ys
args_alike [] [] = refl
args_alike [] (y ∷ ys) = refl
args_alike (x ∷ xs) [] = refl
args_alike (x ∷ xs) (y ∷ ys) = ap (λ b. alike_expr x y && b) (more_args_alike xs ys)

pub suffixes_alike : (xs ys : List Suffix) → same_parts (suffix_list xs) (suffix_list ys) ≡ all_alike alike_suffix xs ys
suffixes_alike [] [] = refl
suffixes_alike [] (y ∷ ys) = refl
suffixes_alike (x ∷ xs) [] = refl
suffixes_alike (x ∷ xs) (y ∷ ys) = ap (λ b. alike_suffix x y && b) (suffixes_alike xs ys)

step : (a b r s : Bool) → r ≡ s → a && (b && r) ≡ (a && b) && s
step true b r s is = ap (λ x. b && x) is
step false b r s is = refl

pub operands_alike : (l m : ℕ) (xs ys : List Operand) → same_parts (operand_list l xs) (operand_list m ys) ≡ all_alike alike_operand xs ys
operands_alike l m [] [] = refl
operands_alike l m [] (y ∷ ys) = refl
operands_alike l m (x ∷ xs) [] = refl
operands_alike l m (x ∷ xs) (y ∷ ys) = step _ (alike_expr x.value y.value) _ _ (operands_alike l m xs ys)

-- operators are like suffixes only where there is none of either
pub operands_suffixes : (l : ℕ) (xs : List Operand) (ys : List Suffix) → same_parts (operand_list l xs) (suffix_list ys) ≡ (length xs == 0) && (length ys == 0)
operands_suffixes l [] [] = refl
operands_suffixes l [] (y ∷ ys) = search rules
operands_suffixes l (x ∷ xs) [] = search rules
operands_suffixes l (x ∷ xs) (y ∷ ys) = search rules

pub suffixes_operands : (l : ℕ) (xs : List Operand) (ys : List Suffix) → same_parts (suffix_list ys) (operand_list l xs) ≡ (length xs == 0) && (length ys == 0)
suffixes_operands l [] [] = refl
suffixes_operands l [] (y ∷ ys) = search rules
suffixes_operands l (x ∷ xs) [] = search rules
suffixes_operands l (x ∷ xs) (y ∷ ys) = search rules
