-- Operands and suffixes are like no token that is behind the name of a member or of a function.
use Rattle.std.proofs.Common.{◌≡◌, ◌==◌, ◌&&◌, ℕ, false, List, [], ◌∷◌, refl, ap}
use Rattle.slicc_ast.specs.declared.tree.expression.Operand.{Operand}
use Rattle.slicc_ast.specs.declared.tree.expression.Suffix.{Suffix}
use Rattle.slicc_ast.specs.declared.tree.expression.Operator.{Operator}
use Rattle.slicc_ast.specs.declared.tree.expression.Operator.TheVariants.{Or}
use Rattle.slicc_ast.specs.declared.tree.token.TokenKind.TheVariants.{Sign}
use Rattle.slicc_ast.specs.declared.tree.token.Sign.TheVariants.{OpenParenthesis, Colon}
use Rattle.slicc_ast.specs.Prelude.{expr, operand_list, operator_sign, suffix_list, Parts, part, shape_in}
use Rattle.slicc_ast.specs.Outline.{token}
use Rattle.slicc_same.specs.Prelude.{alike_in, sign_number}

-- no operator is a colon or an opening parenthesis
not_colon : (op : Operator) → (sign_number (operator_sign op) == 7) ≡ false
not_colon Or = refl
not_colon op = refl

not_open : (op : Operator) → (sign_number (operator_sign op) == 2) ≡ false
not_open Or = refl
not_open op = refl

pub operands_colon : (l : ℕ) (xs : List Operand) (p : Parts) → alike_in (shape_in (operand_list l xs)) (token (Sign Colon) p) ≡ false
operands_colon l [] p = refl
operands_colon l (x ∷ xs) p = ap (λ b. b && alike_in (shape_in (part (expr x.value) (operand_list l xs))) p) (not_colon x.operator)

pub operands_open : (l : ℕ) (xs : List Operand) (p : Parts) → alike_in (shape_in (operand_list l xs)) (token (Sign OpenParenthesis) p) ≡ false
operands_open l [] p = refl
operands_open l (x ∷ xs) p = ap (λ b. b && alike_in (shape_in (part (expr x.value) (operand_list l xs))) p) (not_open x.operator)

pub suffixes_token : (xs : List Suffix) (k : _) (p : Parts) → alike_in (shape_in (suffix_list xs)) (token k p) ≡ false
suffixes_token [] k p = refl
suffixes_token (x ∷ xs) k p = refl
