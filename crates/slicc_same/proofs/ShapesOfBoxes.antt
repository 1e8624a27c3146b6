-- The shape of an expression that has another one in a box.
use Rattle.std.proofs.Common.{rules, ◌≡◌, ◌∙◌, ap, Option, List, ℕ}
use Rattle.slicc_ast.specs.declared.tree.span.Span.{Span}
use Rattle.slicc_ast.specs.declared.tree.name.TypeName.{TypeName}
use Rattle.slicc_ast.specs.declared.tree.expression.Expr.{Expr}
use Rattle.slicc_ast.specs.declared.tree.expression.Operand.{Operand}
use Rattle.slicc_ast.specs.declared.tree.expression.Suffix.{Suffix}
use Rattle.slicc_ast.specs.declared.tree.expression.Expr.TheViews as views
use Rattle.slicc_ast.specs.declared.tree.expression.Expr.TheViews.{the_lemmas}
use Rattle.slicc_ast.specs.declared.tree.token.Sign.TheVariants.{OpenParenthesis, CloseParenthesis, Comma, Minus, Not}
use Rattle.slicc_ast.specs.declared.tree.token.Word.TheVariants.{IsValid, IsInvalid, StaticCast}
use Rattle.slicc_ast.proofs.Boxes.{Operation_is, Postfix_is, Not_is, Negate_is, IsValid_is, IsInvalid_is, Cast_is, Group_is}
use Rattle.slicc_ast.specs.Prelude.{expr, list_level, mode_parts, operand_list, suffix_list, type_name, node, none, no_span, part, shape_of, shape_in}
use Rattle.slicc_ast.specs.Names.{sign, word}
use Rattle.slicc_ast.proofs.RowsOfExpressions.{level_of_row, operands_of_row, suffixes_of_row}

pub shape_of_Not : (e : Expr) (span : Span) → shape_of (expr (views.Not e span)) ≡ node no_span (sign Not (part (shape_of (expr e)) none))
shape_of_Not e span = ap (λ x. shape_of (expr x)) (Not_is e span)

pub shape_of_Negate : (e : Expr) (span : Span) → shape_of (expr (views.Negate e span)) ≡ node no_span (sign Minus (part (shape_of (expr e)) none))
shape_of_Negate e span = ap (λ x. shape_of (expr x)) (Negate_is e span)

pub shape_of_IsValid : (e : Expr) (span : Span) → shape_of (expr (views.IsValid e span)) ≡ node no_span (word IsValid (sign OpenParenthesis (part (shape_of (expr e)) (sign CloseParenthesis none))))
shape_of_IsValid e span = ap (λ x. shape_of (expr x)) (IsValid_is e span)

pub shape_of_IsInvalid : (e : Expr) (span : Span) → shape_of (expr (views.IsInvalid e span)) ≡ node no_span (word IsInvalid (sign OpenParenthesis (part (shape_of (expr e)) (sign CloseParenthesis none))))
shape_of_IsInvalid e span = ap (λ x. shape_of (expr x)) (IsInvalid_is e span)

pub shape_of_Group : (e : Expr) (span : Span) → shape_of (expr (views.Group e span)) ≡ node no_span (sign OpenParenthesis (part (shape_of (expr e)) (sign CloseParenthesis none)))
shape_of_Group e span = ap (λ x. shape_of (expr x)) (Group_is e span)

pub shape_of_Cast : (target : TypeName) (mode : Option (List ℕ)) (e : Expr) (span : Span)
    → shape_of (expr (views.Cast target mode e span)) ≡ node no_span (word StaticCast (sign OpenParenthesis (shape_in (type_name target (sign Comma (mode_parts mode (part (expr e) (sign CloseParenthesis none))))))))
shape_of_Cast target mode e span = ap (λ x. shape_of (expr x)) (Cast_is target mode e span)

pub shape_of_Operation : (e : Expr) (others : List Operand) (span : Span) → shape_of (expr (views.Operation e others span)) ≡ node no_span (part (shape_of (expr e)) (shape_in (operand_list (list_level others) others)))
shape_of_Operation e others span = ap (λ x. shape_of (expr x)) (Operation_is e others span) ∙ search (rules, the_lemmas, level_of_row, operands_of_row)

pub shape_of_Postfix : (e : Expr) (suffixes : List Suffix) (span : Span) → shape_of (expr (views.Postfix e suffixes span)) ≡ node no_span (part (shape_of (expr e)) (shape_in (suffix_list suffixes)))
shape_of_Postfix e suffixes span = ap (λ x. shape_of (expr x)) (Postfix_is e suffixes span) ∙ search (rules, the_lemmas, suffixes_of_row)
