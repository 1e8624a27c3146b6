-- What an expression that has another one in a box is spelled by, and its level, as the node is made of its parts.
use Rattle.std.proofs.Common.{rules, ◌≡◌, ◌∙◌, ap, ℕ, nat_le, List, Option}
use Rattle.slicc_ast.specs.declared.tree.span.Span.{Span}
use Rattle.slicc_ast.specs.declared.tree.name.TypeName.{TypeName}
use Rattle.slicc_ast.specs.declared.tree.expression.Expr.{Expr}
use Rattle.slicc_ast.specs.declared.tree.expression.Operand.{Operand}
use Rattle.slicc_ast.specs.declared.tree.expression.Suffix.{Suffix}
use Rattle.slicc_ast.specs.declared.tree.expression.Expr.TheViews as views
use Rattle.slicc_ast.specs.declared.tree.expression.Expr.TheViews.{the_lemmas}
use Rattle.slicc_ast.specs.declared.tree.token.Sign.TheVariants.{CloseParenthesis, Comma, Minus, Not, OpenParenthesis}
use Rattle.slicc_ast.specs.declared.tree.token.Word.TheVariants.{IsInvalid, IsValid, StaticCast}
use Rattle.slicc_ast.proofs.Boxes.{Cast_is, Group_is, IsInvalid_is, IsValid_is, Negate_is, Not_is, Operation_is, Postfix_is}
use Rattle.slicc_ast.specs.Prelude.{expr, level_of, list_level, mode_parts, type_name, node, none, part, provided}
use Rattle.slicc_ast.specs.Names.{sign, word}
use Rattle.slicc_ast.proofs.RowsOfExpressions.{level_of_row, operands_of_row, suffixes_of_row}
use Rattle.slicc_expr.specs.Prelude.{operation_node, postfix_node}
use Rattle.slicc_expr.proofs.Rows.{some_of_row}

pub expr_of_Not : (e : Expr) (span : Span)
    → expr (views.Not e span) ≡ node span (provided (nat_le 7 (level_of e)) (sign Not (part (expr e) none)))
expr_of_Not e span = ap expr (Not_is e span)

pub level_of_Not : (e : Expr) (span : Span) → level_of (views.Not e span) ≡ 7
level_of_Not e span = ap level_of (Not_is e span)

pub expr_of_Negate : (e : Expr) (span : Span)
    → expr (views.Negate e span) ≡ node span (provided (nat_le 7 (level_of e)) (sign Minus (part (expr e) none)))
expr_of_Negate e span = ap expr (Negate_is e span)

pub level_of_Negate : (e : Expr) (span : Span) → level_of (views.Negate e span) ≡ 7
level_of_Negate e span = ap level_of (Negate_is e span)

pub expr_of_IsValid : (e : Expr) (span : Span)
    → expr (views.IsValid e span) ≡ node span (word IsValid (sign OpenParenthesis (part (expr e) (sign CloseParenthesis none))))
expr_of_IsValid e span = ap expr (IsValid_is e span)

pub level_of_IsValid : (e : Expr) (span : Span) → level_of (views.IsValid e span) ≡ 9
level_of_IsValid e span = ap level_of (IsValid_is e span)

pub expr_of_IsInvalid : (e : Expr) (span : Span)
    → expr (views.IsInvalid e span) ≡ node span (word IsInvalid (sign OpenParenthesis (part (expr e) (sign CloseParenthesis none))))
expr_of_IsInvalid e span = ap expr (IsInvalid_is e span)

pub level_of_IsInvalid : (e : Expr) (span : Span) → level_of (views.IsInvalid e span) ≡ 9
level_of_IsInvalid e span = ap level_of (IsInvalid_is e span)

pub expr_of_Group : (e : Expr) (span : Span)
    → expr (views.Group e span) ≡ node span (sign OpenParenthesis (part (expr e) (sign CloseParenthesis none)))
expr_of_Group e span = ap expr (Group_is e span)

pub level_of_Group : (e : Expr) (span : Span) → level_of (views.Group e span) ≡ 9
level_of_Group e span = ap level_of (Group_is e span)

pub expr_of_Cast : (target : TypeName) (mode : Option (List ℕ)) (e : Expr) (span : Span)
    → expr (views.Cast target mode e span) ≡ node span (word StaticCast (sign OpenParenthesis (type_name target (sign Comma (mode_parts mode (part (expr e) (sign CloseParenthesis none)))))))
expr_of_Cast target mode e span = ap expr (Cast_is target mode e span)

pub level_of_Cast : (target : TypeName) (mode : Option (List ℕ)) (e : Expr) (span : Span) → level_of (views.Cast target mode e span) ≡ 9
level_of_Cast target mode e span = ap level_of (Cast_is target mode e span)

pub expr_of_Operation : (e : Expr) (others : List Operand) (span : Span) → expr (views.Operation e others span) ≡ operation_node span e others
expr_of_Operation e others span = ap expr (Operation_is e others span) ∙ search (rules, the_lemmas, level_of_row, operands_of_row)

pub level_of_Operation : (e : Expr) (others : List Operand) (span : Span) → level_of (views.Operation e others span) ≡ list_level others
level_of_Operation e others span = ap level_of (Operation_is e others span) ∙ search (rules, the_lemmas, level_of_row)

pub expr_of_Postfix : (e : Expr) (suffixes : List Suffix) (span : Span) → expr (views.Postfix e suffixes span) ≡ postfix_node span e suffixes
expr_of_Postfix e suffixes span = ap expr (Postfix_is e suffixes span) ∙ search (rules, the_lemmas, some_of_row, suffixes_of_row)

pub level_of_Postfix : (e : Expr) (suffixes : List Suffix) (span : Span) → level_of (views.Postfix e suffixes span) ≡ 8
level_of_Postfix e suffixes span = ap level_of (Postfix_is e suffixes span)
