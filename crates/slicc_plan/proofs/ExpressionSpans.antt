-- Where an expression is that has another one in a box.
use Rattle.std.proofs.Common.{◌≡◌, ap, List, ℕ, Option}
use Rattle.slicc_ast.specs.declared.tree.span.Span.{Span}
use Rattle.slicc_ast.specs.declared.tree.name.TypeName.{TypeName}
use Rattle.slicc_ast.specs.declared.tree.expression.Expr.{Expr}
use Rattle.slicc_ast.specs.declared.tree.expression.Operand.{Operand}
use Rattle.slicc_ast.specs.declared.tree.expression.Suffix.{Suffix}
use Rattle.slicc_ast.specs.declared.tree.expression.Expr.TheViews as views
use Rattle.slicc_ast.proofs.Boxes.{Operation_is, Postfix_is, Not_is, Negate_is, IsValid_is, IsInvalid_is, Cast_is, Group_is}
use Rattle.slicc_plan.specs.Prelude.{span_of}

pub span_of_Operation : (e : Expr) (others : List Operand) (span : Span) → span_of (views.Operation e others span) ≡ span
span_of_Operation e others span = ap span_of (Operation_is e others span)

pub span_of_Not : (e : Expr) (span : Span) → span_of (views.Not e span) ≡ span
span_of_Not e span = ap span_of (Not_is e span)

pub span_of_Negate : (e : Expr) (span : Span) → span_of (views.Negate e span) ≡ span
span_of_Negate e span = ap span_of (Negate_is e span)

pub span_of_Postfix : (e : Expr) (suffixes : List Suffix) (span : Span) → span_of (views.Postfix e suffixes span) ≡ span
span_of_Postfix e suffixes span = ap span_of (Postfix_is e suffixes span)

pub span_of_IsValid : (e : Expr) (span : Span) → span_of (views.IsValid e span) ≡ span
span_of_IsValid e span = ap span_of (IsValid_is e span)

pub span_of_IsInvalid : (e : Expr) (span : Span) → span_of (views.IsInvalid e span) ≡ span
span_of_IsInvalid e span = ap span_of (IsInvalid_is e span)

pub span_of_Cast : (target : TypeName) (mode : Option (List ℕ)) (e : Expr) (span : Span) → span_of (views.Cast target mode e span) ≡ span
span_of_Cast target mode e span = ap span_of (Cast_is target mode e span)

pub span_of_Group : (e : Expr) (span : Span) → span_of (views.Group e span) ≡ span
span_of_Group e span = ap span_of (Group_is e span)

pub ruleset span_of_boxes = (span_of_Operation, span_of_Not, span_of_Negate, span_of_Postfix, span_of_IsValid, span_of_IsInvalid, span_of_Cast, span_of_Group)
