-- The spans of an expression that has another one in a box.
use Rattle.std.proofs.Common.{rules, ◌≡◌, ◌++◌, ◌∷◌, [], ◌∙◌, ap, append-nil, Option, List, ℕ, None, Some}
use Rattle.std.specs.List.{flat_map}
use Rattle.slicc_ast.specs.declared.tree.span.Span.{Span}
use Rattle.slicc_ast.specs.declared.tree.name.Name.{Name}
use Rattle.slicc_ast.specs.declared.tree.name.TypeName.{TypeName}
use Rattle.slicc_ast.specs.declared.tree.expression.Args.{Args}
use Rattle.slicc_ast.specs.declared.tree.expression.Expr.{Expr}
use Rattle.slicc_ast.specs.declared.tree.expression.Operand.{Operand}
use Rattle.slicc_ast.specs.declared.tree.expression.Suffix.{Suffix}
use Rattle.slicc_ast.specs.declared.tree.expression.Expr.TheViews as views
use Rattle.slicc_ast.specs.declared.tree.expression.Expr.TheViews.{the_lemmas}
use Rattle.slicc_ast.proofs.Boxes.{Operation_is, Postfix_is, Not_is, Negate_is, IsValid_is, IsInvalid_is, Cast_is, Group_is}
use Rattle.slicc_ast.specs.Expressions.{suffix}
use Rattle.slicc_ast.specs.Prelude.{args, expr, spans_of, operand_spans, suffix_spans}
use Rattle.slicc_ast.proofs.SpansOfLists.{args_row_spans, operand_row_spans, suffix_row_spans}

pub spans_of_Not : (e : Expr) (span : Span) → spans_of (expr (views.Not e span)) ≡ span ∷ spans_of (expr e)
spans_of_Not e span = ap (λ x. spans_of (expr x)) (Not_is e span) ∙ ap (λ xs. span ∷ xs) (append-nil (spans_of (expr e)))

pub spans_of_Negate : (e : Expr) (span : Span) → spans_of (expr (views.Negate e span)) ≡ span ∷ spans_of (expr e)
spans_of_Negate e span = ap (λ x. spans_of (expr x)) (Negate_is e span) ∙ ap (λ xs. span ∷ xs) (append-nil (spans_of (expr e)))

pub spans_of_IsValid : (e : Expr) (span : Span) → spans_of (expr (views.IsValid e span)) ≡ span ∷ spans_of (expr e)
spans_of_IsValid e span = ap (λ x. spans_of (expr x)) (IsValid_is e span) ∙ ap (λ xs. span ∷ xs) (append-nil (spans_of (expr e)))

pub spans_of_IsInvalid : (e : Expr) (span : Span) → spans_of (expr (views.IsInvalid e span)) ≡ span ∷ spans_of (expr e)
spans_of_IsInvalid e span = ap (λ x. spans_of (expr x)) (IsInvalid_is e span) ∙ ap (λ xs. span ∷ xs) (append-nil (spans_of (expr e)))

pub spans_of_Group : (e : Expr) (span : Span) → spans_of (expr (views.Group e span)) ≡ span ∷ spans_of (expr e)
spans_of_Group e span = ap (λ x. spans_of (expr x)) (Group_is e span) ∙ ap (λ xs. span ∷ xs) (append-nil (spans_of (expr e)))

pub spans_of_Cast : (target : TypeName) (mode : Option (List ℕ)) (e : Expr) (span : Span) → spans_of (expr (views.Cast target mode e span)) ≡ span ∷ target.span ∷ spans_of (expr e)
spans_of_Cast target None e span = ap (λ x. spans_of (expr x)) (Cast_is target None e span) ∙ ap (λ xs. span ∷ target.span ∷ xs) (append-nil (spans_of (expr e)))
spans_of_Cast target (Some text) e span = ap (λ x. spans_of (expr x)) (Cast_is target (Some text) e span) ∙ ap (λ xs. span ∷ target.span ∷ xs) (append-nil (spans_of (expr e)))

pub spans_of_Operation : (e : Expr) (others : List Operand) (span : Span) → spans_of (expr (views.Operation e others span)) ≡ (span ∷ spans_of (expr e)) ++ flat_map operand_spans others
spans_of_Operation e others span = ap (λ x. spans_of (expr x)) (Operation_is e others span) ∙ search (rules, the_lemmas, operand_row_spans)

pub spans_of_Postfix : (e : Expr) (suffixes : List Suffix) (span : Span) → spans_of (expr (views.Postfix e suffixes span)) ≡ (span ∷ spans_of (expr e)) ++ flat_map suffix_spans suffixes
spans_of_Postfix e suffixes span = ap (λ x. spans_of (expr x)) (Postfix_is e suffixes span) ∙ search (rules, the_lemmas, suffix_row_spans)

pub spans_of_Call : (name : Name) (arguments : Args) (span : Span) → spans_of (expr (views.Call name arguments span)) ≡ (span ∷ name.span ∷ []) ++ spans_of (args arguments)
spans_of_Call name arguments span = search (rules, the_lemmas, args_row_spans, append-nil)

pub spans_of_Method : (name : Name) (arguments : Args) (span : Span) → spans_of (suffix (views.Method name arguments span)) ≡ (span ∷ name.span ∷ []) ++ spans_of (args arguments)
spans_of_Method name arguments span = search (rules, the_lemmas, args_row_spans, append-nil)
