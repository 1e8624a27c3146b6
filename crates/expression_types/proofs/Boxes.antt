-- What is told of an expression that has another one in a box, and where it is.
use Rattle.std.proofs.Common.{rules, ◌≡◌, ◌∙◌, ap, List, ℕ, Option}
use Rattle.slicc_ast.specs.declared.tree.span.Span.{Span}
use Rattle.slicc_ast.specs.declared.tree.name.Name.{Name}
use Rattle.slicc_ast.specs.declared.tree.name.TypeName.{TypeName}
use Rattle.slicc_ast.specs.declared.tree.expression.Args.{Args}
use Rattle.slicc_ast.specs.declared.tree.expression.Expr.{Expr}
use Rattle.slicc_ast.specs.declared.tree.expression.Operand.{Operand}
use Rattle.slicc_ast.specs.declared.tree.expression.Suffix.{Suffix}
use Rattle.slicc_ast.specs.declared.tree.expression.Expr.TheViews as views
use Rattle.slicc_ast.specs.declared.tree.expression.Expr.TheViews.{the_lemmas}
use Rattle.slicc_ast.proofs.Boxes.{Operation_is, Postfix_is, Not_is, Negate_is, IsValid_is, IsInvalid_is, Cast_is, Group_is}
use Rattle.slicc_plan.specs.declared.built_in.BuiltInType.TheVariants.{Int, Bool}
use Rattle.slicc_plan.specs.Prelude.{named_call, Environment, type_named, cast_to, from_operand, given_at, span_of, typed, any_line, of_built_in}
use Rattle.expression_types.specs.Prelude.{all_arguments, all_operands, all_suffixes}
use Rattle.expression_types.proofs.Rows.{arguments_of_row, operands_of_row, suffixes_of_row}

pub typed_of_Operation : (env : Environment) (e : Expr) (others : List Operand) (span : Span) → typed env (views.Operation e others span) ≡ all_operands env (span_of e) (typed env e) others
typed_of_Operation env e others span =
    ap (typed env) (Operation_is e others span) ∙ search (rules, the_lemmas, operands_of_row env)

pub typed_of_Not : (env : Environment) (e : Expr) (span : Span) → typed env (views.Not e span) ≡ from_operand env (of_built_in Bool) Bool (given_at (span_of e) (typed env e))
typed_of_Not env e span = ap (typed env) (Not_is e span)

pub typed_of_Negate : (env : Environment) (e : Expr) (span : Span) → typed env (views.Negate e span) ≡ from_operand env (of_built_in Int) Int (given_at (span_of e) (typed env e))
typed_of_Negate env e span = ap (typed env) (Negate_is e span)

pub typed_of_Postfix : (env : Environment) (e : Expr) (suffixes : List Suffix) (span : Span) → typed env (views.Postfix e suffixes span) ≡ all_suffixes env span (typed env e) suffixes
typed_of_Postfix env e suffixes span =
    ap (typed env) (Postfix_is e suffixes span) ∙ search (rules, the_lemmas, suffixes_of_row env)

pub typed_of_Call : (env : Environment) (n : Name) (arguments : Args) (span : Span) → typed env (views.Call n arguments span) ≡ named_call env span n (all_arguments env arguments.items)
typed_of_Call env n arguments span = search (rules, the_lemmas, arguments_of_row env)

pub typed_of_IsValid : (env : Environment) (e : Expr) (span : Span) → typed env (views.IsValid e span) ≡ from_operand env any_line Bool (given_at (span_of e) (typed env e))
typed_of_IsValid env e span = ap (typed env) (IsValid_is e span)

pub typed_of_IsInvalid : (env : Environment) (e : Expr) (span : Span) → typed env (views.IsInvalid e span) ≡ from_operand env any_line Bool (given_at (span_of e) (typed env e))
typed_of_IsInvalid env e span = ap (typed env) (IsInvalid_is e span)

pub typed_of_Cast : (env : Environment) (target : TypeName) (mode : Option (List ℕ)) (e : Expr) (span : Span) → typed env (views.Cast target mode e span) ≡ cast_to env target (given_at (span_of e) (typed env e)) (type_named env target.text)
typed_of_Cast env target mode e span = ap (typed env) (Cast_is target mode e span)

pub typed_of_Group : (env : Environment) (e : Expr) (span : Span) → typed env (views.Group e span) ≡ typed env e
typed_of_Group env e span = ap (typed env) (Group_is e span)
