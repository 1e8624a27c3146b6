-- The parts of an expression that has another one in a box.
use Rattle.std.proofs.Common.{rules, ◌≡◌, ◌++◌, ◌∷◌, ◌∙◌, ap, Option, List, ℕ}
use Rattle.std.specs.List.{flat_map}
use Rattle.slicc_ast.specs.declared.tree.span.Span.{Span}
use Rattle.slicc_ast.specs.declared.tree.name.TypeName.{TypeName}
use Rattle.slicc_ast.specs.declared.tree.expression.Expr.{Expr}
use Rattle.slicc_ast.specs.declared.tree.expression.Operand.{Operand}
use Rattle.slicc_ast.specs.declared.tree.expression.Suffix.{Suffix}
use Rattle.slicc_ast.specs.declared.tree.expression.Expr.TheViews as views
use Rattle.slicc_ast.specs.declared.tree.expression.Expr.TheViews.{the_lemmas}
use Rattle.slicc_ast.proofs.Boxes.{Not_is, Negate_is, IsValid_is, IsInvalid_is, Cast_is, Group_is, Operation_is, Postfix_is}
use Rattle.slicc_plan.specs.declared.part.Part.TheVariants.{Plain}
use Rattle.slicc_plan.specs.Prelude.{Names, expr_parts, name_in}
use Rattle.slicc_flow.specs.Prelude.{operand_parts, suffix_list_parts}
use Rattle.slicc_flow.proofs.PartLists.{operand_rows, suffix_rows}

pub name_in_Group : (e : Expr) (span : Span) → name_in (views.Group e span) ≡ name_in e
name_in_Group e span = ap name_in (Group_is e span)

pub expr_parts_of_Not : (names : Names) (e : Expr) (span : Span) → expr_parts names (views.Not e span) ≡ Plain ∷ expr_parts names e
expr_parts_of_Not names e span = ap (expr_parts names) (Not_is e span)

pub expr_parts_of_Negate : (names : Names) (e : Expr) (span : Span) → expr_parts names (views.Negate e span) ≡ Plain ∷ expr_parts names e
expr_parts_of_Negate names e span = ap (expr_parts names) (Negate_is e span)

pub expr_parts_of_IsValid : (names : Names) (e : Expr) (span : Span) → expr_parts names (views.IsValid e span) ≡ Plain ∷ expr_parts names e
expr_parts_of_IsValid names e span = ap (expr_parts names) (IsValid_is e span)

pub expr_parts_of_IsInvalid : (names : Names) (e : Expr) (span : Span) → expr_parts names (views.IsInvalid e span) ≡ Plain ∷ expr_parts names e
expr_parts_of_IsInvalid names e span = ap (expr_parts names) (IsInvalid_is e span)

pub expr_parts_of_Group : (names : Names) (e : Expr) (span : Span) → expr_parts names (views.Group e span) ≡ expr_parts names e
expr_parts_of_Group names e span = ap (expr_parts names) (Group_is e span)

pub expr_parts_of_Cast : (names : Names) (target : TypeName) (mode : Option (List ℕ)) (e : Expr) (span : Span) → expr_parts names (views.Cast target mode e span) ≡ Plain ∷ expr_parts names e
expr_parts_of_Cast names target mode e span = ap (expr_parts names) (Cast_is target mode e span)

pub expr_parts_of_Operation : (names : Names) (e : Expr) (others : List Operand) (span : Span) → expr_parts names (views.Operation e others span) ≡ expr_parts names e ++ flat_map (operand_parts names) others
expr_parts_of_Operation names e others span = ap (expr_parts names) (Operation_is e others span) ∙ search (rules, the_lemmas, operand_rows names)

pub expr_parts_of_Postfix : (names : Names) (e : Expr) (suffixes : List Suffix) (span : Span) → expr_parts names (views.Postfix e suffixes span) ≡ expr_parts names e ++ suffix_list_parts names (name_in e) span suffixes
expr_parts_of_Postfix names e suffixes span = ap (expr_parts names) (Postfix_is e suffixes span) ∙ search (rules, the_lemmas, suffix_rows names)

pub ruleset expr_parts_of_plain_boxes = (expr_parts_of_Not, expr_parts_of_Negate, expr_parts_of_IsValid, expr_parts_of_IsInvalid)
