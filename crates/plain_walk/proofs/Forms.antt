-- What an expression does as a statement that has another one in a box, as a program makes it.
use Rattle.std.proofs.Common.{rules, ◌≡◌, ◌∙◌, List, ap}
use Rattle.slicc_ast.specs.declared.tree.span.Span.{Span}
use Rattle.slicc_ast.specs.declared.tree.expression.Expr.{Expr, items-the_row-Suffix}
use Rattle.slicc_ast.specs.declared.tree.expression.Suffix.{Suffix}
use Rattle.slicc_ast.specs.declared.tree.expression.Expr.TheBlock as block
use Rattle.slicc_ast.specs.declared.tree.expression.Expr.TheViews as views
use Rattle.slicc_ast.specs.declared.tree.expression.Expr.TheViews.{the_lemmas}
use Rattle.slicc_ast.proofs.Boxes.{Group_is, Postfix_is}
use Rattle.body_meaning.specs.declared.frame.Frame.{Frame}
use Rattle.body_meaning.specs.Prelude.{Calls, Reading, behind_alone, evaluated}

suffixes_held : (suffixes : List Suffix) → items-the_row-Suffix _ (block.hidden-the_row-Suffix-2 suffixes) ≡ suffixes
suffixes_held suffixes = search (rules, the_lemmas)

module _ (s : Reading) (calls : Calls) (frame : Frame) where
  pub evaluated_of_Group : (e : Expr) (span : Span) → evaluated s calls (views.Group e span) frame ≡ evaluated s calls e frame
  evaluated_of_Group e span = ap (λ (x : Expr). evaluated s calls x frame) (Group_is e span)

  pub evaluated_of_Postfix : (e : Expr) (suffixes : List Suffix) (span : Span)
      → evaluated s calls (views.Postfix e suffixes span) frame ≡ behind_alone s calls e suffixes frame
  evaluated_of_Postfix e suffixes span =
      ap (λ (x : Expr). evaluated s calls x frame) (Postfix_is e suffixes span)
      ∙ ap (λ (xs : List Suffix). behind_alone s calls e xs frame) (suffixes_held suffixes)
